-- The table of round constants: one test that is computed over its entries, and the rule at each.
use mathlib.Core.Path.{◌≡◌, ap}
use mathlib.Core.List.{List, [], ◌∷◌}
use mathlib.Core.Bool.{Bool}
use Prim.Native.Nat.{ℕ, ◌-◌, ◌<◌}
use lib.Dec.{eqb, eqb→eq}
use lib.ListN.{get_or}
use Rattle.lists.proofs.Table.{at}
use Rattle.aes.specs.Field.{xtime}
use Rattle.aes.specs.Aes.{power, rcon}

-- the entries of RCON, as the code has them
abbrev pub table : List ℕ
table = 0x01 ∷ 0x01 ∷ 0x02 ∷ 0x04 ∷ 0x08 ∷ 0x10 ∷ 0x20 ∷ 0x40 ∷ 0x80 ∷ 0x1b ∷ 0x36 ∷ []

right : ℕ → ℕ → Bool
right k x = eqb x (power (k - 1))

pub rule : (k : ℕ) → k < 11 → get_or table k 0 ∷ 0 ∷ 0 ∷ 0 ∷ [] ≡ rcon k
unfolding right xtime
rule k h = ap (λ (x : ℕ). x ∷ 0 ∷ 0 ∷ 0 ∷ []) (eqb→eq (get_or table k 0) (power (k - 1)) (at right table 0 tt k h))
