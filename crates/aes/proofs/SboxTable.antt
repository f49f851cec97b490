-- The S-box's table: one test that is computed over all 256 entries, against the affine map of the field's inverse,
-- and one lemma that gives the rule at each entry.
use mathlib.Core.Path.{◌≡◌, sym, subst}
use mathlib.Core.List.{List}
use mathlib.Core.Bool.{Bool}
use Prim.Native.Nat.{ℕ, ◌<◌}
use lib.Dec.{T, eqb, eqb→eq}
use lib.ListN.{length, get_or}
use Rattle.lists.proofs.Table.{at, every}
use Rattle.aes.specs.Field.{sbox, SboxTable}

unfoldable pub right : ℕ → ℕ → Bool
right k x = eqb x (sbox k)

unfoldable pub passes : List ℕ → Bool
passes t = every right 0 t

pub rule : (t : List ℕ) → T (passes t) → length t ≡ 256 → SboxTable t
unfolding right passes
rule t p n =
    record {
      entry = λ k h. eqb→eq (get_or t k 0) (sbox k) (at right t 0 p k (subst (λ (m : ℕ). k < m) (sym n) h));
    }
