-- A loop that marks each key it meets, of keys below `size`: what the marks say, and a turn. For the loops that tell elements
-- apart by small keys.
use Prim.Native.Nat.{ℕ, ◌+◌, ◌<◌}
use native.Mathlib.Omega.{arith}
use mathlib.Core.Bool.{Bool, true, false, or-true, or-false}
use mathlib.Core.Path.{◌≡◌, sym, ◌∙◌}
use mathlib.Core.List.{List, []}
use lib.Dec.{eqb}
use lib.ListN.{length, take, get_or, set, replicate, get_or-replicate}
use lib.Seq.{get_or-set_same, get_or-set_other}
use borrow.Author.Tests.{eqb-true, eqb-false}
use borrow.Table.Steps.{cases}
use Rattle.lists.specs.Lists.{any, keyed}
use Rattle.lists.proofs.Prefix.{any_more}

module _ {A : Type 0} (size : ℕ) (f : A → ℕ) where
  -- met marks the keys of xs, which f gives
  abbrev pub Marks : List Bool → List A → Type 0
  Marks met xs = (k : ℕ) → k < size → get_or met k false ≡ any (keyed f k) xs

  pub marks_none : Marks (replicate size false) []
  unfolding any
  marks_none k b = get_or-replicate size k false false b

  pub marks_more : (met : List Bool) (xs : List A) (i : ℕ) (d : A) → Marks met (take i xs) → length met ≡ size
      → f (get_or xs i d) < size → i < length xs → Marks (set met (f (get_or xs i d)) true) (take (i + 1) xs)
  unfolding any
  marks_more met xs i d m len small h k b =
      let new = f (get_or xs i d) in
      rw (any_more (keyed f k) xs i d h)
      (cases (eqb new k)
      (λ e.
      let same = eqb-true new k e in
      rw (e, or-true, ← same) (get_or-set_same met new true false (omega arith)))
      (λ e.
      rw (e, or-false) (get_or-set_other met new k true false (λ q. eqb-false new k e (sym q)) ∙ m k b)))
