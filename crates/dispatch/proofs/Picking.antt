-- The last arm of a match on an opcode, which stands for the last opcode of its rows: no other is left for it, since `requires`
-- says that a row has the opcode.
use mathlib.Core.Path.{◌≡◌}
use Prim.Native.Nat.{ℕ}
use mathlib.Core.List.{List, [], ◌∷◌}
use mathlib.Core.Bool.{true}
use lib.Dec.{eqb}
use borrow.Author.Tests.{eqb-true, eqb-false}
use borrow.Table.Steps.{cases}
use Rattle.commands.specs.Table.{Row, sized}
use Rattle.commands.proofs.Reached.{Passed, last_arm_never}

-- the rows of the arms before the last
abbrev pub but_last : List Row → List Row
but_last [] = []
but_last (r ∷ []) = []
but_last (r ∷ (next ∷ l)) = r ∷ but_last (next ∷ l)

abbrev pub last_opcode : List Row → ℕ
last_opcode [] = 0
last_opcode (r ∷ []) = r.opcode
last_opcode (r ∷ (next ∷ l)) = last_opcode (next ∷ l)

-- an opcode that is none of those before and not the last is none at all
passed_last : (op : ℕ) (before : Type 0) (l : List Row) → Passed op before (but_last l) → (op ≡ last_opcode l → ⊥)
    → Passed op before l
passed_last op before [] x other = x
passed_last op before (r ∷ []) x other = (x, other)
passed_last op before (r ∷ (next ∷ l)) x other = passed_last op (before × (op ≡ r.opcode → ⊥)) (next ∷ l) x other

-- `rest` is what the `match` leaves for its last arm
pub the_last : (op n : ℕ) (l : List Row) → Passed op (Unit {0}) (but_last l) → sized op l n ≡ true → op ≡ last_opcode l
the_last op n l rest fits =
    cases (eqb op (last_opcode l)) (λ e. eqb-true op (last_opcode l) e)
    (λ e. absurd (last_arm_never op n l (passed_last op (Unit {0}) l rest (eqb-false op (last_opcode l) e)) fits))
