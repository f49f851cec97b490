-- The arms of a `match` on the opcode: the last arm is never reached. For `dispatch`.
use mathlib.Core.Path.{◌≡◌, sym}
use Prim.Native.Nat.{ℕ}
use mathlib.Core.List.{List, [], ◌∷◌}
use mathlib.Core.Bool.{true, true≢false}
use borrow.Author.Tests.{ne_eqb}
use Rattle.commands.specs.Table.{Row, find, sized}

-- what the `match` leaves for its last arm: the opcode is that of no row. `before` is what the arms before these say
abbrev pub Passed : ℕ → Type 0 → List Row → Type 0
Passed op before [] = before
Passed op before (r ∷ l) = Passed op (before × (op ≡ r.opcode → ⊥)) l

passed_before : (op : ℕ) (before : Type 0) (l : List Row) → Passed op before l → before
passed_before op before [] x = x
passed_before op before (r ∷ l) x = (passed_before op (before × (op ≡ r.opcode → ⊥)) l x).0

no_row_lem : (op n : ℕ) (before : Type 0) (l : List Row) → Passed op before l → sized op l n ≡ true → ⊥
unfolding find
no_row_lem op n before [] x h = true≢false (sym h)
no_row_lem op n before (r ∷ l) x h =
    let other = (passed_before op (before × (op ≡ r.opcode → ⊥)) l x).1 in
    no_row_lem op n (before × (op ≡ r.opcode → ⊥)) l x (rw (ne_eqb r.opcode op (λ e. other (sym e))) at h)

-- The last arm, `rest` being the `match`'s, which is called only where the number of parameters is right: without a
-- row none is. This is why the last arm of the source's `test_and_power`, which answers Unknown Command, is never reached.
pub last_arm_never : (op n : ℕ) (l : List Row) → Passed op (Unit {0}) l → sized op l n ≡ true → ⊥
last_arm_never op n l rest fits = no_row_lem op n (Unit {0}) l rest fits
