-- In which half of the table the opcodes of the commands that change nothing stand, for `read`; and what a row says of the row
-- that it is, for `read` and for `command`.
use mathlib.Core.Path.{◌≡◌, refl, ap}
use Prim.Native.Nat.{ℕ, ◌≤◌, ◌<◌}
use native.Mathlib.Omega.{arith}
use mathlib.Core.List.{List, [], ◌∷◌, ◌++◌}
use mathlib.Core.Bool.{true, cond, and-eq-true_iff}
use lib.Dec.{eqb, ltb, leb}
use borrow.Author.Tests.{ltb-true, leb-true, ne_eqb}
use Rattle.profile.specs.declared.ControllerRow.{ControllerRow}
use Rattle.answers.specs.declared.Answer.{Answer}
use Rattle.state.specs.declared.Controller.{Controller}
use Rattle.lists.specs.Lists.{all}
use Rattle.commands.specs.Outcome.{Given, Gives}
use Rattle.commands.specs.Table.{Row, no_row, find, fits}
use Rattle.dispatch.specs.declared.Part.TheVariants.{Nothing}
use Rattle.dispatch.specs.Parts.{rows_of, known_reads, le_reads}

-- ---- the two halves: the rows of the first have opcodes below a bound, those of the second have not

-- an opcode below the bound has no row in the second
find_none : (op bound : ℕ) (l : List Row) → op < bound → all (λ r. leb bound r.opcode) l ≡ true → find op l ≡ no_row
unfolding find all
find_none op bound [] h high = refl
find_none op bound (r ∷ l) h high =
    let both = (and-eq-true_iff (leb bound r.opcode) (all (λ x. leb bound x.opcode) l)).0 high in
    rw (ne_eqb r.opcode op (λ e. omega (arith, leb-true bound r.opcode both.0))) (find_none op bound l h both.1)

find_low : (op bound : ℕ) (l rest : List Row) → op < bound → all (λ r. leb bound r.opcode) rest ≡ true
    → find op (l ++ rest) ≡ find op l
unfolding find
find_low op bound [] rest h high = find_none op bound rest h high
find_low op bound (r ∷ l) rest h high = ap (λ (x : Row). cond (eqb r.opcode op) r x) (find_low op bound l rest h high)

find_high : (op bound : ℕ) (l rest : List Row) → bound ≤ op → all (λ r. ltb r.opcode bound) l ≡ true
    → find op (l ++ rest) ≡ find op rest
unfolding find all
find_high op bound [] rest h low = refl
find_high op bound (r ∷ l) rest h low =
    let both = (and-eq-true_iff (ltb r.opcode bound) (all (λ x. ltb x.opcode bound) l)).0 low in
    rw (ne_eqb r.opcode op (λ e. omega (arith, ltb-true r.opcode bound both.0))) (find_high op bound l rest h both.1)

le_high : all (λ r. leb 0x2000 r.opcode) le_reads ≡ true
unfolding all
le_high = refl

known_low : all (λ r. ltb r.opcode 0x2000) known_reads ≡ true
unfolding all
known_low = refl

pub known_half : (op : ℕ) → op < 0x2000 → find op (rows_of Nothing) ≡ find op known_reads
known_half op h = find_low op 0x2000 known_reads le_reads h le_high

pub le_half : (op : ℕ) → 0x2000 ≤ op → find op (rows_of Nothing) ≡ find op le_reads
le_half op h = find_high op 0x2000 known_reads le_reads h known_low

-- what a row says carries over to the row that it is
pub row_fits : {x y : Row} (n : ℕ) → x ≡ y → fits x.size n ≡ true → fits y.size n ≡ true
row_fits n same h = rw same at h

pub row_gives : {x y : Row} {g : Given} {k : ControllerRow} {s t : Controller} {a : Answer} → x ≡ y → Gives (y.does g) k s t a
    → Gives (x.does g) k s t a
row_gives same h = rw same h
