-- The column of parts beside the table of commands: an opcode whose place in the table has a part in the column has its row among
-- the rows of that part. For `part_at`, and for `command`, which picks the part by the place.
use mathlib.Core.Path.{◌≡◌, refl, sym, ap}
use Prim.Native.Nat.{ℕ, ◌<◌}
use native.Mathlib.Omega.{arith}
use mathlib.Core.List.{List, [], ◌∷◌}
use lib.Dec.{eqb}
use lib.ListN.{length, get_or}
use borrow.Author.Tests.{eq-eqb}
use borrow.Table.Steps.{cases}
use Rattle.lists.specs.Lists.{first_at}
use Rattle.commands.specs.Table.{Row, find, rows}
use Rattle.commands.proofs.Tables.{place_in}
use Rattle.dispatch.specs.declared.Part.{Part}
use Rattle.dispatch.specs.declared.Part.TheVariants.{Nothing}
use Rattle.dispatch.specs.Parts.{part_number, parts, chosen, rows_of}

-- an opcode of the table, which has this part beside it, is found among the rows of the part
pub part_row : (op : ℕ) (part : Part) (l : List Row) (column : List Part) → length l ≡ length column → place_in op l < length l
    → get_or column (place_in op l) Nothing ≡ part → find op l ≡ find op (chosen part l column)
unfolding find first_at
part_row op part [] column same h beside = refl
part_row op part (r ∷ l) [] same h beside = absurd (omega arith)
part_row op part (r ∷ l) (other ∷ column) same h beside =
    cases (eqb r.opcode op)
    (λ e. rw (eq-eqb (part_number other) (part_number part) (ap part_number (rw e at beside)), e))
    (λ e.
    let rest = part_row op part l column (omega arith) (let x = rw e at h in omega arith) (rw e at beside) in
    cases (eqb (part_number other) (part_number part)) (λ f. rw (f, e) rest) (λ f. rw (f, e) rest))

-- the same of the whole table
pub part_of : (op : ℕ) (part : Part) → place_in op rows < 71 → part ≡ get_or parts (place_in op rows) Nothing
    → find op rows ≡ find op (rows_of part)
part_of op part h beside = part_row op part rows parts refl h (sym beside)
