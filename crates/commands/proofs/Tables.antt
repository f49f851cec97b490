-- The table of commands: the code's two arrays are its first two columns, and an opcode is found where its place says. For the
-- code of the table, for `dispatch` and for `command`.
use mathlib.Core.Path.{◌≡◌, refl, sym, ◌∙◌}
use Prim.Native.Nat.{ℕ, ◌≤◌, ◌<◌}
use native.Mathlib.Omega.{arith}
use mathlib.Core.List.{List, [], ◌∷◌, map}
use mathlib.Core.Bool.{Bool, true, false, true≢false, cond}
use lib.Dec.{eqb, ltb}
use lib.ListN.{get_or, get_or-map, get_or-eq_default}
use borrow.Author.Tests.{ltb-true, ne_eqb}
use borrow.Table.Steps.{cases}
use Rattle.std.proofs.lemmas.List.{get_or_default}
use Rattle.lists.specs.Lists.{first_at, all}
use Rattle.lists.proofs.Tests.{all_at}
use Rattle.commands.specs.Table.{Size, octets, any, never, fits, Row, opcode_of, no_row, find, rows}

-- ---- sizes as numbers: 256 where the command looks itself
abbrev pub size_number : Size → ℕ
size_number (octets n) = n
size_number any = 256
size_number never = 0

abbrev pub row_number : Row → ℕ
row_number r = size_number r.size

-- a size that its number tells
abbrev told : Size → Bool
told (octets n) = ltb n 256
told any = true
told never = false

told_fits : (size : Size) (n : ℕ) → told size ≡ true
    → fits size n ≡ cond (eqb (size_number size) 256) true (eqb n (size_number size))
told_fits (octets k) n e = rw (ne_eqb k 256 (λ same. omega (arith, ltb-true k 256 e)))
told_fits any n e = refl
told_fits never n e = absurd (true≢false (sym e))

all_told : all (λ r. told r.size) rows ≡ true
unfolding all
all_told = refl

-- the size at a place, as the code tests it
pub size_at : (i n number : ℕ) → number ≡ get_or (map row_number rows) i number → i < 71
    → fits (get_or rows i no_row).size n ≡ cond (eqb number 256) true (eqb n number)
size_at i n number e h =
    let same : number ≡ row_number (get_or rows i no_row) =
    e ∙ get_or_default (map row_number rows) i number 0 h ∙ get_or-map row_number rows i no_row in
    rw same (told_fits (get_or rows i no_row).size n (all_at (λ r. told r.size) rows i no_row all_told h))

-- past the table no size fits
pub size_past : (i n : ℕ) → 71 ≤ i → fits (get_or rows i no_row).size n ≡ false
size_past i n h = rw (get_or-eq_default rows no_row h)

-- ---- an opcode in the table

-- the place of an opcode in a table, or how many rows there are
abbrev pub place_in : ℕ → List Row → ℕ
place_in op l = first_at (λ x. eqb x op) (map opcode_of l)

-- the row of an opcode stands at its place
pub find_at : (op : ℕ) (l : List Row) → find op l ≡ get_or l (place_in op l) no_row
unfolding find first_at
find_at op [] = refl
find_at op (r ∷ l) = cases (eqb r.opcode op) (λ e. rw e) (λ e. rw e (find_at op l))
