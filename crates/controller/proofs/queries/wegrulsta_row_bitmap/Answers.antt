-- `queries::wegrulsta_row_bitmap` meets its contract: the bit map of rows that fit, and zeros where they do not.
use Rattle.controller.proofs.Finding.{finds_no_bitmap, finds_bitmap}
use Rattle.controller.proofs.queries.wegrulsta_row_bitmap.Goals as goal

pub returns-in_default : goal.returns-in_default
returns-in_default c = rw c.into.ensures (finds_no_bitmap c.in_default.ensures.asked)

pub returns : goal.returns
returns c =
    let same = c.in-Some.ensures.same in
    finds_bitmap c.in-Some.ensures.asked (rw (same.1, same.2) at c.row_bitmap-map.ensures)
