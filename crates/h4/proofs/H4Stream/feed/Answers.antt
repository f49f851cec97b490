-- `h4::H4Stream::feed` meets its contract: it finds no room, or writes the octets that wait and the new ones at the front of the
-- buffer and frames them.
use Rattle.std.proofs.Common.{ℕ, sym, arith, Ok, Err, length-take}
use Rattle.std.proofs.lemmas.Result.{err_from_is_err_and}
use Rattle.h4.proofs.Feeding.{fed, framed_le}
use Rattle.h4.proofs.H4Stream.feed.Goals as goal

pub returns-in_err-self : goal.returns-in_err-self
returns-in_err-self c =
    let p = err_from_is_err_and c.from_residual.result c.from_residual.ensures.1 in
    rw (p.1, p.2)
    (fed _ _ _ (Err c.in_err-self.field-0.0) c.move_to_front-at.ensures c.put_lent-end.ensures (omega arith) c.in_err-self.ensures)

pub overflow_sub-self : goal.overflow_sub-self
overflow_sub-self c = omega (arith, framed_le _ _ (sym c.in_ok-self.ensures), length-take {A = ℕ})

pub returns : goal.returns
returns c = fed _ _ _ (Ok c.in_ok-self.field-0) c.move_to_front-at.ensures c.put_lent-end.ensures (omega arith) c.in_ok-self.ensures
