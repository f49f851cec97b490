-- `h4::frame` meets its contract: when the loop has come to an index, the octets before it are whole packets.
use Rattle.std.proofs.Common.{refl, sym, ap, arith, ◌∙◌, Ok, Err}
use Rattle.std.proofs.lemmas.Result.{err_from_is_err_and}
use borrow.Author.Tests.{lt-leb}
use Rattle.h4.proofs.Reading.{packet_size}
use Rattle.h4.proofs.Framing.{turn, ends}
use Rattle.h4.proofs.frame.Goals as goal

pub loop-n-smaller : goal.loop-n-smaller
loop-n-smaller c = omega (arith, packet_size _ c.in-Some.n (sym c.in_ok-n.ensures ∙ ap Ok c.in-Some.is))

pub loop-n-preserved : goal.loop-n-preserved
loop-n-preserved c = turn _ _ c.loop-n.invariant c.in-Some.n (sym c.in_ok-n.ensures ∙ ap Ok c.in-Some.is) c.if-n-bytes.true

pub returns-in_ok-n : goal.returns-in_ok-n
returns-in_ok-n c = ends _ _ c.loop-n.invariant (Ok c.in_ok-n.field-0) c.in_ok-n.ensures (cc)

pub returns-else-n-bytes : goal.returns-else-n-bytes
returns-else-n-bytes c =
    ends _ _ c.loop-n.invariant (Ok c.in_ok-n.field-0) c.in_ok-n.ensures
    (rw (c.in-Some.is, lt-leb _ _ c.if-n-bytes.false))

pub returns-in_err-n : goal.returns-in_err-n
returns-in_err-n c =
    let p = err_from_is_err_and c.from_residual.result c.from_residual.ensures.1 in
    rw (p.1, p.2) (ends _ _ c.loop-n.invariant (Err c.in_err-n.field-0.0) c.in_err-n.ensures refl)
