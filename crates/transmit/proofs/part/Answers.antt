-- `transmit::part` meets its contract.
use Rattle.std.proofs.Common.{arith}
use Rattle.transmit.proofs.Parting.{part_none, part_take, part_keep}
use Rattle.transmit.proofs.part.Goals.{then-w-handle+then-len-max, else-w-handle}
use Rattle.transmit.proofs.part.Goals.{else-w-handle-via-then-w-handle+else-len-max, else-w-handle-via-else-w-handle}
use Rattle.transmit.proofs.part.Goals as goal

pub loop-w-init : goal.loop-w-init
loop-w-init c = rw (c.new-taken.ensures, c.over-left.ensures) (part_none _ _ _)

pub loop-w-preserved : goal.loop-w-preserved
loop-w-preserved c =
    let l = c.loop-w in
    elim c.if-w-handle.branch [
      | then-w-handle+then-len-max w ↦
          rw (w.taken-is, w.len-is, w.left-is, w.push.ensures, w.from-len.ensures)
          (part_take _ l.invariant c.loop-w-test.true w.if-w-handle.true (omega arith) (omega arith))
      | else-w-handle w ↦
          rw (w.taken-is, w.len-is, w.left-is, w.push-else-w-handle.ensures)
          (part_keep _ l.invariant c.loop-w-test.true
          (λ own. elim w.else-w-handle.branch [
            | else-w-handle-via-then-w-handle+else-len-max v ↦ omega arith
            | else-w-handle-via-else-w-handle v ↦ absurd (v.if-w-handle.false own)
          ]))
    ]
