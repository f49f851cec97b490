-- `transmit::copy` meets its contract.
use Rattle.transmit.proofs.Octets.{copy_fits, copy_more}
use Rattle.transmit.proofs.copy.Goals as goal

pub copy_one-at-requires : goal.copy_one-at-requires
copy_one-at-requires c = copy_fits _ c.loop-w.invariant c.loop-w-test.true

pub loop-w-preserved : goal.loop-w-preserved
loop-w-preserved c = copy_more _ c.loop-w.invariant c.loop-w-test.true c.copy_one-at.ensures
