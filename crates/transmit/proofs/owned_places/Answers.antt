-- `transmit::owned_places` meets its contract.
use Rattle.transmit.proofs.Places.{owned_more, marked_below}
use Rattle.transmit.proofs.owned_places.Goals as goal

pub loop-w-preserved : goal.loop-w-preserved
loop-w-preserved c =
    let xs = c.args.waiting.now in
    let i = c.loop-w.w-index in
    rw c.from.ensures
    (owned_more xs c.loop-w.owned i _ c.loop-w.invariant (marked_below xs i _ c.requires c.loop-w-test.true) c.loop-w-test.true)
