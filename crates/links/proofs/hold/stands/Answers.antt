-- `links::hold::stands` meets its contract.
use Rattle.std.proofs.Common.{sym, arith}
use Rattle.lists.specs.Lists.{keyed}
use Rattle.links.specs.Gather.{itself}
use Rattle.lists.proofs.Prefix.{any_more}
use Rattle.links.proofs.hold.stands.Goals as goal

pub loop-y-preserved : goal.loop-y-preserved
loop-y-preserved c =
    let more = any_more (keyed itself c.args.x) c.args.numbers.now c.loop-y.y-index 0 (omega arith) in
    rw c.loop-y.invariant (sym more)
