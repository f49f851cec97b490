-- `octets::put_lent` meets its contract: after j turns the first j octets of `src` are written.
use mathlib.Core.Path.{refl}
use Rattle.octets.proofs.Copying.{begin, turn, end}
use Rattle.octets.proofs.put_lent.Goals as goal

pub loop-j-init : goal.loop-j-init
loop-j-init c = begin _ _ _

pub loop-j-preserved : goal.loop-j-preserved
loop-j-preserved c =
    turn c.loop-j.invariant c.requires c.loop-j-test.true refl

pub returns : goal.returns
returns c = end c.loop-j.invariant c.requires c.loop-j-test.false
