-- `links::hold::handles_of` meets its contract: the first i are gathered.
use Rattle.std.proofs.Common.{◌≡◌, take, true}
use Rattle.lists.specs.Lists.{all}
use Rattle.links.specs.Gather.{gathered, is_handle}
use Rattle.links.proofs.hold.handles_of.Given as goal

abbrev pub invariant-loop-i : goal.invariant-loop-i
invariant-loop-i l = (l.handles ≡ gathered l.i l.connections) × (all is_handle (take l.i l.connections) ≡ true)
