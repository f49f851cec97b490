-- `links::hold::stands` meets its contract: `met` says whether the number stands among those looked at.
use Rattle.std.proofs.Common.{◌≡◌, take}
use Rattle.lists.specs.Lists.{any, keyed}
use Rattle.links.specs.Gather.{itself}
use Rattle.links.proofs.hold.stands.Given as goal

abbrev pub invariant-loop-y : goal.invariant-loop-y
invariant-loop-y l = l.met ≡ any (keyed itself l.x) (take l.y-index l.numbers)
