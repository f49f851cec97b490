-- `links::hold::times` meets its contract: `t` counts the numbers looked at.
use Rattle.std.proofs.Common.{◌≡◌, ◌≤◌, take}
use Rattle.links.specs.Gather.{times_in}
use Rattle.links.proofs.hold.times.Given as goal

abbrev pub invariant-loop-y : goal.invariant-loop-y
invariant-loop-y l = (l.t ≤ l.y-index) × (l.t ≡ times_in l.x (take l.y-index l.numbers))
