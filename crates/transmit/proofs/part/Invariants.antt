-- `transmit::part` meets its contract: the packets looked at are parted.
use Rattle.lists.specs.Held.{held}
use Rattle.transmit.proofs.Parting.{Parting}
use Rattle.transmit.proofs.part.Given as goal

abbrev pub invariant-loop-w : goal.invariant-loop-w
invariant-loop-w l = Parting l.waiting l.handle l.max (held l.taken) l.len (held l.left) l.w-index
