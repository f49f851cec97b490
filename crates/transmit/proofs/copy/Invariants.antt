-- `transmit::copy` meets its contract: the octets of the packets looked at are written.
use Rattle.transmit.proofs.Octets.{Copying}
use Rattle.transmit.proofs.copy.Given as goal

abbrev pub invariant-loop-w : goal.invariant-loop-w
invariant-loop-w l = Copying l.packets l.places.size l.pool l.initial.out l.out l.at l.w-index
