-- `transmit::owned_places` meets its contract: the places of the packets looked at are marked.
use Rattle.std.proofs.Common.{take}
use Rattle.transmit.specs.Steps.{Marks}
use Rattle.transmit.proofs.owned_places.Given as goal

abbrev pub invariant-loop-w : goal.invariant-loop-w
invariant-loop-w l = Marks (take l.w-index l.waiting) l.owned
