-- `h4::frame` meets its contract: when the loop has come to an index, the octets before it are whole packets.
use Prim.Native.Nat.{◌-◌}
use lib.ListN.{length}
use Rattle.h4.proofs.Framing.{Framing}
use Rattle.h4.proofs.frame.Given as goal

abbrev pub invariant-loop-n : goal.invariant-loop-n
invariant-loop-n l = Framing l.bytes l.at

abbrev pub decreases-loop-n : goal.decreases-loop-n
decreases-loop-n l = length l.bytes - l.at
