-- `records::read::read_packet` meets its contract: after j turns the octets of the first j pairs stand in the buffer.
use Rattle.records.proofs.Hex.{Pairs}
use Rattle.records.proofs.read.read_packet.Given as goal

abbrev pub invariant-loop-j : goal.invariant-loop-j
invariant-loop-j l = Pairs l.rest l.initial.packet l.packet l.j
