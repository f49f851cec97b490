-- `records::print::Text::push_packets` meets its contract: the lines of the packets before the rest are pushed.
use lib.ListN.{length}
use Rattle.records.specs.Text.{text_of}
use Rattle.records.proofs.Printing.{Printing}
use Rattle.records.proofs.print.Text.push_packets.Given as goal

abbrev pub invariant-loop-packet : goal.invariant-loop-packet
invariant-loop-packet l = Printing l.letter l.octets (text_of l.initial.self) (text_of l.self) l.rest

abbrev pub decreases-loop-packet : goal.decreases-loop-packet
decreases-loop-packet l = length l.rest
