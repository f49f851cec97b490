-- `records::print::Text::push_packets` meets its contract: the lines of the packets before the rest are pushed.
use Rattle.records.proofs.Printing.{printing_fits, printing_less, printing_turn, printing_ends}
use Rattle.records.proofs.print.Text.push_packets.Goals as goal

pub push_packet-requires : goal.push_packet-requires
push_packet-requires c = printing_fits c.loop-packet.invariant c.in-Some.ensures.0 c.in-Some.ensures.2

pub loop-packet-smaller : goal.loop-packet-smaller
loop-packet-smaller c = printing_less c.loop-packet.invariant c.in-Some.ensures.1 c.in-Some.ensures.2

pub loop-packet-preserved : goal.loop-packet-preserved
loop-packet-preserved c =
    printing_turn c.loop-packet.invariant c.in-Some.ensures.0 c.in-Some.ensures.1 c.in-Some.ensures.2 c.push_packet.ensures

pub returns : goal.returns
returns c = printing_ends c.loop-packet.invariant c.in_default.ensures
