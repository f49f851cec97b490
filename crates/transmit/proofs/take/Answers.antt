-- `transmit::take` meets its contract: where the buffer is short nothing changes, else the packets are copied and in flight.
use Rattle.transmit.proofs.Taking.{take_refused, take_copies, take_done}
use Rattle.transmit.proofs.take.Goals as goal

pub returns-then-out-len : goal.returns-then-out-len
returns-then-out-len c = take_refused c.requires (rw c.waiting.ensures at c.part-len.ensures) _ c.if-out-len.true

pub copy-requires : goal.copy-requires
copy-requires c = rw c.as_slice.ensures (take_copies c.requires (rw c.waiting.ensures at c.part-len.ensures) _ c.if-out-len.false)

pub returns : goal.returns
returns c =
    rw (c.len.ensures, c.len-count.ensures)
    (take_done c.requires (rw c.waiting.ensures at c.part-len.ensures) _ c.into_array.ensures c.if-out-len.false
    (rw c.as_slice.ensures at c.copy.ensures))
