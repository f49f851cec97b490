-- `hci::number_of_completed_packets` meets its contract: the four octets before the pairs, and the pairs.
use Rattle.std.proofs.Common.{arith}
use native.Mathlib.Numerals.{one-add}
use Rattle.octets.proofs.Writing.{put_then}
use Rattle.hci.proofs.Pairs.{length_pairs}
use Rattle.hci.proofs.Writers.{written}
use Rattle.hci.proofs.write.number_of_completed_packets.Goals as goal

pub returns : goal.returns
returns c =
    written (omega arith) (rw length_pairs (rw (c.min-k.ensures, one-add) at (put_then c.put-at.ensures c.put_pairs.ensures)))
