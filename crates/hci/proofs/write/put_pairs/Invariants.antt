-- `put_pairs` meets its contract: after so many turns as many pairs are written.
use Rattle.std.proofs.Common.{◌≡◌, ◌+◌, ◌*◌, length, take}
use Rattle.octets.specs.Octets.{Put}
use Rattle.hci.specs.Packet.{pairs}
use Rattle.hci.proofs.write.put_pairs.Given as goal

abbrev pub invariant-loop-i : goal.invariant-loop-i
invariant-loop-i l = record {
  place : l.p ≡ l.at + 4 * l.i;
  written : Put l.initial.out l.at (pairs (take l.i l.handles) (take l.i l.counts)) l.p l.out;
}
