-- `links::hold::packets_hold` meets its contract: the packets looked at hold, their places differ and are marked. The gathered
-- handles are all that the loop knows of the links, so the invariant speaks of any links that they were gathered from.
use Rattle.std.proofs.Common.{◌≡◌, ℕ, List, true, length, take}
use Rattle.lists.specs.Lists.{all, distinct}
use Rattle.links.specs.declared.Connection.{Connection}
use Rattle.links.specs.Holding.{place_of}
use Rattle.links.specs.Gather.{gathered, packet_holds}
use Rattle.lists.proofs.Marking.{Marks}
use Rattle.links.proofs.hold.packets_hold.Given as goal

abbrev pub invariant-loop-w : goal.invariant-loop-w
invariant-loop-w l = record {
  long : length l.met ≡ 256;
  marks : Marks 256 place_of l.met (take l.w-index l.waiting);
  differ : distinct place_of (take l.w-index l.waiting) ≡ true;
  hold : (k : ℕ) (cs : List Connection) → l.handles ≡ gathered k cs
      → all (packet_holds l.places.count l.places.size (take k cs)) (take l.w-index l.waiting) ≡ true;
}
