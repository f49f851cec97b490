-- `links::hold::lowest_octets_differ` meets its contract: the lowest octets of the numbers looked at differ and are marked.
use Rattle.std.proofs.Common.{◌≡◌, true, length, take}
use Rattle.lists.specs.Lists.{distinct}
use Rattle.lists.proofs.Marking.{Marks}
use Rattle.links.proofs.Marking.{lowest_octet}
use Rattle.links.proofs.hold.lowest_octets_differ.Given as goal

abbrev pub invariant-loop-x : goal.invariant-loop-x
invariant-loop-x l = record {
  long : length l.met ≡ 256;
  marks : Marks 256 lowest_octet l.met (take l.x-index (take l.n l.handles));
  differ : distinct lowest_octet (take l.x-index (take l.n l.handles)) ≡ true;
}
