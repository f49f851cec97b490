-- `links::hold::lowest_octets_differ` meets its contract.
use Rattle.std.proofs.Common.{refl, sym, ◌∙◌, take, arith, rules}
use lib.ListN.{length-set}
use lib.Seq.{take_all}
use Rattle.lists.specs.Lists.{distinct_by}
use Rattle.lists.proofs.Prefix.{differ_more}
use Rattle.lists.proofs.Marking.{marks_none, marks_more}
use Rattle.links.proofs.Marking.{lowest_octet, octets_differ}
use Rattle.links.proofs.hold.lowest_octets_differ.Goals as goal

pub loop-x-init : goal.loop-x-init
unfolding distinct_by
loop-x-init c = record { long = refl; marks = marks_none 256 lowest_octet; differ = refl }

pub loop-x-preserved : goal.loop-x-preserved
loop-x-preserved c =
    let xs = take c.args.n c.args.handles.now in
    let l = c.loop-x in
    let inv = l.invariant in
    let new = sym (inv.marks _ (search rules)) ∙ c.if-met-low.false in
    record {
      long = simp length-set inv.long;
      marks = marks_more 256 lowest_octet l.met xs l.x-index 0 inv.marks inv.long (search rules) (omega arith);
      differ = differ_more lowest_octet xs l.x-index 0 inv.differ new (omega arith);
    }

pub returns : goal.returns
returns c =
    let xs = take c.args.n c.args.handles.now in
    let all = take_all c.loop-x.x-index xs (omega arith) in
    λ e. octets_differ xs (rw (← all) c.loop-x.invariant.differ)
