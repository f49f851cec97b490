-- `links::hold::packets_hold` meets its contract.
use Rattle.std.proofs.Common.{refl, sym, ◌∙◌, length, take, arith, rules}
use mathlib.Core.Bool.{and-false}
use lib.ListN.{length-set}
use lib.Seq.{take_all}
use Rattle.lists.specs.Lists.{all, distinct_by, distinct}
use Rattle.lists.proofs.Prefix.{all_more, differ_more, differ_fails, all_not}
use Rattle.lists.proofs.Marking.{marks_none, marks_more}
use Rattle.links.specs.Holding.{place_of}
use Rattle.links.specs.Gather.{packet_holds}
use Rattle.links.proofs.hold.packets_hold.Goals.{then-met-place-via-then-met-place}
use Rattle.links.proofs.hold.packets_hold.Goals.{then-met-place-via-else-met-place+then-not-packet_holds}
use Rattle.links.proofs.hold.packets_hold.Goals as goal

pub loop-w-init : goal.loop-w-init
unfolding all distinct_by
loop-w-init c = record { long = refl; marks = marks_none 256 place_of; differ = refl; hold = λ k cs e. refl }

pub returns-then-met-place : goal.returns-then-met-place
returns-then-met-place c =
    let s = c.args in
    let xs = s.waiting.now in
    let l = c.loop-w in
    let whole = take_all (length xs) xs (omega arith) in
    elim c.then-met-place.branch [
      | then-met-place-via-then-met-place w ↦
          let met = sym (l.invariant.marks _ (search rules)) ∙ (rw c.from-place.ensures at w.if-met-place.true) in
          let fails = differ_fails place_of xs l.w-index _ (length xs) met (omega arith) (omega arith) in
          λ k cs e. rw (rw whole at fails)
      | then-met-place-via-else-met-place+then-not-packet_holds w ↦ λ k cs e.
          let no = sym (w.packet_holds.ensures k cs e) ∙ w.if-not-packet_holds.true in
          let fails = all_not (packet_holds s.places.count s.places.size (take k cs)) xs (length xs) l.w-index _ no (omega arith)
          (omega arith) in
          rw (rw whole at fails) (sym (and-false (distinct place_of xs)))
    ]

pub loop-w-preserved : goal.loop-w-preserved
loop-w-preserved c =
    let s = c.args in
    let xs = s.waiting.now in
    let l = c.loop-w in
    let inv = l.invariant in
    let new = sym (inv.marks _ (search rules)) ∙ (rw c.from-place.ensures at c.if-met-place.false) in
    rw c.from-place.ensures
    (record {
      long = simp length-set inv.long;
      marks = marks_more 256 place_of l.met xs l.w-index _ inv.marks inv.long (search rules) (omega arith);
      differ = differ_more place_of xs l.w-index _ inv.differ new (omega arith);
      hold = λ k cs e.
          all_more (packet_holds s.places.count s.places.size (take k cs)) xs l.w-index _ (inv.hold k cs e)
          (sym (c.packet_holds.ensures k cs e) ∙ c.if-not-packet_holds.false) (omega arith);
    })

pub returns : goal.returns
returns c =
    let xs = c.args.waiting.now in
    let l = c.loop-w in
    let whole = take_all l.w-index xs (omega arith) in
    λ k cs e. rw (← whole, l.invariant.differ, l.invariant.hold k cs e)
