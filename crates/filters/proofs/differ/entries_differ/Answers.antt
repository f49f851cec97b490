-- `filters::differ::entries_differ` meets its contract.
use Rattle.std.proofs.Common.{◌≡◌, arith, take, false, sym, ◌∙◌}
use Rattle.lists.specs.Lists.{any}
use Rattle.filters.specs.Filters.{has_identity}
use Rattle.filters.proofs.Differing.{differ_begin, unmet_none, differ_turn, differ_stop, differ_end}
use Rattle.filters.proofs.differ.entries_differ.Goals.{else-met-mark-via-then-met-mark+else-stands_before}
use Rattle.filters.proofs.differ.entries_differ.Goals.{else-met-mark-via-else-met-mark}
use Rattle.filters.proofs.differ.entries_differ.Goals as goal

pub loop-i-init : goal.loop-i-init
loop-i-init g c = differ_begin c.args.entries.now

pub returns-then-stands_before : goal.returns-then-stands_before
returns-then-stands_before g c =
    let found = sym c.stands_before.ensures ∙ c.if-stands_before.true in
    differ_stop c.args.entries.now c.loop-i-test.true c.index-entries-i.is (rw c.identity.ensures at found)

pub loop-i-preserved : goal.loop-i-preserved
loop-i-preserved g c =
    let xs = c.args.entries.now in
    let more = c.loop-i-test.true in
    let is = c.index-entries-i.is in
    let inv = c.loop-i.invariant in
    let read = c.low_of.ensures in
    let none : any (has_identity (take 7 c.index-entries-i.result)) (take c.loop-i.i xs) ≡ false =
    elim c.else-met-mark.branch [
      | else-met-mark-via-then-met-mark+else-stands_before m ↦
          let found = sym m.stands_before.ensures ∙ m.if-stands_before.false in
          rw m.identity.ensures at found
      | else-met-mark-via-else-met-mark m ↦ unmet_none xs more is inv read m.if-met-mark.false
    ] in
    differ_turn xs more is inv read none

pub returns : goal.returns
returns g c = differ_end c.args.entries.now c.loop-i.invariant (omega arith)
