-- `records::input::run_lines` meets its contract: the answers to the lines before the rest are written.
use borrow.Author.Rules.{rules}
use Rattle.records.proofs.Running.{answering_begin, answering_full, answering_all, answering_none, answering_turn, behind_less}
use Rattle.records.proofs.input.run_lines.Goals as goal

pub loop-rest-init : goal.loop-rest-init
loop-rest-init c = answering_begin c.requires

pub returns-then-out-p-lt512 : goal.returns-then-out-p-lt512
returns-then-out-p-lt512 c = answering_full c.loop-rest.invariant c.if-out-p-lt512.true

pub returns-in_default : goal.returns-in_default
returns-in_default c =
    let split = c.split_line.ensures in
    answering_none c.loop-rest.invariant (search rules) split.line split.behind c.in_default.ensures

pub loop-rest-smaller : goal.loop-rest-smaller
loop-rest-smaller c = behind_less _ _ (search rules) c.split_line.ensures.behind

pub loop-rest-preserved : goal.loop-rest-preserved
loop-rest-preserved c =
    let split = c.split_line.ensures in
    answering_turn c.loop-rest.invariant (search rules) split.line split.behind c.in-Some.ensures c.if-out-p-lt512.false
    (rw c.as_slice.ensures at c.put-p.ensures)

pub returns : goal.returns
returns c = answering_all c.loop-rest.invariant (search rules)
