-- `records::bench::Unit::step` meets its contract.
use Rattle.records.proofs.Making.{steps_none, steps_record}
use Rattle.records.proofs.bench.Unit.step.Goals as goal

pub invariant_of-self : goal.invariant_of-self
invariant_of-self c = record { together = c.make.ensures.running.together }

pub returns-in_err-record : goal.returns-in_err-record
returns-in_err-record c = rw c.from_residual.ensures (steps_none c.in_err-record.ensures)

pub returns : goal.returns
returns c = steps_record _ c.in_ok-record.ensures c.make.ensures
