-- `records::read::read_opening` meets its contract.
use Rattle.records.proofs.Numbers.{opening_none, opening_one, opening_two}
use Rattle.records.proofs.read.read_opening.Goals as goal

pub returns-in_err-handle : goal.returns-in_err-handle
returns-in_err-handle c = λ packet. rw c.from_residual.ensures (opening_none _ c.in_err-handle.ensures)

pub returns-in_err-interval : goal.returns-in_err-interval
returns-in_err-interval c =
    λ packet. rw c.from_residual-in_err-interval.ensures (opening_one _ _ _ c.in_ok-handle.ensures c.in_err-interval.ensures)

pub returns-in_err-latency : goal.returns-in_err-latency
returns-in_err-latency c =
    λ packet.
    rw c.from_residual-in_err-latency.ensures
    (opening_two _ _ _ _ _ _ c.in_ok-handle.ensures c.in_ok-interval.ensures c.in_err-latency.ensures)

pub returns : goal.returns
returns c =
    λ packet. opening_two _ _ _ _ _ _ c.in_ok-handle.ensures c.in_ok-interval.ensures c.in_ok-latency.ensures
