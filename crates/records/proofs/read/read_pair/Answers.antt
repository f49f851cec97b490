-- `records::read::read_pair` meets its contract.
use Rattle.records.proofs.Numbers.{pair_none, pair_one, pair_both}
use Rattle.records.proofs.read.read_pair.Goals as goal

pub returns-in_err-a : goal.returns-in_err-a
returns-in_err-a c = rw c.from_residual.ensures (pair_none _ c.in_err-a.ensures)

pub returns-in_err-b : goal.returns-in_err-b
returns-in_err-b c =
    rw c.from_residual-in_err-b.ensures (pair_one _ _ _ c.in_ok-a.ensures c.in_err-b.ensures)

pub returns : goal.returns
returns c = pair_both _ _ _ _ c.in_ok-a.ensures c.in_ok-b.ensures
