-- `state::remember` meets its contract.
use Rattle.std.proofs.Common.{rules}
use Rattle.state.proofs.Remembering.{one_more}
use Rattle.state.proofs.history.remember.Goals as goal

pub returns : goal.returns
returns c =
    rw c.to_le_bytes.ensures at
    (one_more c.args.recent.octets _ _ _ c.args.recent.count c.min-kept.result (search rules) c.requires c.min-kept.ensures
    c.put-end.ensures c.put.ensures)
