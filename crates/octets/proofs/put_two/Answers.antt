-- `octets::put_two` meets its contract.
use Rattle.octets.proofs.Writing.{put_then}
use Rattle.octets.proofs.put_two.Goals as goal

pub returns : goal.returns
returns c = put_then c.put-b.ensures c.put_lent.ensures
