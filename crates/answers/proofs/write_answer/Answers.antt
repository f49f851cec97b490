-- `answers::write_answer` meets its contract: the event stands behind the acknowledgement.
use Rattle.octets.proofs.Writing.{put_then}
use Rattle.answers.proofs.write_answer.Goals as goal

pub returns : goal.returns
returns c = put_then c.acknowledge-at.ensures c.write_event.ensures
