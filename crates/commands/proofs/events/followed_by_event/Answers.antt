-- `commands::events::followed_by_event` meets its contract.
use Rattle.std.proofs.Common.{arith}
use Rattle.answers.specs.Answers.{answer_of}
use Rattle.commands.proofs.Followed.{follows, wrote_front}
use Rattle.commands.proofs.events.followed_by_event.Goals as goal

pub returns : goal.returns
returns c =
    follows (answer_of c.args.answer) c.followed_by.ensures
    (rw c.unwrap_or-n.ensures (wrote_front c.event.ensures (omega arith) (omega arith)))
