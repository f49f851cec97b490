-- `link::keys::long_term_key_reply` meets its contract.
use Rattle.std.proofs.Common.{rules}
use Rattle.commands.specs.Following.{encryption_change}
use Rattle.commands.specs.Link.{long_term_key_reply}
use Rattle.link.proofs.keys.long_term_key_reply.Goals as goal

pub returns-in-Ok : goal.returns-in-Ok
unfolding long_term_key_reply
returns-in-Ok c k held =
    let event = encryption_change c.args.s.masks c.word_at-handle.result in
    let replied = c.key_reply.ensures event k held in
    search rules

pub returns-in-Err : goal.returns-in-Err
unfolding long_term_key_reply
returns-in-Err c k held =
    let event = encryption_change c.args.s.masks c.word_at-handle.result in
    let replied = c.key_reply.ensures event k held in
    search rules
