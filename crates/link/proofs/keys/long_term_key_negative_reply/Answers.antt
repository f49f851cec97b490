-- `link::keys::long_term_key_negative_reply` meets its contract.
use Rattle.std.proofs.Common.{rules, []}
use Rattle.commands.specs.Link.{long_term_key_negative_reply}
use Rattle.link.proofs.keys.long_term_key_negative_reply.Goals as goal

pub returns : goal.returns
unfolding long_term_key_negative_reply
returns c k held = let replied = c.key_reply.ensures [] k held in search rules
