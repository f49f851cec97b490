-- `known::baseband::write_auth_payload_timeout` meets its contract: where the timeout is taken, it is the connection's.
use Rattle.std.proofs.Common.{rules, refl}
use Rattle.links.specs.Fields.{with_auth_payload_timeout}
use Rattle.commands.specs.Known.{write_auth_payload_timeout}
use Rattle.commands.proofs.Giving.{gives_status_changed}
use Rattle.known.proofs.baseband.write_auth_payload_timeout.Goals as goal

pub returns : goal.returns
unfolding write_auth_payload_timeout
returns c k held =
    gives_status_changed c.word_at-handle.result (with_auth_payload_timeout c.word_at-timeout.result) (λ x. refl)
    c.set_auth_payload_timeout.ensures (λ size pool. search rules) held
