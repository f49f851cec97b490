-- `known::link_control::disconnect` meets its contract: where the reason is taken, it is the connection's.
use Rattle.std.proofs.Common.{rules, refl}
use Rattle.octets.specs.Octets.{octet}
use Rattle.links.specs.Fields.{with_terminating}
use Rattle.commands.specs.Known.{disconnect}
use Rattle.commands.proofs.Giving.{gives_status_changed}
use Rattle.known.proofs.link_control.disconnect.Goals as goal

pub returns : goal.returns
unfolding disconnect
returns c k held =
    gives_status_changed c.word_at-handle.result (with_terminating (octet c.args.p.now 2)) (λ x. refl) c.set_terminating.ensures
    (λ size pool. search rules) held
