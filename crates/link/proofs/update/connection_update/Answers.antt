-- `link::update::connection_update` meets its contract.
use Rattle.std.proofs.Common.{rules, refl}
use Rattle.links.specs.Fields.{with_parameters}
use Rattle.commands.specs.Link.{connection_update}
use Rattle.commands.proofs.Giving.{answered_then, gives_changed}
use Rattle.link.proofs.update.connection_update.Goals as goal

pub returns-in-Ok : goal.returns-in-Ok
unfolding connection_update
returns-in-Ok c k held =
    let timing = c.in-Ok.timing in
    let applied = c.apply.ensures in
    gives_changed c.word_at-handle.result (with_parameters timing.interval timing.latency timing.timeout) (λ x. refl)
    applied.changed
    (answered_then applied.same c.status.ensures) (λ size pool. search rules) held
