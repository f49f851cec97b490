-- `notices::changing::peer_update` meets its contract.
use Rattle.std.proofs.Common.{rules, refl}
use Rattle.links.specs.Fields.{with_parameters}
use Rattle.commands.proofs.Giving.{answered_then, gives_changed}
use Rattle.notices.specs.Notices.{peer_update}
use Rattle.notices.proofs.changing.peer_update.Goals as goal

pub returns : goal.returns
unfolding peer_update
returns c k held =
    let t = c.args.timing in
    gives_changed c.args.handle (with_parameters t.interval t.latency t.timeout) (λ x. refl) c.set_parameters.ensures
    (answered_then c.followed_by_update.ensures c.silent.ensures) (λ size pool. search rules) held
