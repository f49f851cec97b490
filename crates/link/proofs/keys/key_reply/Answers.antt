-- `link::keys::key_reply` meets its contract.
use Rattle.std.proofs.Common.{rules, refl}
use Rattle.links.specs.Fields.{with_ltk_requested}
use Rattle.commands.proofs.Giving.{gives_status_changed}
use Rattle.link.proofs.keys.key_reply.Goals as goal

pub returns : goal.returns
returns c event k held =
    gives_status_changed _ (with_ltk_requested 0) (λ x. refl) c.set_ltk_requested.ensures (λ size pool. search rules) held
