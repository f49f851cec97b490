-- `privacy::resolving::set_privacy_mode` meets its contract.
use Rattle.std.proofs.Common.{rules, ◌≡◌, length}
use Rattle.octets.specs.Octets.{octet}
use Rattle.state.proofs.Keeping.{resolving_moded}
use Rattle.commands.specs.Privacy.{set_privacy_mode}
use Rattle.commands.proofs.Giving.{gives_status, holds_resolving_list}
use Rattle.privacy.proofs.resolving.set_privacy_mode.Goals as goal

pub returns : goal.returns
unfolding set_privacy_mode
returns c k held =
    let seven : length c.identity-identity.result ≡ 7 = search rules in
    gives_status (λ size pool. search rules)
    (holds_resolving_list held
    (resolving_moded c.identity-identity.result (octet c.args.p.now 7) held.resolving seven c.set_mode.ensures))
