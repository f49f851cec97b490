-- `privacy::resolving::remove_from_resolving_list` meets its contract.
use Rattle.std.proofs.Common.{rules}
use Rattle.state.proofs.Keeping.{resolving_removed}
use Rattle.commands.specs.Privacy.{remove_from_resolving_list}
use Rattle.commands.proofs.Giving.{gives_status, holds_resolving_list}
use Rattle.privacy.proofs.resolving.remove_from_resolving_list.Goals as goal

pub returns : goal.returns
unfolding remove_from_resolving_list
returns c k held =
    gives_status (λ size pool. search rules)
    (holds_resolving_list held (resolving_removed c.identity-identity.result held.resolving c.remove.ensures))
