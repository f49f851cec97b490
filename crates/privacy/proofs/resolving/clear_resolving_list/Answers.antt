-- `privacy::resolving::clear_resolving_list` meets its contract.
use Rattle.std.proofs.Common.{rules}
use Rattle.state.proofs.Keeping.{resolving_empty}
use Rattle.commands.specs.Privacy.{clear_resolving_list}
use Rattle.commands.proofs.Giving.{gives_status, holds_resolving_list}
use Rattle.privacy.proofs.resolving.clear_resolving_list.Goals as goal

pub returns : goal.returns
unfolding clear_resolving_list
returns c k held =
    gives_status (λ size pool. search rules)
    (holds_resolving_list held (resolving_empty k.resolving_list_size c.new.ensures))
