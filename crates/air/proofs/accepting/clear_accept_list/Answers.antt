-- `air::accepting::clear_accept_list` meets its contract.
use Rattle.std.proofs.Common.{[], rules}
use Rattle.state.proofs.Keeping.{accept_empty}
use Rattle.commands.specs.Air.{clear_accept_list}
use Rattle.commands.proofs.Giving.{gives_status, holds_accept_list}
use Rattle.air.proofs.accepting.clear_accept_list.Goals as goal

pub returns-then-accept_list_in_use : goal.returns-then-accept_list_in_use
unfolding clear_accept_list
returns-then-accept_list_in_use c = let in_use = c.accept_list_in_use.ensures 0 [] in search rules

pub returns : goal.returns
unfolding clear_accept_list
returns c k held =
    let in_use = c.accept_list_in_use.ensures 0 [] in
    gives_status (λ size pool. search rules)
    (holds_accept_list held (accept_empty _ c.new.ensures))
