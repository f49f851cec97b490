-- `air::accepting::remove_from_accept_list` meets its contract.
use Rattle.std.proofs.Common.{[], rules}
use Rattle.state.proofs.Keeping.{accept_removed}
use Rattle.commands.specs.Air.{remove_from_accept_list}
use Rattle.commands.proofs.Giving.{gives_status, holds_accept_list}
use Rattle.air.proofs.accepting.remove_from_accept_list.Goals as goal

pub returns-then-accept_list_in_use : goal.returns-then-accept_list_in_use
unfolding remove_from_accept_list
returns-then-accept_list_in_use c = let in_use = c.accept_list_in_use.ensures 0 [] in search rules

pub returns-then-not-accept_type_valid : goal.returns-then-not-accept_type_valid
unfolding remove_from_accept_list
returns-then-not-accept_type_valid c = let in_use = c.accept_list_in_use.ensures 0 [] in search rules

pub returns : goal.returns
unfolding remove_from_accept_list
returns c k held =
    let in_use = c.accept_list_in_use.ensures 0 [] in
    let removed = rw c.accept_entry.ensures at c.remove.ensures in
    gives_status (λ size pool. search rules)
    (holds_accept_list held (accept_removed _ held.accept removed))
