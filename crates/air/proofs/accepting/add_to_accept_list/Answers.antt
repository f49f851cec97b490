-- `air::accepting::add_to_accept_list` meets its contract.
use Rattle.std.proofs.Common.{[], rules}
use Rattle.std.specs.Prelude.{Option, Some, None, ok_or, MatchOption}
use Rattle.profile.specs.declared.ControllerRow.{ControllerRow}
use Rattle.filters.specs.declared.accept.AcceptList.{AcceptList}
use Rattle.state.specs.State.{Model}
use Rattle.state.specs.declared.Controller.{Controller}
use Rattle.state.proofs.Keeping.{accept_added}
use Rattle.commands.specs.Air.{add_to_accept_list}
use Rattle.commands.specs.Outcome.{Outcome, done}
use Rattle.commands.specs.Status.{success}
use Rattle.commands.specs.Put.{put_accept_list}
use Rattle.commands.specs.Refused.{GivesStatus, Yields, error_octet}
use Rattle.commands.specs.declared.error.ErrorCode.{ErrorCode}
use Rattle.commands.proofs.Giving.{gives_status, holds_accept_list}
use Rattle.air.proofs.accepting.add_to_accept_list.Goals as goal

-- a list, or the code where there is none
by_case : {f : Model → Outcome} {k : ControllerRow} {s : Controller} {Full : Type 0} {Room : AcceptList → Type 0}
    (code : ErrorCode) (r : Option AcceptList) → MatchOption r Full Room
    → (Full → GivesStatus done f k s (put_accept_list s.accept_list s) (error_octet code))
    → ((list : AcceptList) → Room list → GivesStatus done f k s (put_accept_list list s) success)
    → Yields done f k put_accept_list s.accept_list s (ok_or r code)
by_case code None full none some = none full
by_case code (Some list) room none some = some list room

pub returns-then-accept_list_in_use : goal.returns-then-accept_list_in_use
unfolding add_to_accept_list
returns-then-accept_list_in_use c = let in_use = c.accept_list_in_use.ensures 0 [] in search rules

pub returns-then-not-accept_type_valid : goal.returns-then-not-accept_type_valid
unfolding add_to_accept_list
returns-then-not-accept_type_valid c = let in_use = c.accept_list_in_use.ensures 0 [] in search rules

pub returns : goal.returns
unfolding add_to_accept_list
returns c =
    let in_use = c.accept_list_in_use.ensures 0 [] in
    let ready = c.requires in
    let added = rw (c.from-size.ensures, c.accept_entry.ensures) at c.add.ensures in
    rw c.ok_or.ensures.value
    (by_case _ c.add.result added (λ full. search rules)
    (λ list room. gives_status (λ size pool. search rules)
    (holds_accept_list ready.holds (accept_added _ ready.holds.accept ready.limits.most_accept room.1))))
