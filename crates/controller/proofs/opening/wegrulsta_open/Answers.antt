-- `controller::opening::wegrulsta_open` meets its contract.
use mathlib.Core.Path.{refl, sym, ◌∙◌}
use mathlib.Core.List.{[], ◌∷◌}
use Rattle.profile.specs.Profile.{within_limits}
use Rattle.links.specs.Links.{opened, can_open}
use Rattle.notices.proofs.Telling.{open_connection_silent}
use Rattle.state.specs.Holding.{state_holds}
use Rattle.calls.specs.Calls.{first_no}
use Rattle.controller.specs.declared.refusal.Refusal.TheVariants.{Handle}
use Rattle.controller.specs.Asked.{question}
use Rattle.controller.proofs.Asking.{more_refused, state_asked, counts_fit}
use Rattle.controller.proofs.Answering.{gives_refused, gives_silent}
use Rattle.controller.proofs.opening.wegrulsta_open.Goals as goal

pub returns-in-Err : goal.returns-in-Err
returns-in-Err c =
    let args = c.args in
    let same = c.changed.ensures in
    gives_refused c.in-Err.refusal
    (λ pool opcodes answers bits.
    more_refused c.in-Err.refusal (question 1 (within_limits args.profile) ∷ question 3 (state_holds args.s args.profile) ∷ [])
    (question 6 (can_open args.handle (opened args.s.links)) ∷ []) (rw c.holds-held.ensures at c.in-Err.ensures))
    (same.0, same.1, refl)

pub can_open-requires : goal.can_open-requires
can_open-requires c = (state_asked c.args.profile c.args.s c.holds-held.ensures c.in_default.ensures).held.links.few_links

pub returns-then-not-can_open : goal.returns-then-not-can_open
unfolding first_no
returns-then-not-can_open c =
    let yes = state_asked c.args.profile c.args.s c.holds-held.ensures c.in_default.ensures in
    let same = c.changed-then-not-can_open.ensures in
    gives_refused Handle
    (λ pool opcodes answers bits. rw (yes.limits, yes.together, sym c.can_open.ensures ∙ c.if-not-can_open.true))
    (same.0, same.1, refl)

pub open_connection-r-requires : goal.open_connection-r-requires
open_connection-r-requires c =
    let yes = state_asked c.args.profile c.args.s c.holds-held.ensures c.in_default.ensures in
    (counts_fit yes, sym c.can_open.ensures ∙ c.if-not-can_open.false)

pub returns : goal.returns
unfolding first_no
returns c =
    let args = c.args in
    let yes = state_asked args.profile args.s c.holds-held.ensures c.in_default.ensures in
    gives_silent c.open_connection-r.ensures yes.held (λ pool opcodes answers bits. (refl, refl, refl))
    (λ pool opcodes answers bits. rw (yes.limits, yes.together, sym c.can_open.ensures ∙ c.if-not-can_open.false))
    (open_connection_silent args.handle args.timing.interval args.timing.latency args.timing.timeout)
