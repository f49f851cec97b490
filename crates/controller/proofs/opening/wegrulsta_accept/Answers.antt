-- `controller::opening::wegrulsta_accept` meets its contract.
use mathlib.Core.Path.{refl, sym, ◌∙◌}
use mathlib.Core.Bool.{cond}
use mathlib.Core.List.{[], ◌∷◌}
use lib.Dec.{leb}
use lib.ListN.{length}
use Rattle.profile.specs.Profile.{within_limits}
use Rattle.links.specs.Links.{opened, can_open}
use Rattle.notices.proofs.Telling.{accept_connection_alone}
use Rattle.state.specs.Holding.{state_holds}
use Rattle.calls.specs.Calls.{first_no}
use Rattle.controller.specs.declared.refusal.Refusal.TheVariants.{Handle}
use Rattle.controller.specs.Answers.{is_random}
use Rattle.controller.specs.Asked.{question}
use Rattle.controller.proofs.Asking.{more_refused, events_asked, has_room, counts_fit}
use Rattle.controller.proofs.Answering.{gives_refused, event_fits, gives_told}
use Rattle.controller.proofs.opening.wegrulsta_accept.Goals as goal

pub returns-in-Err : goal.returns-in-Err
returns-in-Err c =
    let args = c.args in
    gives_refused c.in-Err.refusal
    (λ pool opcodes answers bits.
    more_refused c.in-Err.refusal
    (question 1 (within_limits args.profile) ∷ question 3 (state_holds args.s args.profile)
    ∷ question 5 (leb 71 (length args.out.now)) ∷ [])
    (question 6 (can_open args.handle (opened args.s.links)) ∷ []) (rw c.holds-held.ensures at c.in-Err.ensures))
    c.told.ensures

pub can_open-requires : goal.can_open-requires
can_open-requires c =
    (counts_fit (events_asked c.args.profile c.args.s c.args.out.now c.holds-held.ensures c.in_default.ensures)).0

pub returns-then-not-can_open : goal.returns-then-not-can_open
unfolding first_no
returns-then-not-can_open c =
    let yes = events_asked c.args.profile c.args.s c.args.out.now c.holds-held.ensures c.in_default.ensures in
    let room = has_room c.args.out.now yes.rest in
    gives_refused Handle
    (λ pool opcodes answers bits. rw (yes.limits, yes.together, room.0, sym c.can_open.ensures ∙ c.if-not-can_open.true))
    c.told-then-not-can_open.ensures

pub accept_connection-r-requires : goal.accept_connection-r-requires
accept_connection-r-requires c =
    let yes = events_asked c.args.profile c.args.s c.args.out.now c.holds-held.ensures c.in_default.ensures in
    (counts_fit yes, sym c.can_open.ensures ∙ c.if-not-can_open.false)

pub heard-requires : goal.heard-requires
heard-requires c =
    let a = c.args in
    event_fits c.args.profile c.accept_connection-r.ensures c.holds-held.ensures c.in_default.ensures
    (accept_connection_alone a.handle (cond (is_random a.peer_type) 1 0) a.peer.now
    a.timing.interval a.timing.latency a.timing.timeout a.sca)

pub returns : goal.returns
unfolding first_no
returns c =
    let yes = events_asked c.args.profile c.args.s c.args.out.now c.holds-held.ensures c.in_default.ensures in
    let room = has_room c.args.out.now yes.rest in
    rw (c.heard.ensures.number, c.heard.ensures.state)
    (gives_told c.accept_connection-r.ensures yes.held (λ pool opcodes answers bits. (refl, refl, refl))
    (λ pool opcodes answers bits. rw (yes.limits, yes.together, room.0, sym c.can_open.ensures ∙ c.if-not-can_open.false))
    c.heard.ensures.event)
