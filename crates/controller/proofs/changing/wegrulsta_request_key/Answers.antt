-- `controller::changing::wegrulsta_request_key` meets its contract.
use mathlib.Core.Path.{refl}
use Rattle.notices.proofs.Telling.{request_ltk_alone}
use Rattle.controller.proofs.Asking.{counts_fit, events_asked}
use Rattle.controller.proofs.Answering.{gives_refused, event_fits, event_told}
use Rattle.controller.proofs.changing.wegrulsta_request_key.Goals as goal

pub returns-in-Err : goal.returns-in-Err
returns-in-Err c =
    gives_refused c.in-Err.refusal (λ pool opcodes answers bits. rw c.holds-held.ensures at c.in-Err.ensures) c.told.ensures

pub request_ltk-r-requires : goal.request_ltk-r-requires
request_ltk-r-requires c =
    counts_fit (events_asked c.args.profile c.args.s c.args.out.now c.holds-held.ensures c.in_default.ensures)

pub heard-requires : goal.heard-requires
heard-requires c =
    event_fits c.args.profile c.request_ltk-r.ensures c.holds-held.ensures c.in_default.ensures
    (request_ltk_alone c.args.handle c.args.random.now c.args.ediv)

pub returns : goal.returns
returns c =
    event_told c.args.profile c.request_ltk-r.ensures c.holds-held.ensures c.in_default.ensures
    (λ pool opcodes answers bits. (refl, refl, refl)) (λ pool opcodes answers bits. refl)
    c.heard.ensures.number c.heard.ensures.state c.heard.ensures.event
