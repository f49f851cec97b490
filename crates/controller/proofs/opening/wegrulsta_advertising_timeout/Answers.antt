-- `controller::opening::wegrulsta_advertising_timeout` meets its contract.
use mathlib.Core.Path.{refl}
use Rattle.notices.proofs.Telling.{advertising_timeout_tells}
use Rattle.controller.proofs.Answering.{alone, gives_refused, event_fits, event_told}
use Rattle.controller.proofs.opening.wegrulsta_advertising_timeout.Goals as goal

pub returns-in-Err : goal.returns-in-Err
returns-in-Err c =
    gives_refused c.in-Err.refusal (λ pool opcodes answers bits. rw c.holds-held.ensures at c.in-Err.ensures) c.told.ensures

pub heard-requires : goal.heard-requires
heard-requires c =
    event_fits c.args.profile c.advertising_timeout-r.ensures c.holds-held.ensures c.in_default.ensures
    (alone advertising_timeout_tells)

pub returns : goal.returns
returns c =
    event_told c.args.profile c.advertising_timeout-r.ensures c.holds-held.ensures c.in_default.ensures
    (λ pool opcodes answers bits. (refl, refl, refl)) (λ pool opcodes answers bits. refl)
    c.heard.ensures.number c.heard.ensures.state c.heard.ensures.event
