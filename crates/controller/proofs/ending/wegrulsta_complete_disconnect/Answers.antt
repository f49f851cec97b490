-- `controller::ending::wegrulsta_complete_disconnect` meets its contract.
use mathlib.Core.Path.{refl}
use Rattle.notices.proofs.Telling.{complete_disconnect_tells}
use Rattle.controller.proofs.Asking.{counts_fit, events_asked}
use Rattle.controller.proofs.Answering.{alone, gives_refused, event_fits, event_told}
use Rattle.controller.proofs.ending.wegrulsta_complete_disconnect.Goals as goal

pub returns-in-Err : goal.returns-in-Err
returns-in-Err c =
    gives_refused c.in-Err.refusal (λ pool opcodes answers bits. rw c.holds-held.ensures at c.in-Err.ensures) c.told.ensures

pub complete_disconnect-r-requires : goal.complete_disconnect-r-requires
complete_disconnect-r-requires c =
    counts_fit (events_asked c.args.profile c.args.s c.args.out.now c.holds-held.ensures c.in_default.ensures)

pub heard-requires : goal.heard-requires
heard-requires c =
    event_fits c.args.profile c.complete_disconnect-r.ensures c.holds-held.ensures c.in_default.ensures
    (alone (complete_disconnect_tells c.args.handle))

pub returns : goal.returns
returns c =
    event_told c.args.profile c.complete_disconnect-r.ensures c.holds-held.ensures c.in_default.ensures
    (λ pool opcodes answers bits. (refl, refl, refl)) (λ pool opcodes answers bits. refl)
    c.heard.ensures.number c.heard.ensures.state c.heard.ensures.event
