-- `controller::changing::wegrulsta_update` meets its contract.
use mathlib.Core.Path.{refl}
use Rattle.notices.proofs.Telling.{peer_update_tells}
use Rattle.controller.proofs.Asking.{counts_fit, events_asked}
use Rattle.controller.proofs.Answering.{alone, gives_refused, event_fits, event_told}
use Rattle.controller.proofs.changing.wegrulsta_update.Goals as goal

pub returns-in-Err : goal.returns-in-Err
returns-in-Err c =
    gives_refused c.in-Err.refusal (λ pool opcodes answers bits. rw c.holds-held.ensures at c.in-Err.ensures) c.told.ensures

pub peer_update-r-requires : goal.peer_update-r-requires
peer_update-r-requires c =
    counts_fit (events_asked c.args.profile c.args.s c.args.out.now c.holds-held.ensures c.in_default.ensures)

pub heard-requires : goal.heard-requires
heard-requires c =
    event_fits c.args.profile c.peer_update-r.ensures c.holds-held.ensures c.in_default.ensures
    (alone (peer_update_tells c.args.handle c.args.timing.interval c.args.timing.latency c.args.timing.timeout))

pub returns : goal.returns
returns c =
    event_told c.args.profile c.peer_update-r.ensures c.holds-held.ensures c.in_default.ensures
    (λ pool opcodes answers bits. (refl, refl, refl)) (λ pool opcodes answers bits. refl)
    c.heard.ensures.number c.heard.ensures.state c.heard.ensures.event
