-- `controller::counting::wegrulsta_drop` meets its contract.
use mathlib.Core.Path.{refl}
use Rattle.notices.proofs.Telling.{drop_in_flight_silent}
use Rattle.controller.proofs.Asking.{counts_fit, state_asked}
use Rattle.controller.proofs.Answering.{gives_refused, gives_silent}
use Rattle.controller.proofs.counting.wegrulsta_drop.Goals as goal

pub returns-in-Err : goal.returns-in-Err
returns-in-Err c =
    gives_refused c.in-Err.refusal (λ pool opcodes answers bits. rw c.holds-held.ensures at c.in-Err.ensures)
    (c.changed.ensures.0, c.changed.ensures.1, refl)

pub drop_in_flight-r-requires : goal.drop_in_flight-r-requires
drop_in_flight-r-requires c = counts_fit (state_asked c.args.profile c.args.s c.holds-held.ensures c.in_default.ensures)

pub returns : goal.returns
returns c =
    gives_silent c.drop_in_flight-r.ensures (state_asked c.args.profile c.args.s c.holds-held.ensures c.in_default.ensures).held
    (λ pool opcodes answers bits. (refl, refl, refl))
    (λ pool opcodes answers bits. rw c.holds-held.ensures at c.in_default.ensures)
    (drop_in_flight_silent c.args.count)
