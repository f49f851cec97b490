-- `taking::wegrulsta_take` meets its contract: the packets that `transmit::take` takes, or the number of a refusal.
use Rattle.controller.proofs.Taken.{take_fits, take_not, take_no_room, take_gives}
use Rattle.controller.proofs.taking.wegrulsta_take.Goals as goal

pub returns-in-Err : goal.returns-in-Err
returns-in-Err c = take_not c.holds-held.ensures c.in-Err.refusal c.in-Err.ensures c.took.ensures

pub take-requires : goal.take-requires
take-requires c =
    rw (c.places-places.ensures.1, c.places-places.ensures.0)
    (take_fits c.args.profile c.args.s c.args.pool.now c.holds-held.ensures c.in_default.ensures)

pub returns-in_default-take : goal.returns-in_default-take
returns-in_default-take c =
    take_no_room c.holds-held.ensures c.in_default.ensures (rw c.places-places.ensures.1 at c.in_default-take.ensures)
    c.took-in_default-take.ensures

pub returns : goal.returns
returns c =
    take_gives c.holds-held.ensures c.in_default.ensures
    (rw (c.places-places.ensures.1, c.places-places.ensures.0) at c.in-Some.ensures)
