-- `answers::acknowledge` meets its contract: hci's writers have the room that they ask for.
use native.Mathlib.Omega.{arith}
use Rattle.hci.proofs.Writers.{wrote_put}
use Rattle.answers.proofs.Short.{held_short}
use Rattle.answers.proofs.acknowledge.Goals as goal

pub returns-in-Complete : goal.returns-in-Complete
returns-in-Complete c =
    let room = rw c.in-Complete.is at c.requires in
    rw (c.in-Complete.is, c.counted.ensures)
    (wrote_put (rw c.as_slice.ensures at c.command_complete.ensures) (omega (arith, held_short c.in-Complete.returned))
    (omega (arith, room)))

pub returns-in-Status : goal.returns-in-Status
returns-in-Status c =
    let room = rw c.in-Status.is at c.requires in
    rw (c.in-Status.is, c.counted-in-Status.ensures)
    (wrote_put c.command_status.ensures (omega arith) (omega (arith, room)))
