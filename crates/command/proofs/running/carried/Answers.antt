-- `command::carried` meets its contract.
use mathlib.Core.Path.{refl}
use Rattle.command.proofs.Giving.{can_dispatch, can_finish, carried, no_address}
use Rattle.command.proofs.running.carried.Goals as goal

pub carry_out-r-requires : goal.carry_out-r-requires
carry_out-r-requires g c = can_dispatch c.requires c.begun-begun.ensures

pub finished-noted-requires : goal.finished-noted-requires
finished-noted-requires g c =
    let r = c.carry_out-r in
    rw c.put-t.ensures
    (can_finish c.requires c.begun-begun.ensures no_address 0 (g.P.StatePart.put r.result.part) _ (r.ensures no_address 0) refl)

pub returns : goal.returns
returns g c = λ address random.
    let r = c.carry_out-r in
    let n = c.finished-noted in
    carried c.requires c.begun-begun.ensures address random (g.P.StatePart.put r.result.part) _ (r.ensures address random)
    n.result (g.met.P.StatePart.noted_after r.result.part c.args.s _ _ _ _ _) (rw c.put-t.ensures at n.ensures)
