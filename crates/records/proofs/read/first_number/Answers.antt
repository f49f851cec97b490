-- `records::read::first_number` meets its contract.
use native.Mathlib.Omega.{arith}
use lib.Seq.{length-take-le}
use Rattle.records.proofs.Numbers.{first_tabless, first_no_lem, first_yes, first_within}
use Rattle.records.proofs.read.first_number.Goals as goal

pub returns-in_err-i : goal.returns-in_err-i
returns-in_err-i c = rw c.from_residual.ensures (first_tabless _ c.in_err-i.ensures)

pub slice_bounds-read_number-end : goal.slice_bounds-read_number-end
slice_bounds-read_number-end c =
    let within = first_within c.args.rest.now c.in_ok-i.i c.in_ok-i.ensures in
    omega (arith, length-take-le c.in_ok-i.i c.args.rest.now (omega arith))

pub returns-in_err-a : goal.returns-in_err-a
returns-in_err-a c =
    rw c.from_residual-in_err-a.ensures (first_no_lem _ _ c.in_ok-i.ensures c.in_err-a.ensures)

pub returns : goal.returns
returns c = first_yes _ _ c.in_ok-i.ensures _ c.in_ok-a.ensures
