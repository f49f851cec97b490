-- `records::input::run` meets its contract.
use native.Mathlib.Omega.{arith}
use Rattle.octets.proofs.Writing.{put_long}
use Rattle.records.proofs.Running.{runs_not, runs}
use Rattle.records.proofs.input.run.Goals as goal

pub returns-then-out-lt4 : goal.returns-then-out-lt4
returns-then-out-lt4 c = runs_not _ _ c.if-out-lt4.true

pub run_lines-requires : goal.run_lines-requires
run_lines-requires c =
    let w = c.put-at.ensures in
    omega (arith, w.next, w.room, put_long w)

pub returns : goal.returns
returns c = runs _ _ _ c.if-out-lt4.false c.new.ensures.0 c.put-at.ensures c.run_lines.ensures
