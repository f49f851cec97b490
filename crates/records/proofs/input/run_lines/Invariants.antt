-- `records::input::run_lines` meets its contract: the answers to the lines before the rest are written.
use Prim.Native.Nat.{◌-◌}
use lib.ListN.{length}
use Rattle.calls.specs.Calls.{held, model_of}
use Rattle.records.specs.Bench.{bench, lines_of, answers}
use Rattle.records.proofs.Running.{Answering}
use Rattle.records.proofs.input.run_lines.Given as goal

abbrev pub invariant-loop-rest : goal.invariant-loop-rest
invariant-loop-rest l =
    Answering (answers (length l.initial.out - l.at) (model_of bench (held l.initial.unit.state l.initial.unit.pool))
    (lines_of l.input))
    l.initial.out l.at l.rest l.out (held l.unit.state l.unit.pool) l.p

abbrev pub decreases-loop-rest : goal.decreases-loop-rest
decreases-loop-rest l = length l.rest
