-- `filters::differ::entries_differ` meets its contract: the first i entries differ and their marks are met.
use Rattle.filters.proofs.Differing.{Differing}
use Rattle.filters.proofs.differ.entries_differ.Given as goal

abbrev pub invariant-loop-i : goal.invariant-loop-i
invariant-loop-i g l = Differing l.entries l.met l.i
