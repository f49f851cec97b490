-- `idle` meets its contract.
use Rattle.std.proofs.Common.{[], rules}
use Rattle.commands.specs.Test.{idle}
use Rattle.test_and_power.proofs.direct_test.idle.Goals as goal

pub returns-then-s-eq0 : goal.returns-then-s-eq0
unfolding idle
returns-then-s-eq0 c = let busy = c.busy.ensures 0 [] in search rules

pub returns-else-s-eq0 : goal.returns-else-s-eq0
unfolding idle
returns-else-s-eq0 c = let busy = c.busy.ensures 0 [] in search rules
