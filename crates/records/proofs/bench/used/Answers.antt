-- `records::bench::used` meets its contract.
use mathlib.Core.List.{[]}
use native.Mathlib.Omega.{arith}
use Rattle.records.proofs.Benching.{used_few}
use Rattle.records.proofs.bench.used.Goals as goal

pub overflow_cast-result : goal.overflow_cast-result
overflow_cast-result c = omega (arith, used_few c.requires 0 [], c.buffers_in_use.ensures 0 [])
