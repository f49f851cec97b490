-- `records::bench::Unit::new` meets its contract: the default state holds together.
use Rattle.bench_profile.specs.Bench.{bench_controller}
use Rattle.records.proofs.bench.Unit.new.Goals as goal

pub invariant_of-result : goal.invariant_of-result
invariant_of-result c = record { together = c.wegrulsta_start.ensures.together bench_controller }
