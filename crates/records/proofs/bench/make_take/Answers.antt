-- `records::bench::make_take` meets its contract.
use mathlib.Core.Path.{refl, sym}
use native.Mathlib.Omega.{arith}
use Rattle.records.proofs.Benching.{any_rows, still_together, written_fits, written_long, call_prints}
use Rattle.records.proofs.bench.make_take.Goals as goal

pub slice_bounds-taken-end : goal.slice_bounds-taken-end
slice_bounds-taken-end c =
    written_fits c.requires (any_rows c.bench_profile.ensures c.wegrulsta_take-r.ensures)

pub slice_bounds-text-end : goal.slice_bounds-text-end
slice_bounds-text-end c =
    sym (written_long c.requires (any_rows c.bench_profile.ensures c.wegrulsta_take-r.ensures))

pub text-requires : goal.text-requires
text-requires c =
    let gives = any_rows c.bench_profile.ensures c.wegrulsta_take-r.ensures in
    (omega (arith, written_long c.requires gives, written_fits c.requires gives), (still_together c.requires gives).links)

pub returns : goal.returns
returns c =
    let gives = rw c.from.ensures at c.wegrulsta_take-r.ensures in
    call_prints c.requires (any_rows c.bench_profile.ensures gives) refl c.requires.places (c.text.ensures 32 _)
