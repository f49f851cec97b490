-- `records::bench::make_completed` meets its contract.
use mathlib.Core.Path.{refl, sym}
use borrow.Author.Rules.{rules}
use Rattle.records.proofs.Benching.{zeros, runs_with, runs_zeros, any_rows, still_together, written_fits, written_long}
use Rattle.records.proofs.Benching.{call_prints}
use Rattle.records.proofs.bench.make_completed.Goals as goal

pub slice_bounds-events-end : goal.slice_bounds-events-end
slice_bounds-events-end c =
    written_fits (runs_zeros c.requires) (any_rows c.bench_profile.ensures (c.wegrulsta_completed-r.ensures zeros))

pub slice_bounds-text-end : goal.slice_bounds-text-end
slice_bounds-text-end c =
    sym (written_long (runs_zeros c.requires) (any_rows c.bench_profile.ensures (c.wegrulsta_completed-r.ensures zeros)))

pub text-requires : goal.text-requires
text-requires c =
    let gives = any_rows c.bench_profile.ensures (c.wegrulsta_completed-r.ensures zeros) in
    (search rules, (still_together (runs_zeros c.requires) gives).links)

pub returns : goal.returns
returns c = λ pool room.
    let gives = any_rows c.bench_profile.ensures (c.wegrulsta_completed-r.ensures pool) in
    call_prints (runs_with pool c.requires room) gives refl room (c.text.ensures 32 pool)
