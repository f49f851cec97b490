-- `records::bench::make_open` meets its contract.
use mathlib.Core.Path.{refl}
use borrow.Author.Rules.{rules}
use Rattle.records.proofs.Benching.{zeros, runs_with, runs_zeros, any_rows, still_together, call_prints}
use Rattle.records.proofs.bench.make_open.Goals as goal

pub text-requires : goal.text-requires
text-requires c =
    let gives = any_rows c.bench_profile.ensures (c.wegrulsta_open-r.ensures zeros) in
    (search rules, (still_together (runs_zeros c.requires) gives).links)

pub returns : goal.returns
returns c = λ pool room.
    let gives = any_rows c.bench_profile.ensures (c.wegrulsta_open-r.ensures pool) in
    call_prints (runs_with pool c.requires room) gives refl room (c.text.ensures 32 pool)
