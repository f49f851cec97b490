-- `records::bench::make_packet` meets its contract.
use mathlib.Core.Path.{refl}
use native.Mathlib.Omega.{arith}
use Rattle.records.proofs.Benching.{with_rows, call_prints}
use Rattle.records.proofs.bench.make_packet.Goals as goal

pub returns : goal.returns
returns c =
    let gives = with_rows c.bench_profile.ensures c.wegrulsta_packet-r.ensures in
    call_prints c.requires gives refl (omega (arith, c.requires.places)) (c.text.ensures 32 _)
