-- `records::bench::text` meets its contract.
use mathlib.Core.Path.{ap}
use native.Mathlib.Omega.{arith}
use lib.ListN.{length}
use Rattle.records.proofs.Benching.{lines_long}
use Rattle.records.proofs.bench.text.Goals as goal

pub push_done-requires : goal.push_done-requires
push_done-requires c =
    let lines = lines_long c.args.letter c.args.octets.now in
    omega (arith, ap length (rw c.new-text.ensures at c.push_packets.ensures), lines, c.requires.0)
