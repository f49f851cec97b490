-- `put_pairs` meets its contract: after so many turns as many pairs are written.
use Rattle.std.proofs.Common.{◌≡◌, arith}
use native.Mathlib.Numerals.{add-one}
use Rattle.octets.proofs.Writing.{put_then, put_none}
use Rattle.hci.specs.Packet.{pairs}
use Rattle.hci.proofs.Pairs.{pairs_suc, pairs_all}
use Rattle.hci.proofs.write.put_pairs.Goals as goal

pub loop-i-init : goal.loop-i-init
unfolding pairs
loop-i-init c = record { place = omega arith; written = put_none (omega arith) }

pub loop-i-preserved : goal.loop-i-preserved
loop-i-preserved c =
    let l = c.loop-i in
    let w = rw (c.to_le_bytes.ensures, c.to_le_bytes-in-loop-i.ensures) at c.put-p.ensures in
    record {
      place = omega (arith, c.put-p.ensures.next);
      written = rw (add-one, pairs_suc c.args.handles.now c.args.counts.now l.i (omega arith) (omega arith)) (put_then l.invariant.written w);
    }

pub returns : goal.returns
returns c =
    let l = c.loop-i in
    rw (pairs_all c.args.handles.now c.args.counts.now l.i (omega arith)) at l.invariant.written
