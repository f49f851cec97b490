-- `event_of` meets its contract.
use Rattle.std.proofs.Common.{◌≡◌, length, ◌++◌, arith}
use lib.ListN.{length-append}
use Rattle.octets.proofs.Writing.{put_then}
use Rattle.hci.proofs.Writers.{written}
use Rattle.hci.proofs.write.event_of.Goals as goal

pub returns : goal.returns
returns c =
    let long : c.in-Ok.length ≡ length (c.args.head.now ++ c.args.body.now) =
    omega (arith, length-append c.args.head.now c.args.body.now) in
    written (omega arith) (rw long at (put_then c.put-at.ensures c.put_two.ensures))
