-- `hci::acl` meets its contract.
use Rattle.std.proofs.Common.{arith}
use Rattle.hci.proofs.Writers.{written}
use Rattle.hci.proofs.write.acl.Goals as goal

pub returns : goal.returns
returns c =
    written (omega arith)
    (rw (c.to_le_bytes.ensures, c.to_le_bytes-2.ensures, c.in-Ok.ensures.1, c.from.ensures) at c.put_two.ensures)
