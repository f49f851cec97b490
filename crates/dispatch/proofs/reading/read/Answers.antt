-- `reading::read` meets its contract: the opcode's row stands in the half of the table that is asked.
use Rattle.dispatch.proofs.Halves.{known_half, le_half, row_gives}
use Rattle.dispatch.proofs.reading.read.Goals as goal

pub returns-then-op-lt-FIRST_LE : goal.returns-then-op-lt-FIRST_LE
returns-then-op-lt-FIRST_LE c = row_gives (known_half c.args.op c.if-op-lt-FIRST_LE.true) (c.known_read.ensures c.args.random)

pub returns : goal.returns
returns c = row_gives (le_half c.args.op c.if-op-lt-FIRST_LE.false) (c.le_read.ensures c.args.address)
