-- `known::baseband::read_transmit_power` meets its contract.
use Rattle.std.proofs.Common.{rules}
use Rattle.commands.specs.Known.{read_transmit_power}
use Rattle.known.proofs.baseband.read_transmit_power.Goals.{in-0, in-1}
use Rattle.known.proofs.baseband.read_transmit_power.Goals as goal

pub returns : goal.returns
unfolding read_transmit_power
returns c = elim c.match-p-offset2.branch [ in-0 w ↦ search rules | in-1 w ↦ search rules ]
