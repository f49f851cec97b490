-- `air::advertising::set_advertising_enable` meets its contract.
use Rattle.std.proofs.Common.{[], rules}
use Rattle.commands.specs.Air.{set_advertising_enable}
use Rattle.air.proofs.advertising.set_advertising_enable.Goals as goal
use Rattle.air.proofs.advertising.set_advertising_enable.Goals.{then-enabled-gt1-via-then-enabled-gt1}
use Rattle.air.proofs.advertising.set_advertising_enable.Goals.{then-enabled-gt1-via-else-enabled-gt1+then-lacks_address}

pub returns-then-enabled-gt1 : goal.returns-then-enabled-gt1
unfolding set_advertising_enable
returns-then-enabled-gt1 c =
    elim c.then-enabled-gt1.branch [
      | then-enabled-gt1-via-then-enabled-gt1 w ↦ search rules
      | then-enabled-gt1-via-else-enabled-gt1+then-lacks_address w ↦ let lacks = w.lacks_address.ensures 0 [] in search rules
    ]

pub returns : goal.returns
unfolding set_advertising_enable
returns c = let lacks = c.lacks_address.ensures 0 [] in search rules
