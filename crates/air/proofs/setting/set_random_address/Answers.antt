-- `air::setting::set_random_address` meets its contract.
use Rattle.std.proofs.Common.{[], rules}
use Rattle.commands.specs.Air.{set_random_address}
use Rattle.air.proofs.setting.set_random_address.Goals as goal

pub returns-then-busy : goal.returns-then-busy
unfolding set_random_address
returns-then-busy c = let busy = c.busy.ensures 0 [] in search rules

pub returns : goal.returns
unfolding set_random_address
returns c = let busy = c.busy.ensures 0 [] in search rules
