-- `privacy::addresses::set_address_resolution` meets its contract.
use Rattle.std.proofs.Common.{[], rules}
use Rattle.commands.specs.Privacy.{set_address_resolution}
use Rattle.privacy.proofs.addresses.set_address_resolution.Goals as goal

pub returns-then-busy : goal.returns-then-busy
unfolding set_address_resolution
returns-then-busy c = let busy = c.busy.ensures 0 [] in search rules

pub returns : goal.returns
unfolding set_address_resolution
returns c = let busy = c.busy.ensures 0 [] in search rules
