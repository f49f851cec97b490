-- `transmit::free_place` meets its contract: not every one of the lowest n + 1 places is owned where n packets wait.
use Rattle.std.proofs.Common.{refl}
use Rattle.transmit.proofs.Places.{free_found}
use Rattle.transmit.proofs.free_place.Goals as goal

pub returns : goal.returns
returns c = rw c.lowest_free.ensures (free_found _ _ c.owned_places-owned.ensures _ refl c.requires.few)
