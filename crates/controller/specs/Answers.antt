-- The controller's answers as C gets them: a struct with a number, read as the contract `Gives` (calls/specs/Gives.antt) and the
-- queries speak of it. For readers of the calls' contracts.
use Rattle.std.specs.Prelude.{ℕ, List, Bool, not, eqb, unwrap_or}
use Rattle.links.specs.Look.{terminating_of}
use Rattle.profile.specs.declared.ControllerRow.{ControllerRow}
use Rattle.state.specs.State.{Model}
use Rattle.state.specs.declared.Controller.{Controller}
use Rattle.command.specs.declared.Told.{Told}
use Rattle.controller.specs.declared.Changed.{Changed}
use Rattle.controller.specs.declared.Took.{Took}
use Rattle.calls.specs.Calls.{Call}
use Rattle.calls.specs.Gives.{Answer, plain, events, packets, GivesAnyPool}

-- a call's answer, with the lent buffer as it came and as it was left
abbrev pub told : Told → List ℕ → List ℕ → Answer
told r before after = events r.number r.written before after

abbrev pub took : Took → List ℕ → List ℕ → Answer
took r before after = packets r.number r.written r.count before after

-- a notice that the host may hear of, and one that it does not: neither takes a pool, and both give the same whatever it holds
abbrev pub Tells : ControllerRow → Call → Controller → List ℕ → Told → List ℕ → Type 0
Tells k c s before r after = GivesAnyPool k c s r.state (told r before after)

abbrev pub Changes : ControllerRow → Call → Controller → Changed → Type 0
Changes k c s r = GivesAnyPool k c s r.state (plain r.number)

-- a peer's address is public where its type is 0, else random
abbrev pub is_random : ℕ → Bool
is_random kind = not (eqb kind 0)

-- the reason of a Disconnect that waits for the peer, 0 where there is none: no such reason is 0
abbrev pub terminating_reason : ℕ → Model → ℕ
terminating_reason h m = unwrap_or (terminating_of h m.links.connections) 0
