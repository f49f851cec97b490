-- What no definition decides is never shown. The contract leaves open which places of the pool packets lie in, what unused
-- places hold and what arrays hold past their counts; two states that differ in nothing else answer every call alike, and differ
-- in nothing else after it. `unseen` and `starts_alike` in proofs/Unseen.antt prove it. For readers who ask what the contract
-- leaves open.
use Rattle.std.specs.Prelude.{◌≡◌, List, ℕ, length}
use Rattle.state.specs.Holding.{state_holds}
use Rattle.calls.specs.Packets.{Profile}
use Rattle.state.specs.declared.Controller.{Controller}
use Rattle.calls.specs.Calls.{Call, Held, held, model_of}
use Rattle.calls.specs.Gives.{Answer, Gives, Starts}

-- two states with their pools that the definitions can't tell apart
pub record Alike (g : Profile) (s u : Held) : Type 0 where
  pub viewed : model_of g s ≡ model_of g u
  pub together : state_holds s.state g.controller ≡ state_holds u.state g.controller
  pub pools : length s.pool ≡ length u.pool

-- one call, made on each of them with buffers that hold the same, gives the same answer, to each octet of the buffer
abbrev pub Unseen : Type 0
Unseen =
    (g : Profile) (c : Call) (s t u v : Held) (a b : Answer) → Alike g s u → a.before ≡ b.before
    → Gives g c s t a → Gives g c u v b → (a ≡ b) × Alike g t v

-- two states as a controller starts with them are such, each with a pool of any octets, one as long as the other
abbrev pub StartsAlike : Type 0
StartsAlike =
    (g : Profile) (s u : Controller) (pool other : List ℕ) → Starts s → Starts u → length pool ≡ length other
    → Alike g (held s pool) (held u other)
