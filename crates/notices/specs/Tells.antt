-- What the host may hear of a notice: no acknowledgement, and one event at most. The laws are in `proofs/Telling.antt`. For the
-- controller's calls, and for the theorem about lists of calls.
use Rattle.std.specs.Prelude.{◌≡◌, ℕ, ◌≤◌, List, [], ◌⊎◌, length}
use Rattle.hci.specs.Packet.{event}
use Rattle.commands.specs.Outcome.{Outcome}
use Rattle.notices.specs.Notices.{tells}

-- an event of this code, of at most 37 octets
pub record OneEvent (code : ℕ) (octets : List ℕ) : Type 0 where
  pub params : List ℕ
  pub short : length params ≤ 34
  pub same : octets ≡ event code params

-- no event, or one of this code
abbrev pub AtMostOne : ℕ → List ℕ → Type 0
AtMostOne code octets = (octets ≡ []) ⊎ OneEvent code octets

-- no acknowledgement, and behind it no event or one of this code
pub record Tells (code : ℕ) (o : Outcome) : Type 0 where
  pub silent : o.answer ≡ tells o.answer.then
  pub short : length o.answer.then ≤ 37
  pub event : AtMostOne code o.answer.then
