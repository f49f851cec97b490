-- What the commands leave as it is, and what their answers can be: statements that the theorem about lists of calls stands on.
-- The laws are in `proofs/CommandLeaves.antt`. For readers of that theorem.
use Rattle.std.specs.Prelude.{◌≡◌, ℕ, ◌+◌, ◌≤◌, List, [], map, ◌⊎◌, Bool, true, false, ◌&&◌, ◌||◌, eqb, length}
use Rattle.hci.specs.Packet.{event}
use Rattle.links.specs.Holding.{handle_of}
use Rattle.state.specs.State.{Model}
use Rattle.answers.specs.Answers.{AnswerModel, least}
use Rattle.commands.specs.Outcome.{Outcome, Given}

-- the arrays of a profile, and the public address, have their lengths
pub record Shaped (g : Given) : Type 0 where
  pub commands : length g.profile.supported_commands ≡ 64
  pub features : length g.profile.lmp_features ≡ 8
  pub states : length g.profile.supported_states ≡ 8
  pub address : length g.address ≡ 6

-- the codes of the events that follow an acknowledgement: Encryption Change (0x08, 0x59), Read Remote Version Information
-- Complete (0x0C) and LE Meta (0x3E); so never Disconnection Complete (0x05), Command Complete (0x0E) or Number Of Completed
-- Packets (0x13)
abbrev pub follows_code : ℕ → Bool
follows_code code = eqb code 0x08 || (eqb code 0x0C || (eqb code 0x3E || eqb code 0x59))

-- one event of such a code, with few enough parameters for its length octet
pub record OneEvent (octets : List ℕ) : Type 0 where
  pub code : ℕ
  pub params : List ℕ
  pub allowed : follows_code code ≡ true
  pub short : length params ≤ 255
  pub same : octets ≡ event code params

-- the octets behind an acknowledgement: none, or one event
abbrev pub Follows : List ℕ → Type 0
Follows octets = (octets ≡ []) ⊎ OneEvent octets

-- an answer: with the six octets before the return parameters it fits 71, Command Status has a status, and what follows is one
-- event at most
pub record Modest (a : AnswerModel) : Type 0 where
  pub short : 6 + length a.octets + length a.then ≤ 71
  pub told : least a.form ≤ length a.octets
  pub follows : Follows a.then

-- what a command leaves: the links' handles in their order, the queue, what is in flight, and, unless it sets it, the event mask
pub record Leaves (sets_mask : Bool) (m : Model) (o : Outcome) : Type 0 where
  pub handles : map handle_of o.state.links.connections ≡ map handle_of m.links.connections
  pub queue : o.state.links.queue ≡ m.links.queue
  pub flying : o.state.links.in_flight ≡ m.links.in_flight
  pub mask : sets_mask ≡ false → o.state.masks.event ≡ m.masks.event
  pub answer : Modest o.answer

-- a modelled, rightly sized Reset: the one command that leaves nothing
abbrev pub IsReset : Given → ℕ → ℕ → Type 0
IsReset g answer op = (answer ≡ 0) × (op ≡ 0x0C03) × (length g.params ≡ 0)

-- a modelled, rightly sized Set Event Mask: the one command besides that sets the event mask
abbrev pub sets_event_mask : Given → ℕ → ℕ → Bool
sets_event_mask g answer op = eqb answer 0 && (eqb op 0x0C01 && eqb (length g.params) 8)
