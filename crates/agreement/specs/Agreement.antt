-- Demand 3 for the controller's calls: what the host's book is fed of a call, and the claim, `Demand3`, for every list of calls.
-- `demand_3` in proofs/Agreement.antt proves it. For the insurer's engineer; docs/PROOF.md says it in words. Comments in
-- quotation marks are sentences of documents 00 and 01. The book, the premises and `CreditsHold` are in
-- `Rattle.credits.specs.Credits`, what a call gives in `Rattle.calls.specs.Gives`.
use Rattle.std.specs.Prelude.{◌≡◌, ℕ, zero, suc, ◌+◌, ◌≤◌, ◌<◌, Result, Ok, Err, Bool, true, false, cond, ◌&&◌, eqb, ltb, take}
use Rattle.std.specs.Prelude.{length}
use mathlib.Core.List.{List, [], ◌∷◌, map, flatten}
use Rattle.octets.specs.Octets.{octet, word}
use Rattle.lists.specs.Lists.{all}
use Rattle.h4.specs.Framing.{packets}
use Rattle.hci.specs.Read.{parse_command, parameters, parse_acl}
use Rattle.hci.specs.declared.read.Acl.{Acl}
use Rattle.hci.specs.declared.read.Command.{Command}
use Rattle.hci.specs.declared.read.ReadError.{ReadError}
use Rattle.profile.specs.Profile.{row_answer}
use Rattle.profile.specs.declared.ControllerRow.{ControllerRow}
use Rattle.filters.specs.Filters.{entries_differ, identities_differ}
use Rattle.links.specs.Links.{Packet}
use Rattle.links.specs.Holding.{handle_of}
use Rattle.state.specs.State.{Model}
use Rattle.state.specs.declared.Controller.{Controller}
use Rattle.commands.specs.Following.{enabled_by}
use Rattle.calls.specs.Packets.{Profile}
use Rattle.calls.specs.Calls.{Call, on_packet, take_transmit, open_connection, completed, drop_in_flight, accept_connection}
use Rattle.calls.specs.Calls.{peer_update, request_ltk, complete_disconnect, remote_disconnect, advertising_timeout, Held, held}
use Rattle.calls.specs.Calls.{model_of}
use Rattle.calls.specs.Gives.{Answer, Gives, Starts}
use Rattle.credits.specs.Credits.{Buffers, Reading, CreditsHold}
use Rattle.credits.specs.Credits as book

-- ======== what the book is fed: a call's arguments, whether it was accepted, whether it opened a link, its events and how many
-- packets it took, never the state

-- ---- the arguments

-- "An ACL packet whose header parses": all that its header says
abbrev pub header_fed : Acl → book.Header
header_fed d = record { handle = d.handle; boundary = d.boundary; broadcast = d.broadcast; len = d.len }

abbrev pub data_fed : Result Acl ReadError → book.Packet
data_fed (Ok header) = book.Packet.acl (header_fed header)
data_fed (Err e) = book.Packet.bad_header

-- a "modelled 0x0C01": bit 4 of p[0]; other commands' parameters are not read
abbrev pub command_fed : Result Command ReadError → Profile → List ℕ → book.Packet
command_fed (Ok c) g p =
    cond (eqb c.opcode 0x0C01 && eqb (row_answer g.opcodes g.answers 0x0C01) 0)
    (book.Packet.set_event_mask (enabled_by (octet (parameters p) 0) 4))
    book.Packet.other
command_fed (Err e) g p = book.Packet.other

abbrev pub packet_fed : Profile → List ℕ → book.Packet
packet_fed g p = cond (eqb (octet p 0) 0x02) (data_fed (parse_acl p)) (command_fed (parse_command p) g p)

abbrev pub call_fed : Profile → Call → book.Call
call_fed g (on_packet address random p) = book.Call.packet (packet_fed g p)
call_fed g (take_transmit h most) = book.Call.taking h
call_fed g (open_connection h interval latency timeout) = book.Call.opening h
call_fed g (completed h count) = book.Call.completed h count
call_fed g (drop_in_flight count) = book.Call.dropping count
call_fed g (accept_connection h is_random peer interval latency timeout accuracy) = book.Call.opening h
call_fed g (peer_update h interval latency timeout) = book.Call.other
call_fed g (request_ltk h random diversifier) = book.Call.other
call_fed g (complete_disconnect h) = book.Call.other
call_fed g (remote_disconnect h reason) = book.Call.other
call_fed g advertising_timeout = book.Call.other

-- ---- the answer

-- whether an accepted call opens a link by the definitions of the notices: `open_connection` and `accept_connection` always do
abbrev pub opens_link : Call → Bool
opens_link (on_packet address random p) = false
opens_link (take_transmit h most) = false
opens_link (open_connection h interval latency timeout) = true
opens_link (completed h count) = false
opens_link (drop_in_flight count) = false
opens_link (accept_connection h is_random peer interval latency timeout accuracy) = true
opens_link (peer_update h interval latency timeout) = false
opens_link (request_ltk h random diversifier) = false
opens_link (complete_disconnect h) = false
opens_link (remote_disconnect h reason) = false
opens_link advertising_timeout = false

-- Number Of Completed Packets (0x13, section 7.7.19): from octet i on, n pairs of a handle and a count
unfoldable pub reports : ℕ → ℕ → List ℕ → List book.Event
reports zero i e = []
reports (suc n) i e = book.Event.report (word e i) (word e (i + 2)) ∷ reports n (i + 4) e

-- Command Complete (0x0E, section 7.7.14) of an opcode, with status 0
abbrev pub completes : ℕ → List ℕ → Bool
completes op e = eqb (octet e 1) 0x0E && (eqb (word e 4) op && eqb (octet e 6) 0)

-- what the book reads of one event: a completed report, Disconnection Complete (0x05, section 7.7.5), Command Complete of Reset
-- and of Set Event Mask with status 0; nothing of any other
abbrev pub event_fed : List ℕ → List book.Event
event_fed e =
    cond (eqb (octet e 1) 0x13) (reports (octet e 3) 4 e)
    (cond (eqb (octet e 1) 0x05) (book.Event.disconnected (word e 4) ∷ [])
    (cond (completes 0x0C03 e) (book.Event.reset_done ∷ [])
    (cond (completes 0x0C01 e) (book.Event.event_mask_set ∷ [])
    [])))

-- of all events in these octets, in order: they are cut apart by their length octets (`packets` of h4), never searched for a code
abbrev pub events_fed : List ℕ → List book.Event
events_fed octets = flatten (map event_fed (packets octets))

-- the octets of a call's events: what it wrote. A take writes packets, and no events
abbrev pub event_octets : Call → Answer → List ℕ
event_octets (on_packet address random p) a = take a.written a.after
event_octets (take_transmit h most) a = []
event_octets (open_connection h interval latency timeout) a = take a.written a.after
event_octets (completed h count) a = take a.written a.after
event_octets (drop_in_flight count) a = take a.written a.after
event_octets (accept_connection h is_random peer interval latency timeout accuracy) a = take a.written a.after
event_octets (peer_update h interval latency timeout) a = take a.written a.after
event_octets (request_ltk h random diversifier) a = take a.written a.after
event_octets (complete_disconnect h) a = take a.written a.after
event_octets (remote_disconnect h reason) a = take a.written a.after
event_octets advertising_timeout a = take a.written a.after

-- "The host's book is fed each call's arguments, whether it was accepted, whether it opened a link by demand 2's definitions, its
-- events and how many packets it took, never the state."
abbrev pub answer_fed : Call → Answer → book.Answer
answer_fed c a = record {
  accepted = eqb a.number 0;
  opened = opens_link c;
  events = events_fed (event_octets c a);
  taken = a.taken;
}

-- ======== the claim

-- ---- arguments are of their types: what the compiler checks of every caller

abbrev pub Word : ℕ → Type 0
Word n = n < 0x10000

abbrev pub Typed : Call → Type 0
Typed (on_packet address random p) = (length address ≡ 6) × (all (λ x. ltb x 256) p ≡ true)
Typed (take_transmit h most) = Word h
Typed (open_connection h interval latency timeout) = Word h
Typed (completed h count) = Word h × Word count
Typed (drop_in_flight count) = Word count
Typed (accept_connection h is_random peer interval latency timeout accuracy) = Word h × (length peer ≡ 6)
Typed (peer_update h interval latency timeout) = Word h
Typed (request_ltk h random diversifier) = Word h × (length random ≡ 8)
Typed (complete_disconnect h) = Word h
Typed (remote_disconnect h reason) = Word h
Typed advertising_timeout = Unit {0}

pub record TypedProfile (k : ControllerRow) : Type 0 where
  pub commands : length k.supported_commands ≡ 64
  pub features : length k.lmp_features ≡ 8
  pub states : length k.supported_states ≡ 8

-- A call in the list: what the contract of its function says it gives, and nothing else.
pub record Called (g : Profile) (c : Call) (s t : Held) (a : Answer) : Type 0 where
  pub typed : Typed c
  pub gives : Gives g c s t a

-- ---- what is read of a state at the end, and of the profile

abbrev pub owner_of : Packet → ℕ
owner_of p = p.handle

abbrev pub buffers_of : Model → Buffers
buffers_of m = record {
  handles = map handle_of m.links.connections;
  waiting = map owner_of m.links.queue;
  in_flight = m.links.in_flight;
}

-- "accept entries and resolving identities are distinct and within their sizes"; an identity is the type and the address of an
-- entry
pub record FiltersHold (g : Profile) (s : Held) : Type 0 where
  pub entries : entries_differ (model_of g s).accept_list ≡ true
  pub entries_few : length (model_of g s).accept_list ≤ g.controller.accept_list_size
  pub identities : identities_differ (model_of g s).resolving_list ≡ true
  pub identities_few : length (model_of g s).resolving_list ≤ g.controller.resolving_list_size

abbrev pub limits_of : Profile → book.Profile
limits_of g = record { acl_len = g.controller.acl_len; acl_count = g.controller.acl_count }

abbrev pub reading : Profile → Reading Call Held Answer
reading g = record { call = call_fed g; answer = answer_fed; buffers = λ s. buffers_of (model_of g s) }

-- Demand 3, "a single claim about a whole list of calls, [..] all under one profile and its rows, refused ones too. The first
-- gets the default state and a pool of any octets". `CreditsHold` has both halves, for every list: whatever the calls carry,
-- buffers, handles and the filter lists stay within their bounds; and while host and link keep their premises no data packet is
-- dropped and the host's count equals the buffers in use.
abbrev pub Demand3 : Type 0
Demand3 =
    (g : Profile) → TypedProfile g.controller → (s : Controller) → Starts s → (pool : List ℕ)
    → CreditsHold (reading g) (limits_of g) (FiltersHold g) (Called g) (held s pool)
