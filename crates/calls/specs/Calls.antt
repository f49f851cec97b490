-- The calls that users make, the questions that each goes through, and what each gives. For the contracts of `controller`, and
-- for the theorem about lists of calls. Document 01, "The questions a call goes through" and "Port order".
use Rattle.std.specs.Prelude.{ℕ, ◌*◌, List, [], ◌∷◌, Bool, cond, leb, length}
use Rattle.profile.specs.Profile.{within_limits, rows_fit}
use Rattle.links.specs.Links.{can_open, taken_from, after_taking}
use Rattle.transmit.specs.Transmit.{taken_octets}
use Rattle.state.specs.State.{Model, view}
use Rattle.state.specs.Holding.{state_holds, place_size}
use Rattle.state.specs.declared.Controller.{Controller}
use Rattle.answers.specs.Answers.{octets_of}
use Rattle.commands.specs.Parts.{with_links}
use Rattle.commands.specs.Outcome.{Outcome}
use Rattle.notices.specs.Notices as notices
use Rattle.calls.specs.Packets.{Profile, Reply, reply}
use Rattle.calls.specs.Packets as packets

-- a call with its arguments besides the profile, the state, the pool and the buffer
pub data Call : Type 0 where
  on_packet : List ℕ → ℕ → List ℕ → Call  -- public address, random number, packet
  take_transmit : ℕ → ℕ → Call  -- handle, how many packets at most
  open_connection : ℕ → ℕ → ℕ → ℕ → Call  -- handle, interval, latency, timeout
  completed : ℕ → ℕ → Call  -- handle, count
  drop_in_flight : ℕ → Call  -- count
  -- handle, the peer's address random and address, interval, latency, timeout, clock accuracy
  accept_connection : ℕ → Bool → List ℕ → ℕ → ℕ → ℕ → ℕ → Call
  peer_update : ℕ → ℕ → ℕ → ℕ → Call  -- handle, interval, latency, timeout
  request_ltk : ℕ → List ℕ → ℕ → Call  -- handle, random number, diversifier
  complete_disconnect : ℕ → Call  -- handle
  remote_disconnect : ℕ → ℕ → Call  -- handle, reason
  advertising_timeout : Call

-- a state with the pool that its waiting packets lie in
pub record Held : Type 0 where
  pub state : Controller
  pub pool : List ℕ

abbrev pub held : Controller → List ℕ → Held
held s pool = record { state = s; pool = pool }

-- the state as mathematics: a pool place is acl_len + 5 octets
abbrev pub model_of : Profile → Held → Model
model_of g s = view s.state (place_size g.controller) s.pool

-- ---- the questions

pub record Question : Type 0 where
  pub number : ℕ
  pub yes : Bool

-- the number of the first question with a "no", 0 where there is none
unfoldable pub first_no : List Question → ℕ
first_no [] = 0
first_no (q ∷ l) = cond q.yes (first_no l) q.number

-- 1: is the profile within its limits?
abbrev pub limits : Profile → Question
limits g = record { number = 1; yes = within_limits g.controller }

-- 2: are the row slices equally long, at most 256, answers at most 2?
abbrev pub rows : Profile → Question
rows g = record { number = 2; yes = rows_fit g.opcodes g.answers g.bits }

-- 3: does the state hold together?
abbrev pub together : Bool → Question
together holds = record { number = 3; yes = holds }

-- 4: has the pool, of so many octets, acl_count × (acl_len + 5) or more?
abbrev pub pool_room : Profile → ℕ → Question
pool_room g pool = record { number = 4; yes = leb (g.controller.acl_count * place_size g.controller) pool }

-- 5: has the event buffer 71 octets or more?
abbrev pub event_room : ℕ → Question
event_room room = record { number = 5; yes = leb 71 room }

-- 6: is the handle present, or one of sixteen places free?
abbrev pub link_room : ℕ → Model → Question
link_room h m = record { number = 6; yes = can_open h m.links.connections }

-- 7: does the buffer hold all packets to be taken, end to end?
abbrev pub packet_room : ℕ → ℕ → Model → ℕ → Question
packet_room h most m room = record { number = 7; yes = leb (length (taken_octets h most m.links)) room }

-- the questions of a call, in order: those about things it takes. `holds` answers question 3, `pool` is how many octets the pool
-- has, `room` how many the lent buffer has
abbrev pub questions_of : Profile → Call → Bool → ℕ → Model → ℕ → List Question
questions_of g (on_packet address random p) holds pool m room =
    limits g ∷ rows g ∷ together holds ∷ pool_room g pool ∷ event_room room ∷ []
questions_of g (take_transmit h most) holds pool m room =
    limits g ∷ together holds ∷ pool_room g pool ∷ packet_room h most m room ∷ []
questions_of g (open_connection h interval latency timeout) holds pool m room = limits g ∷ together holds ∷ link_room h m ∷ []
questions_of g (completed h count) holds pool m room = limits g ∷ together holds ∷ event_room room ∷ []
questions_of g (drop_in_flight count) holds pool m room = limits g ∷ together holds ∷ []
questions_of g (accept_connection h is_random peer interval latency timeout accuracy) holds pool m room =
    limits g ∷ together holds ∷ event_room room ∷ link_room h m ∷ []
questions_of g (peer_update h interval latency timeout) holds pool m room = limits g ∷ together holds ∷ event_room room ∷ []
questions_of g (request_ltk h random diversifier) holds pool m room = limits g ∷ together holds ∷ event_room room ∷ []
questions_of g (complete_disconnect h) holds pool m room = limits g ∷ together holds ∷ event_room room ∷ []
questions_of g (remote_disconnect h reason) holds pool m room = limits g ∷ together holds ∷ event_room room ∷ []
questions_of g advertising_timeout holds pool m room = limits g ∷ together holds ∷ event_room room ∷ []

abbrev pub questions : Profile → Call → Held → List ℕ → List Question
questions g c s out = questions_of g c (state_holds s.state g.controller) (length s.pool) (model_of g s) (length out)

-- ---- what an accepted call gives

-- a notice's event, and the state after it
abbrev pub told : Outcome → Reply
told o = reply (octets_of 0 0 o.answer) o.state

abbrev pub reply_to : Profile → Call → Model → Reply
reply_to g (on_packet address random p) m = packets.on_packet g address random p m
reply_to g (take_transmit h most) m = reply (taken_octets h most m.links) (with_links (after_taking h most m.links) m)
reply_to g (open_connection h interval latency timeout) m = told (notices.open_connection h interval latency timeout m)
reply_to g (completed h count) m = told (notices.completed h count m)
reply_to g (drop_in_flight count) m = told (notices.drop_in_flight count m)
reply_to g (accept_connection h is_random peer interval latency timeout accuracy) m =
    told (notices.accept_connection h (cond is_random 1 0) peer interval latency timeout accuracy m)
reply_to g (peer_update h interval latency timeout) m = told (notices.peer_update h interval latency timeout m)
reply_to g (request_ltk h random diversifier) m = told (notices.request_ltk h random diversifier m)
reply_to g (complete_disconnect h) m = told (notices.complete_disconnect h m)
reply_to g (remote_disconnect h reason) m = told (notices.remote_disconnect h reason m)
reply_to g advertising_timeout m = told (notices.advertising_timeout m)

-- how many packets a call takes
abbrev pub taken_by : Call → Model → ℕ
taken_by (on_packet address random p) m = 0
taken_by (take_transmit h most) m = length (taken_from h most m.links)
taken_by (open_connection h interval latency timeout) m = 0
taken_by (completed h count) m = 0
taken_by (drop_in_flight count) m = 0
taken_by (accept_connection h is_random peer interval latency timeout accuracy) m = 0
taken_by (peer_update h interval latency timeout) m = 0
taken_by (request_ltk h random diversifier) m = 0
taken_by (complete_disconnect h) m = 0
taken_by (remote_disconnect h reason) m = 0
taken_by advertising_timeout m = 0
