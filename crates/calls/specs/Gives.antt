-- The contract of an exported call, one record for all of them: any arguments, state, pool and buffer get the answer of the
-- definitions or one numbered refusal. The functions of `controller` promise it, and the theorem about lists of calls is about
-- it. Then the same for the queries and for the default state.
use Rattle.std.specs.Prelude.{◌≡◌, ℕ, ◌*◌, ◌<◌, List, [], ◌∷◌, Bool, true, false, replicate}
use Rattle.octets.specs.Octets.{splice, Put}
use Rattle.lists.specs.Lists.{any, keyed}
use Rattle.profile.specs.declared.ControllerRow.{ControllerRow}
use Rattle.profile.specs.Profile.{rows_fit, row_bitmap}
use Rattle.links.specs.Links.{waiting_of}
use Rattle.links.specs.Holding.{place_of}
use Rattle.state.specs.State.{Model, view, default_model}
use Rattle.state.specs.Holding.{state_holds, StateHolds, place_size}
use Rattle.state.specs.declared.Controller.{Controller}
use Rattle.calls.specs.Packets.{Profile, queues, stored}
use Rattle.calls.specs.Calls.{Call, on_packet, take_transmit, open_connection, completed, drop_in_flight, accept_connection}
use Rattle.calls.specs.Calls.{peer_update, request_ltk, complete_disconnect, remote_disconnect, advertising_timeout, Held, held}
use Rattle.calls.specs.Calls.{model_of, first_no, limits, together, questions, reply_to, taken_by}

-- What a call answers: its number, 0 where it is accepted; how many octets it wrote to the front of the lent buffer and how many
-- packets it took; the buffer as it came and as it was left, both [] for a call without one.
pub record Answer : Type 0 where
  pub number : ℕ
  pub written : ℕ
  pub taken : ℕ
  pub before : List ℕ
  pub after : List ℕ

-- A refused call changes no octet of state, pool or buffer.
pub record Refused (s t : Held) (a : Answer) : Type 0 where
  pub same : t ≡ s
  pub buffer : a.after ≡ a.before
  pub nothing : (a.written ≡ 0) × (a.taken ≡ 0)

-- What no definition decides: which place of the pool a queued packet gets. It is one of the acl_count places, no waiting packet
-- owns it, and no octet of the pool changes but the packet's own, be it in an unused place or past the places.
pub record Stored (k : ControllerRow) (octets : List ℕ) (s t : Held) : Type 0 where
  pub place : ℕ
  pub within : place < k.acl_count
  pub free : any (keyed place_of place) (waiting_of s.state.links) ≡ false
  pub stored : t.pool ≡ splice s.pool (place * place_size k) octets

-- the pool after a call: with the packet that the call queued, else as it was
abbrev pub PoolAfter : Bool → ControllerRow → List ℕ → Held → Held → Type 0
PoolAfter true k octets s t = Stored k octets s t
PoolAfter false k octets s t = t.pool ≡ s.pool

abbrev pub PoolLeft : Profile → Call → Held → Held → Type 0
PoolLeft g (on_packet address random p) s t = PoolAfter (queues g p (model_of g s)) g.controller (stored p) s t
PoolLeft g (take_transmit h most) s t = t.pool ≡ s.pool
PoolLeft g (open_connection h interval latency timeout) s t = t.pool ≡ s.pool
PoolLeft g (completed h count) s t = t.pool ≡ s.pool
PoolLeft g (drop_in_flight count) s t = t.pool ≡ s.pool
PoolLeft g (accept_connection h is_random peer interval latency timeout accuracy) s t = t.pool ≡ s.pool
PoolLeft g (peer_update h interval latency timeout) s t = t.pool ≡ s.pool
PoolLeft g (request_ltk h random diversifier) s t = t.pool ≡ s.pool
PoolLeft g (complete_disconnect h) s t = t.pool ≡ s.pool
PoolLeft g (remote_disconnect h reason) s t = t.pool ≡ s.pool
PoolLeft g advertising_timeout s t = t.pool ≡ s.pool

-- An accepted call gives what the definitions give: the state with what waits in the pool, the octets at the front of the buffer
-- and those behind them as they were, and how many packets. The new state holds together. What no definition decides of it, since
-- `viewed` does not show it, and what must hold of that:
-- - Which place a queued packet gets: `Stored`.
-- - The place numbers of the packets that wait: `together` asks that each waiting packet alone owns one of the acl_count places,
--   and `viewed` that the pool has the packet's octets there.
-- - The elements of an array past its count (connections, waiting packets, list entries, last answers, advertising data, scan
--   response data): nothing is asked of them.
-- No later call shows any of it: `unseen` in proofs/Unseen.antt.
pub record Accepted (g : Profile) (c : Call) (s t : Held) (a : Answer) : Type 0 where
  pub viewed : model_of g t ≡ (reply_to g c (model_of g s)).state
  pub written : Put a.before 0 (reply_to g c (model_of g s)).octets a.written a.after
  pub counted : a.taken ≡ taken_by c (model_of g s)
  pub together : StateHolds t.state g.controller
  pub pool : PoolLeft g c s t

-- The call c, at s and with the profile g, gives t and the answer a.
pub record Gives (g : Profile) (c : Call) (s t : Held) (a : Answer) : Type 0 where
  pub number : a.number ≡ first_no (questions g c s a.before)
  pub refused : 0 < a.number → Refused s t a
  pub accepted : a.number ≡ 0 → Accepted g c s t a

-- ---- how the functions say it

-- an answer without a buffer, with events, and with taken packets
abbrev pub plain : ℕ → Answer
plain number = record { number = number; written = 0; taken = 0; before = []; after = [] }

abbrev pub events : ℕ → ℕ → List ℕ → List ℕ → Answer
events number written before after = record { number = number; written = written; taken = 0; before = before; after = after }

abbrev pub packets : ℕ → ℕ → ℕ → List ℕ → List ℕ → Answer
packets number written taken before after =
    record { number = number; written = written; taken = taken; before = before; after = after }

abbrev pub profile_of : ControllerRow → List ℕ → List ℕ → List ℕ → Profile
profile_of k opcodes answers bits = record { controller = k; opcodes = opcodes; answers = answers; bits = bits }

-- a call that takes no rows gives the same whatever they are
abbrev pub GivesAnyRows : ControllerRow → Call → Held → Held → Answer → Type 0
GivesAnyRows k c s t a = (opcodes answers bits : List ℕ) → Gives (profile_of k opcodes answers bits) c s t a

-- one that takes no pool either gives the same whatever it holds, and leaves it
abbrev pub GivesAnyPool : ControllerRow → Call → Controller → Controller → Answer → Type 0
GivesAnyPool k c s t a = (pool : List ℕ) → GivesAnyRows k c (held s pool) (held t pool) a

-- ---- the queries and the default state

-- what is asked of a state, with questions 1 and 3; `none` is the answer of a refused query
pub record Finds {A : Type 0} (k : ControllerRow) (s : Controller) (sought : Model → A) (none : A) (number : ℕ) (answer : A)
    : Type 0 where
  pub asked : number ≡ first_no (limits (profile_of k [] [] []) ∷ together (state_holds s k) ∷ [])
  pub refused : 0 < number → answer ≡ none
  pub accepted : number ≡ 0 → (size : ℕ) (pool : List ℕ) → answer ≡ sought (view s size pool)

-- `row_bitmap`, with question 2
pub record FindsBitmap (opcodes answers bits : List ℕ) (number : ℕ) (map : List ℕ) : Type 0 where
  pub asked : number ≡ first_no (record { number = 2; yes = rows_fit opcodes answers bits } ∷ [])
  pub refused : 0 < number → map ≡ replicate 64 0
  pub accepted : number ≡ 0 → map ≡ row_bitmap answers bits

-- A state as a controller starts with it. What no definition decides of it are the elements of the arrays that have a count, as
-- each count is 0: nothing is asked of them, and no call shows them (`starts_alike` in proofs/Unseen.antt).
pub record Starts (s : Controller) : Type 0 where
  pub viewed : (size : ℕ) (pool : List ℕ) → view s size pool ≡ default_model
  pub together : (k : ControllerRow) → StateHolds s k
