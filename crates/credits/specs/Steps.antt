-- What one call does to the buffers, as rules. The claim `CreditsHold` does not speak of them, and a reader of the claim need
-- not believe them: crates/agreement proves, from the calls' own contracts, that each call of the controller follows one. They
-- stand here because the theorem `credits` (proofs/Credits.antt) is stated with them, as it gives the claim for every controller
-- whose calls follow them, and because wrong controllers are tried on them. For readers of that theorem.
use Rattle.std.specs.Prelude.{◌≡◌, Bool, true, false, cond, not, ◌||◌, ◌&&◌, List, [], ◌∷◌, ◌++◌, ℕ, ◌+◌, ◌-◌, ◌<◌, eqb, leb, ltb}
use Rattle.std.specs.Prelude.{length}
use Rattle.lists.specs.Lists.{any, keep, taken, leaving}
use Rattle.credits.specs.Credits.{Header, Packet, acl, bad_header, set_event_mask, Call, packet, opening, taking, completed}
use Rattle.credits.specs.Credits.{dropping, Event, report, disconnected, reset_done, event_mask_set, Answer, Profile, Buffers}
use Rattle.credits.specs.Credits.{in_use}

-- ---- lists of handles

-- is the handle in the list?
abbrev pub has : ℕ → List ℕ → Bool
has h l = any (λ x. eqb x h) l

-- the other handles
abbrev pub others : ℕ → List ℕ → List ℕ
others h l = keep (λ x. not (eqb x h)) l

-- ---- the state

-- the buffers, and bit 4 of the event mask
pub record State : Type 0 where
  pub buffers : Buffers
  pub unmasked : Bool

-- no link, nothing waits, nothing is in flight
abbrev pub empty : Buffers
empty = record { handles = []; waiting = []; in_flight = 0 }

abbrev pub initial : State
initial = record { buffers = empty; unmasked = true }

-- ---- the changes

-- one packet more waits in a link
abbrev pub queued : ℕ → Buffers → Buffers
queued h s = record { handles = s.handles; waiting = s.waiting ++ (h ∷ []); in_flight = s.in_flight }

-- a link's end: its queue goes with it, what is in flight stays
abbrev pub ended : ℕ → Buffers → Buffers
ended h s = record { handles = others h s.handles; waiting = others h s.waiting; in_flight = s.in_flight }

-- a link with the handle ends first
abbrev pub opened : ℕ → Buffers → Buffers
opened h s =
    record { handles = others h s.handles ++ (h ∷ []); waiting = others h s.waiting; in_flight = s.in_flight }

-- how many packets a take of up to `most` gives
abbrev pub given : ℕ → ℕ → Buffers → ℕ
given h most s = length (taken (λ x. eqb x h) most s.waiting)

abbrev pub after_take : ℕ → ℕ → Buffers → Buffers
after_take h most s = record {
  handles = s.handles;
  waiting = leaving (λ x. eqb x h) most s.waiting;
  in_flight = s.in_flight + given h most s;
}

abbrev pub settled : ℕ → Buffers → Buffers
settled n s = record { handles = s.handles; waiting = s.waiting; in_flight = s.in_flight - n }

-- ---- the tests, and what hangs on one

-- how many packets the controller holds
abbrev pub capacity : Profile → ℕ
capacity k = k.acl_count

-- "A packet with nonzero broadcast bits or boundary 3 is counted as dropped." (E2)
abbrev pub flags_served : Header → Bool
flags_served d = eqb d.broadcast 0 && leb d.boundary 2

-- an ACL packet is queued
unfoldable pub fits : Profile → Header → Buffers → Bool
fits k d s =
    flags_served d && (has d.handle s.handles && (leb d.len k.acl_len && ltb (in_use s) (capacity k)))

-- an ACL packet, queued or dropped
abbrev pub received : Profile → Header → Buffers → Buffers
received k d s = cond (fits k d s) (queued d.handle s) s

-- question 6
abbrev pub can_open : ℕ → Buffers → Bool
can_open h s = has h s.handles || ltb (length s.handles) 16

-- a call that may leave the buffers as they are and give no event that the book reads
abbrev pub may_pass : Call → Bool
may_pass (packet (acl d)) = false
may_pass (packet bad_header) = true
may_pass (packet (set_event_mask bit)) = true
may_pass (packet Packet.other) = true
may_pass (opening h) = false
may_pass (taking h) = false
may_pass (completed h n) = false
may_pass (dropping n) = false
may_pass Call.other = true

-- an accepted call's answer: its events, that it opened a link, or how many packets it took
abbrev pub events : List Event → Answer
events es = record { accepted = true; opened = false; events = es; taken = 0 }

abbrev pub opened_link : Answer
opened_link = record { accepted = true; opened = true; events = []; taken = 0 }

abbrev pub packets : ℕ → Answer
packets n = record { accepted = true; opened = false; events = []; taken = n }

-- a state with other buffers
abbrev pub at : Buffers → State → State
at b s = record { buffers = b; unmasked = s.unmasked }

-- ---- the rules: the call c at s gives t and a
pub data Step (k : Profile) (c : Call) (s t : State) (a : Answer) : Type 0 where
  refusal : a.accepted ≡ false → t ≡ s → Step k c s t a
  -- nothing that concerns credits
  pass : may_pass c ≡ true → t ≡ s → a ≡ events [] → Step k c s t a
  -- Reset, answered with status 0
  reset : c ≡ packet Packet.other → t ≡ initial → a ≡ events (reset_done ∷ []) → Step k c s t a
  -- 0x0C01, answered with status 0
  mask : (bit : Bool) → c ≡ packet (set_event_mask bit) → t ≡ record { buffers = s.buffers; unmasked = bit }
      → a ≡ events (event_mask_set ∷ []) → Step k c s t a
  -- an ACL packet
  receive : (d : Header) → c ≡ packet (acl d) → t ≡ at (received k d s.buffers) s → a ≡ events [] → Step k c s t a
  -- open_connection, accept_connection; a handle is a 16-bit number
  connect : (h : ℕ) → c ≡ opening h → h < 0x10000 → can_open h s.buffers ≡ true → t ≡ at (opened h s.buffers) s
      → a ≡ opened_link → Step k c s t a
  -- take_transmit
  take : (h most : ℕ) → c ≡ taking h → t ≡ at (after_take h most s.buffers) s
      → a ≡ packets (given h most s.buffers) → Step k c s t a
  -- completed
  complete : (h n : ℕ) → c ≡ completed h n → t ≡ at (settled n s.buffers) s
      → a ≡ events (cond (eqb n 0) [] (report h n ∷ [])) → Step k c s t a
  -- drop_in_flight
  discard : (n : ℕ) → c ≡ dropping n → t ≡ at (settled n s.buffers) s → a ≡ events [] → Step k c s t a
  -- remote_disconnect, complete_disconnect of a link
  disconnect : (h : ℕ) → c ≡ Call.other → has h s.buffers.handles ≡ true → t ≡ at (ended h s.buffers) s
      → a ≡ events (cond s.unmasked (disconnected h ∷ []) []) → Step k c s t a
