-- Demand 3 as one claim about a whole list of calls, over any controller of which one says what its calls give: the host's book,
-- what host and link keep, and the claim, `CreditsHold`. For readers who check the claim about credits. Comments in quotation
-- marks are sentences of document 01, "Credits", or of demand 3 (document 00), that the lines below them state. `credits` in
-- proofs/Credits.antt proves the claim from what one call does, by the rules in Steps.antt.
use Rattle.std.specs.Prelude.{◌≡◌, Bool, true, false, cond, List, [], ◌∷◌, ℕ, zero, suc, ◌+◌, ◌-◌, ◌≤◌, ◌<◌, eqb, length}
use Rattle.lists.specs.Lists.{any, keep, distinct}

-- ======== the host's book

-- "The host's book is fed each call's arguments, whether it was accepted, whether it opened a link by demand 2's definitions,
-- its events and how many packets it took, never the state."

-- "Reading an ACL header must also give bits 12 and 13 (boundary) and bits 14 and 15 (broadcast)." (E2)
pub record Header : Type 0 where
  pub handle : ℕ
  pub boundary : ℕ
  pub broadcast : ℕ
  pub len : ℕ

-- A packet of the host, with what the book and the premises read of it.
pub data Packet : Type 0 where
  acl : Header → Packet  -- first octet 0x02, and the header parses
  bad_header : Packet  -- first octet 0x02, and the header does not parse
  set_event_mask : Bool → Packet  -- command 0x0C01, its row modelled: bit 4 of p[0]
  other : Packet

-- A call, with those of its arguments that the book and the premises read.
pub data Call : Type 0 where
  packet : Packet → Call  -- on_packet
  opening : ℕ → Call  -- open_connection, accept_connection: handle
  taking : ℕ → Call  -- take_transmit: handle
  completed : ℕ → ℕ → Call  -- completed: handle and count
  dropping : ℕ → Call  -- drop_in_flight: count
  other : Call  -- the other notices

-- An event that the book or the premises read.
pub data Event : Type 0 where
  report : ℕ → ℕ → Event  -- Number Of Completed Packets: handle and count
  disconnected : ℕ → Event  -- Disconnection Complete: handle
  reset_done : Event  -- Command Complete of Reset (0x0C03) with status 0
  event_mask_set : Event  -- Command Complete of 0x0C01 with status 0

-- What a call gave; of its events those above, in order.
pub record Answer : Type 0 where
  pub accepted : Bool
  pub opened : Bool
  pub events : List Event
  pub taken : ℕ

-- "For each handle it has an open mark, `owed` and `out`, and beside them one number `ended`;"
pub record Book : Type 0 where
  pub is_open : ℕ → Bool
  pub owed : ℕ → ℕ
  pub out : ℕ → ℕ
  pub ended : ℕ

-- "at first all are closed or 0."
abbrev pub blank : Book
blank = record { is_open = λ h. false; owed = λ h. 0; out = λ h. 0; ended = 0 }

-- the sum of f over the numbers below n
unfoldable pub sum_below : ℕ → (ℕ → ℕ) → ℕ
sum_below zero f = 0
sum_below (suc n) f = sum_below n f + f n

-- "The host's unacknowledged count is the sum of `owed`." A handle is a 16-bit number.
abbrev pub unacknowledged : Book → ℕ
unacknowledged b = sum_below 0x10000 b.owed

-- f, but v at h
abbrev pub put {ℓ} : {A : Type ℓ} → (ℕ → A) → ℕ → A → ℕ → A
put f h v k = cond (eqb k h) v (f k)

-- "An accepted one: An ACL packet whose header parses adds 1 to its handle's `owed`. A notice that opened a link opens its
-- handle. A take adds the packets it gave to its handle's `out`. `completed` lowers its handle's `out` by its count, a drop
-- `ended`, neither below 0." (`-` stops at 0.)
unfoldable pub noted : Book → Call → Answer → Book
noted b (packet (acl d)) a =
    record { is_open = b.is_open; owed = put b.owed d.handle (b.owed d.handle + 1); out = b.out; ended = b.ended }
noted b (packet bad_header) a = b
noted b (packet (set_event_mask bit)) a = b
noted b (packet other) a = b
noted b (opening h) a =
    record { is_open = cond a.opened (put b.is_open h true) b.is_open; owed = b.owed; out = b.out; ended = b.ended }
noted b (taking h) a =
    record { is_open = b.is_open; owed = b.owed; out = put b.out h (b.out h + a.taken); ended = b.ended }
noted b (completed h n) a =
    record { is_open = b.is_open; owed = b.owed; out = put b.out h (b.out h - n); ended = b.ended }
noted b (dropping n) a = record { is_open = b.is_open; owed = b.owed; out = b.out; ended = b.ended - n }
noted b other a = b

-- "a completed report lowers its handle's `owed` by its count, not below 0; Disconnection Complete closes its handle, zeroes
-- its `owed` and moves its `out` to `ended`; Reset's status 0 closes and zeroes all."
unfoldable pub heard : Book → Event → Book
heard b (report h n) =
    record { is_open = b.is_open; owed = put b.owed h (b.owed h - n); out = b.out; ended = b.ended }
heard b (disconnected h) = record {
  is_open = put b.is_open h false;
  owed = put b.owed h 0;
  out = put b.out h 0;
  ended = b.ended + b.out h;
}
heard b reset_done = blank
heard b event_mask_set = b

-- "Then its events in order:"
unfoldable pub heard_all : Book → List Event → Book
heard_all b [] = b
heard_all b (e ∷ es) = heard_all (heard b e) es

-- "A refused call changes nothing." The book after a call:
unfoldable pub book : Book → Call → Answer → Book
book b c a = cond a.accepted (heard_all (noted b c a) a.events) b

-- ======== what the host and the radio link keep, each at one accepted call, with the book before that call

-- What is read of the profile.
pub record Profile : Type 0 where
  pub acl_len : ℕ
  pub acl_count : ℕ

-- "The host keeps the rule (Core section 4) if each accepted packet with first octet 0x02 is well-formed, that is, its header
-- parses, its handle is open, its length at most acl_len and the count before it below acl_count." "A host's well-formed packet
-- now has broadcast 0 and boundary 0 to 2." (E2)
pub record FitToSend (k : Profile) (b : Book) (d : Header) : Type 0 where
  pub is_open : b.is_open d.handle ≡ true
  pub short : d.len ≤ k.acl_len
  pub credit : unacknowledged b < k.acl_count
  pub no_broadcast : d.broadcast ≡ 0
  pub boundary : d.boundary ≤ 2

abbrev pub WellFormed : Profile → Book → Call → Type 0
WellFormed k b (packet (acl d)) = FitToSend k b d
WellFormed k b (packet bad_header) = ⊥
WellFormed k b (packet (set_event_mask bit)) = Unit {0}
WellFormed k b (packet Packet.other) = Unit {0}
WellFormed k b (opening h) = Unit {0}
WellFormed k b (taking h) = Unit {0}
WellFormed k b (completed h n) = Unit {0}
WellFormed k b (dropping n) = Unit {0}
WellFormed k b Call.other = Unit {0}

-- "Unused means closed." A call that opened a link opened it on an unused handle.
abbrev pub OpensUnused : Book → Call → Answer → Type 0
OpensUnused b c a = (h : ℕ) → c ≡ opening h → a.opened ≡ true → b.is_open h ≡ false

-- Command Complete of 0x0C01 with status 0
abbrev pub sets_event_mask : Event → Bool
sets_event_mask (report h n) = false
sets_event_mask (disconnected h) = false
sets_event_mask reset_done = false
sets_event_mask event_mask_set = true

-- "Unmasked means that no modelled 0x0C01 answered with status 0 has bit 4 of p[0] clear."
abbrev pub Unmasked : Call → Answer → Type 0
Unmasked c a = (bit : Bool) → c ≡ packet (set_event_mask bit) → any sets_event_mask a.events ≡ true → bit ≡ true

-- "The link keeps its part if each accepted `completed` with count above 0 names an open handle and at most its `out`,"
-- The proof does not need the open mark, since a handle with packets out is open.
abbrev pub ReportsTaken : Book → Call → Type 0
ReportsTaken b c = (h n : ℕ) → c ≡ completed h n → 0 < n → (b.is_open h ≡ true) × (n ≤ b.out h)

-- "and if, while `ended` is above 0, the next accepted call is a drop of at most `ended`,"
abbrev pub DropsEnded : Book → Call → Type 0
DropsEnded b c = 0 < b.ended → (n : ℕ) × (c ≡ dropping n) × (n ≤ b.ended)

-- "and other drops are of 0."
abbrev pub DropsNoOther : Book → Call → Type 0
DropsNoOther b c = (n : ℕ) → c ≡ dropping n → b.ended ≡ 0 → n ≡ 0

abbrev pub LinkKeeps : Book → Call → Type 0
LinkKeeps b c = ReportsTaken b c × DropsEnded b c × DropsNoOther b c

-- ======== the claim

-- What is read of a state: the handles of the links, the handle of each packet that waits in a link, and how many packets are in
-- flight.
pub record Buffers : Type 0 where
  pub handles : List ℕ
  pub waiting : List ℕ
  pub in_flight : ℕ

-- "In use means waiting in all links plus in flight."
abbrev pub in_use : Buffers → ℕ
in_use s = length s.waiting + s.in_flight

-- how many packets wait in the link of a handle
abbrev pub waiting_in : ℕ → Buffers → ℕ
waiting_in h s = length (keep (λ x. eqb x h) s.waiting)

-- A controller with calls C, states S (with their pools) and answers A, as the claim reads it.
pub record Reading (C S A : Type 0) : Type 0 where
  pub call : C → Call
  pub answer : C → A → Answer
  pub buffers : S → Buffers

-- "Demand 3 is a single claim about a whole list of calls": a call, the state that it returned with the pool that it left, and
-- its answer.
pub record Made (C S A : Type 0) : Type 0 where
  pub call : C
  pub left : S
  pub gave : A

-- "each giving what demand 2's definitions give, in any order, with any arguments, [..] refused ones too. The first gets the
-- default state and a pool of any octets, each later one the state the last returned and the pool it left":
-- `Gives c s t a` says that the call c at s gives t and the answer a.
abbrev pub Chained : {C S A : Type 0} → (C → S → S → A → Type 0) → S → List (Made C S A) → Type 0
Chained Gives s [] = Unit {0}
Chained Gives s (m ∷ l) = Gives m.call s m.left m.gave × Chained Gives m.left l

-- the state after the list
unfoldable pub last_of : {C S A : Type 0} → S → List (Made C S A) → S
last_of s [] = s
last_of s (m ∷ l) = last_of m.left l

-- "after it, buffers in use are at most `acl_count`; handles [..] are distinct and within their sizes." (demand 3) "Handles are
-- those of the links, at most 16".
pub record Within (k : Profile) (s : Buffers) : Type 0 where
  pub room : in_use s ≤ k.acl_count
  pub differ : distinct (λ h. h) s.handles ≡ true
  pub few : length s.handles ≤ 16

-- "A data packet is dropped if its accepted call adds no waiting packet to its link." It is kept if the call adds one; one whose
-- header does not parse has no link, and is never kept.
abbrev pub Kept : Call → Buffers → Buffers → Type 0
Kept (packet (acl d)) s t = waiting_in d.handle t ≡ waiting_in d.handle s + 1
Kept (packet bad_header) s t = ⊥
Kept (packet (set_event_mask bit)) s t = Unit {0}
Kept (packet Packet.other) s t = Unit {0}
Kept (opening h) s t = Unit {0}
Kept (taking h) s t = Unit {0}
Kept (completed h n) s t = Unit {0}
Kept (dropping n) s t = Unit {0}
Kept Call.other s t = Unit {0}

module _ {C S A : Type 0} (r : Reading C S A) where
  -- what the book is fed of a call
  abbrev pub call_of : Made C S A → Call
  call_of m = r.call m.call

  abbrev pub answer_of : Made C S A → Answer
  answer_of m = r.answer m.call m.gave

  -- the book after the list
  unfoldable pub book_after : Book → List (Made C S A) → Book
  book_after b [] = b
  book_after b (m ∷ l) = book_after (book b (call_of m) (answer_of m)) l

  -- "all along it" (demand 3): P holds of each accepted call, with the book before it
  abbrev pub AllAlong : (Book → Call → Answer → Type 0) → Book → List (Made C S A) → Type 0
  AllAlong P b [] = Unit {0}
  AllAlong P b (m ∷ l) =
      ((answer_of m).accepted ≡ true → P b (call_of m) (answer_of m)) × AllAlong P (book b (call_of m) (answer_of m)) l

  -- "If all along it the host keeps the standard's credit rule, disconnection events stay unmasked, links open only on unused
  -- handles [..] and the radio link settles each taken packet once" (demand 3). Two more premises of demand 3 are not needed, so
  -- the claim is made without them: that handles are at most 0x0EFF, and that no profile leaves Reset unmodelled.
  pub record Premises (k : Profile) (l : List (Made C S A)) : Type 0 where
    pub host_keeps_rule : AllAlong (λ b c a. WellFormed k b c) blank l
    pub unmasked : AllAlong (λ b c a. Unmasked c a) blank l
    pub opens_unused : AllAlong OpensUnused blank l
    pub link_keeps_part : AllAlong (λ b c a. LinkKeeps b c) blank l

  -- "then nothing the host sent in the list was dropped" (demand 3)
  abbrev pub NothingDropped : S → List (Made C S A) → Type 0
  NothingDropped s [] = Unit {0}
  NothingDropped s (m ∷ l) =
      ((answer_of m).accepted ≡ true → Kept (call_of m) (r.buffers s) (r.buffers m.left)) × NothingDropped m.left l

  -- "and unless the list stops inside that pair of calls, the host's unacknowledged count [..] equals the buffers in use."
  -- (demand 3) "Inside the pair of calls means `ended` above 0."
  abbrev pub CountAgrees : S → List (Made C S A) → Type 0
  CountAgrees s l = (book_after blank l).ended ≡ 0 → unacknowledged (book_after blank l) ≡ in_use (r.buffers (last_of s l))

  -- Demand 3 for every list from a state. `FiltersHold` stands for "accept entries and resolving identities are distinct and
  -- within their sizes".
  pub record CreditsHold (k : Profile) (FiltersHold : S → Type 0) (Gives : C → S → S → A → Type 0) (from : S) : Type 0 where
    -- "refused ones included, whatever they carry"
    pub within : (l : List (Made C S A)) → Chained Gives from l
        → Within k (r.buffers (last_of from l)) × FiltersHold (last_of from l)
    pub credits : (l : List (Made C S A)) → Chained Gives from l → Premises k l → NothingDropped from l × CountAgrees from l
