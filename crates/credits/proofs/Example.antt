-- A run that meets all premises: Set Event Mask, two links, a packet of each taken, one reported, a refused call, one dropped
-- after its link's end, one that goes while it waits, with its link, Reset, and a packet after it; between them calls that
-- concern no credits. It is, call for call, what the book is fed of the run of `agreement`. For readers who ask whether the
-- premises can be met.
use mathlib.Core.Path.{◌≡◌, refl, ap}
use mathlib.Core.Bool.{true, false}
use mathlib.Core.List.{List, [], ◌∷◌}
use Prim.Native.Nat.{ℕ, ◌≤◌, ◌<◌}
use native.Mathlib.Omega.{arith}
use lib.Dec.{lit<, lit≤}
use Rattle.lists.specs.Lists.{any, keep, taken, leaving}
use Rattle.credits.specs.Credits.{Header, Packet, acl, bad_header, set_event_mask, Call, packet, opening, taking, completed}
use Rattle.credits.specs.Credits.{dropping, report, disconnected, reset_done, event_mask_set, Answer, Book, blank, unacknowledged}
use Rattle.credits.specs.Credits.{sum_below, put, noted, heard, heard_all, book, Profile, FitToSend, WellFormed}
use Rattle.credits.specs.Credits.{Reading, Made, Chained, last_of, call_of}
use Rattle.credits.specs.Credits.{answer_of, book_after, AllAlong, Premises, NothingDropped, CreditsHold}
use Rattle.credits.specs.Steps.{State, initial, fits, events, opened_link, packets, Step, refusal, pass, reset, mask, receive}
use Rattle.credits.specs.Steps.{connect, take, complete, discard, disconnect}
use Rattle.credits.proofs.Sums.{sum_zero, sum_put}
use Rattle.credits.proofs.Calls.{Obeys}
use Rattle.credits.proofs.Credits.{credits}

-- ---- a controller that does what the rules say, with the bench profile
abbrev pub bench : Profile
bench = record { acl_len = 27; acl_count = 2 }

abbrev pub Gives : Call → State → State → Answer → Type 0
Gives c s t a = Step bench c s t a

abbrev pub reading : Reading Call State Answer
reading = record { call = λ c. c; answer = λ c a. a; buffers = λ s. s.buffers }

pub claim : CreditsHold reading bench (λ s. Unit {0}) Gives initial
claim =
    credits reading (λ s. s.unmasked) bench Gives
    (λ s. Unit {0})
    (λ c s t a g i x. (x, tt))
    (λ s. Unit {0})
    (λ s g. tt)
    initial tt refl refl

-- ---- the run
-- of a packet to one link: its handle, its boundary flag and its length
abbrev pub header : ℕ → ℕ → ℕ → Header
header h boundary n = record { handle = h; boundary = boundary; broadcast = 0; len = n }

-- a call, the handles of the links after it, those of the waiting packets, how many are in flight, and the answer
abbrev pub entry : Call → List ℕ → List ℕ → ℕ → Answer → Made Call State Answer
entry c hs ws n a =
    record {
      call = c;
      left = record { buffers = record { handles = hs; waiting = ws; in_flight = n }; unmasked = true };
      gave = a;
    }

abbrev pub refused : Answer
refused = record { accepted = false; opened = false; events = []; taken = 0 }

abbrev pub run : List (Made Call State Answer)
run =
    entry (packet (set_event_mask true)) [] [] 0 (events (event_mask_set ∷ []))
    ∷ entry Call.other [] [] 0 (events [])
    ∷ entry (opening 1) (1 ∷ []) [] 0 opened_link
    ∷ entry (opening 2) (1 ∷ 2 ∷ []) [] 0 opened_link
    ∷ entry (packet (acl (header 1 2 5))) (1 ∷ 2 ∷ []) (1 ∷ []) 0 (events [])
    ∷ entry (packet (acl (header 2 0 27))) (1 ∷ 2 ∷ []) (1 ∷ 2 ∷ []) 0 (events [])
    ∷ entry (taking 1) (1 ∷ 2 ∷ []) (2 ∷ []) 1 (packets 1)
    ∷ entry (taking 2) (1 ∷ 2 ∷ []) [] 2 (packets 1)
    ∷ entry (completed 1 1) (1 ∷ 2 ∷ []) [] 1 (events (report 1 1 ∷ []))
    ∷ entry (packet (acl (header 9 0 99))) (1 ∷ 2 ∷ []) [] 1 refused
    ∷ entry Call.other (1 ∷ 2 ∷ []) [] 1 (events [])
    ∷ entry Call.other (1 ∷ 2 ∷ []) [] 1 (events [])
    ∷ entry Call.other (1 ∷ []) [] 1 (events (disconnected 2 ∷ []))
    ∷ entry (dropping 1) (1 ∷ []) [] 0 (events [])
    ∷ entry (packet (acl (header 1 0 3))) (1 ∷ []) (1 ∷ []) 0 (events [])
    ∷ entry (packet Packet.other) (1 ∷ []) (1 ∷ []) 0 (events [])
    ∷ entry Call.other [] [] 0 (events (disconnected 1 ∷ []))
    ∷ entry (packet Packet.other) [] [] 0 (events (reset_done ∷ []))
    ∷ entry (opening 1) (1 ∷ []) [] 0 opened_link
    ∷ entry (packet (acl (header 1 0 0))) (1 ∷ []) (1 ∷ []) 0 (events [])
    ∷ []

-- the facts about the calls of a list, one by one
infixr 20 ◌and◌
◌and◌ : {P Q : Type 0} → P → Q → P × Q
◌and◌ p q = (p, q)

-- each call follows a rule
pub run_chained : Chained Gives initial run
unfolding any keep taken leaving fits
run_chained =
    mask true refl refl refl
    and pass refl refl refl
    and connect 1 refl (lit< tt) refl refl refl
    and connect 2 refl (lit< tt) refl refl refl
    and receive (header 1 2 5) refl refl refl
    and receive (header 2 0 27) refl refl refl
    and take 1 1 refl refl refl
    and take 2 8 refl refl refl
    and complete 1 1 refl refl refl
    and refusal refl refl
    and pass refl refl refl
    and pass refl refl refl
    and disconnect 2 refl refl refl refl
    and discard 1 refl refl refl
    and receive (header 1 0 3) refl refl refl
    and pass refl refl refl
    and disconnect 1 refl refl refl refl
    and reset refl refl refl
    and connect 1 refl (lit< tt) refl refl refl
    and receive (header 1 0 0) refl refl refl
    and tt

-- ---- the premises at one call, from the book before it
-- which calls the premises name
abbrev pub kind : Call → ℕ
kind (packet (acl d)) = 0
kind (packet bad_header) = 0
kind (packet (set_event_mask bit)) = 1
kind (packet Packet.other) = 0
kind (opening h) = 2
kind (taking h) = 0
kind (completed h n) = 3
kind (dropping n) = 4
kind Call.other = 0

module _ {k : Profile} {b : Book} {a : Answer} where
  obeys_other : (c : Call) → kind c ≡ 0 → WellFormed k b c → b.ended ≡ 0 → Obeys k b c a
  obeys_other c z w e = record {
    rule = w;
    unmasked = λ bit p u. absurd (let x = ap kind p in omega arith);
    unused = λ h p u. absurd (let x = ap kind p in omega arith);
    link = (
      λ h n p u. absurd (let x = ap kind p in omega arith),
      λ u. absurd (omega arith),
      λ n p u. absurd (let x = ap kind p in omega arith),
    );
  }

  obeys_mask : b.ended ≡ 0 → Obeys k b (packet (set_event_mask true)) a
  obeys_mask e = record {
    rule = tt;
    unmasked = λ bit p u. cc;
    unused = λ h p u. cc;
    link = (λ h n p u. cc, λ u. absurd (omega arith), λ n p u. cc);
  }

  obeys_opening : (h : ℕ) → b.is_open h ≡ false → b.ended ≡ 0 → Obeys k b (opening h) a
  obeys_opening h o e = record {
    rule = tt;
    unmasked = λ bit p u. cc;
    unused = λ g p u. let same : h ≡ g = cc in rw (← same) o;
    link = (λ g n p u. cc, λ u. absurd (omega arith), λ n p u. cc);
  }

  obeys_completed : (h n : ℕ) → b.is_open h ≡ true → n ≤ b.out h → b.ended ≡ 0 → Obeys k b (completed h n) a
  obeys_completed h n o l e = record {
    rule = tt;
    unmasked = λ bit p u. cc;
    unused = λ g p u. cc;
    link = (
      λ g m p u. let same : h ≡ g = cc in let alike : n ≡ m = cc in rw (← same, ← alike) (o, l),
      λ u. absurd (omega arith),
      λ m p u. cc,
    );
  }

  obeys_dropping : (n : ℕ) → n ≤ b.ended → 0 < b.ended → Obeys k b (dropping n) a
  obeys_dropping n l p = record {
    rule = tt;
    unmasked = λ bit e u. cc;
    unused = λ h e u. cc;
    link = (λ h m e u. cc, λ u. (n, refl, l), λ m e u. absurd (omega arith));
  }

-- ---- the run meets the premises
-- what each link owes: link 1 a packet, both one, and link 2 one after that of link 1 was reported
abbrev owed_one : ℕ → ℕ
owed_one = put (λ h. 0) 1 1

abbrev owed_both : ℕ → ℕ
owed_both = put owed_one 2 1

abbrev owed_two : ℕ → ℕ
owed_two = put owed_both 1 0

-- the count where nothing is owed, where link 1 owes a packet, and where link 2 has ended
none_owed : sum_below 0x10000 (λ h. 0) < 2
none_owed = omega (arith, sum_zero 0x10000)

one_owed : sum_below 0x10000 owed_one < 2
one_owed = omega (arith, sum_zero 0x10000, sum_put 0x10000 (λ h. 0) 1 1 (lit< tt))

none_left : sum_below 0x10000 (put owed_two 2 0) < 2
none_left =
    omega (
      arith,
      one_owed,
      sum_put 0x10000 owed_one 2 1 (lit< tt),
      sum_put 0x10000 owed_both 1 0 (lit< tt),
      sum_put 0x10000 owed_two 2 0 (lit< tt),
    )

-- a packet that the host may send
may_send : {k : Profile} {b : Book} (h boundary n : ℕ) → b.is_open h ≡ true → boundary ≤ 2 → n ≤ k.acl_len
    → unacknowledged b < k.acl_count → FitToSend k b (header h boundary n)
may_send h boundary n o f l u = record { is_open = o; short = l; credit = u; no_broadcast = refl; boundary = f }

run_obeys : AllAlong reading (Obeys bench) blank run
unfolding noted heard heard_all book
run_obeys =
    (λ x. obeys_mask refl)
    and (λ x. obeys_other Call.other refl tt refl)
    and (λ x. obeys_opening 1 refl refl)
    and (λ x. obeys_opening 2 refl refl)
    and (λ x. obeys_other (packet (acl (header 1 2 5))) refl (may_send 1 2 5 refl (lit≤ tt) (lit≤ tt) none_owed) refl)
    and (λ x. obeys_other (packet (acl (header 2 0 27))) refl (may_send 2 0 27 refl (lit≤ tt) (lit≤ tt) one_owed) refl)
    and (λ x. obeys_other (taking 1) refl tt refl)
    and (λ x. obeys_other (taking 2) refl tt refl)
    and (λ x. obeys_completed 1 1 refl (lit≤ tt) refl)
    and (λ x. cc)
    and (λ x. obeys_other Call.other refl tt refl)
    and (λ x. obeys_other Call.other refl tt refl)
    and (λ x. obeys_other Call.other refl tt refl)
    and (λ x. obeys_dropping 1 (lit≤ tt) (lit< tt))
    and (λ x. obeys_other (packet (acl (header 1 0 3))) refl (may_send 1 0 3 refl (lit≤ tt) (lit≤ tt) none_left) refl)
    and (λ x. obeys_other (packet Packet.other) refl tt refl)
    and (λ x. obeys_other Call.other refl tt refl)
    and (λ x. obeys_other (packet Packet.other) refl tt refl)
    and (λ x. obeys_opening 1 refl refl)
    and (λ x. obeys_other (packet (acl (header 1 0 0))) refl (may_send 1 0 0 refl (lit≤ tt) (lit≤ tt) none_owed) refl)
    and tt

module _ {C S A : Type 0} (r : Reading C S A) where
  -- what holds of each call at once holds of each part of it
  along : {P Q : Book → Call → Answer → Type 0} → ((b : Book) (c : Call) (a : Answer) → P b c a → Q b c a)
      → (b : Book) (l : List (Made C S A)) → AllAlong r P b l → AllAlong r Q b l
  along f b [] w = tt
  along f b (m ∷ l) w =
      (λ x. f b (call_of r m) (answer_of r m) (w.0 x)) and along f (book b (call_of r m) (answer_of r m)) l w.1

pub run_premises : Premises reading bench run
run_premises = record {
  host_keeps_rule = along reading (λ b c a (o : Obeys bench b c a). o.rule) blank run run_obeys;
  unmasked = along reading (λ b c a (o : Obeys bench b c a). o.unmasked) blank run run_obeys;
  opens_unused = along reading (λ b c a (o : Obeys bench b c a). o.unused) blank run run_obeys;
  link_keeps_part = along reading (λ b c a (o : Obeys bench b c a). o.link) blank run run_obeys;
}

-- ---- what the claim says of it
pub run_drops_nothing : NothingDropped reading initial run
run_drops_nothing = (claim.credits run run_chained run_premises).0

-- it does not stop inside the pair of calls, so the host counts the one packet that is in use
pub run_count : unacknowledged (book_after reading blank run) ≡ 1
unfolding last_of book_after book noted heard_all heard
run_count = (claim.credits run run_chained run_premises).1 refl
