-- What holds after every call, whatever it carries: buffers in use at most acl_count, at most 16 links, their handles different.
use mathlib.Core.Path.{◌≡◌, refl}
use mathlib.Core.Bool.{true, ◌&&◌, and-eq-true_iff}
use mathlib.Core.List.{[], ◌∷◌}
use Prim.Native.Nat.{ℕ, ◌≤◌, ◌<◌}
use native.Mathlib.Omega.{arith}
use lib.Dec.{leb, ltb}
use lib.ListN.{length, length-append}
use borrow.Author.Tests.{ltb-true, eq-eqb, lt-ltb, le-leb}
use borrow.Table.Steps.{cases}
use Rattle.lists.specs.Lists.{distinct_by, distinct}
use Rattle.lists.proofs.Fewer.{keep_fewer}
use Rattle.lists.proofs.Distinct.{distinct_fewer, keys_push}
use Rattle.credits.specs.Credits.{Header, Call, Answer, Profile, Buffers, in_use, Within}
use Rattle.credits.specs.Steps.{has, others, State, empty, queued, ended, opened, settled, after_take, capacity, flags_served}
use Rattle.credits.specs.Steps.{fits, received, can_open, Step, refusal, pass, reset, mask, receive, connect, take, complete}
use Rattle.credits.specs.Steps.{discard, disconnect}
use Rattle.credits.proofs.Handles.{has_others_same, others_at_most, others_fewer, taken_left}

pub within_empty : (k : Profile) → Within k empty
unfolding distinct_by
within_empty k = record { room = omega arith; differ = refl; few = omega arith }

-- what `fits` says, and back
pub fits_parts : (k : Profile) (d : Header) (s : Buffers) → fits k d s ≡ true
    → (has d.handle s.handles ≡ true) × (in_use s < capacity k)
unfolding fits
fits_parts k d s e =
    let room = ltb (in_use s) (capacity k) in
    let short = leb d.len k.acl_len in
    let p = (and-eq-true_iff (flags_served d) (has d.handle s.handles && (short && room))).0 e in
    let q = (and-eq-true_iff (has d.handle s.handles) (short && room)).0 p.1 in
    (q.0, ltb-true (in_use s) (capacity k) ((and-eq-true_iff short room).0 q.1).1)

pub fits_all : (k : Profile) (d : Header) (s : Buffers) → d.broadcast ≡ 0 → d.boundary ≤ 2 → has d.handle s.handles ≡ true
    → d.len ≤ k.acl_len → in_use s < capacity k → fits k d s ≡ true
unfolding fits
fits_all k d s f g p q r =
    rw (eq-eqb d.broadcast 0 f, le-leb d.boundary 2 g, p, le-leb d.len k.acl_len q, lt-ltb (in_use s) (capacity k) r)

-- ---- the changes
module _ (k : Profile) (s : Buffers) (i : Within k s) where
  within_queued : (d : Header) → fits k d s ≡ true → Within k (queued d.handle s)
  within_queued d e = record {
    room = omega (arith, (fits_parts k d s e).1, length-append s.waiting (d.handle ∷ []));
    differ = i.differ;
    few = i.few;
  }

  within_received : (d : Header) → Within k (received k d s)
  within_received d = cases (fits k d s) (λ e. rw e (within_queued d e)) (λ e. rw e i)

  differ_others : (h : ℕ) → distinct (λ x. x) (others h s.handles) ≡ true
  differ_others h = distinct_fewer _ (keep_fewer _ s.handles) i.differ

  within_ended : (h : ℕ) → Within k (ended h s)
  within_ended h = record {
    room = omega (arith, i.room, others_at_most h s.waiting);
    differ = differ_others h;
    few = omega (arith, i.few, others_at_most h s.handles);
  }

  room_for_one : (h : ℕ) → can_open h s ≡ true → length (others h s.handles) < 16
  room_for_one h e =
      cases (has h s.handles)
      (λ u. omega (arith, i.few, others_fewer h s.handles u))
      (λ u. omega (arith, others_at_most h s.handles, ltb-true (length s.handles) 16 (rw u at e)))

  within_opened : (h : ℕ) → can_open h s ≡ true → Within k (opened h s)
  within_opened h e = record {
    room = omega (arith, i.room, others_at_most h s.waiting);
    differ = keys_push (λ x. x) (others h s.handles) h (differ_others h) (has_others_same h s.handles);
    few = omega (arith, room_for_one h e, length-append (others h s.handles) (h ∷ []));
  }

  within_taken : (h most : ℕ) → Within k (after_take h most s)
  within_taken h most =
      record { room = omega (arith, i.room, taken_left h most s.waiting); differ = i.differ; few = i.few }

  within_settled : (n : ℕ) → Within k (settled n s)
  within_settled n = record { room = omega (arith, i.room); differ = i.differ; few = i.few }

pub within_step : {k : Profile} {c : Call} {s t : State} {a : Answer} → Step k c s t a → Within k s.buffers
    → Within k t.buffers
within_step (refusal f e) i = rw e i
within_step (pass p e q) i = rw e i
within_step {k} (reset p e q) i = rw e (within_empty k)
within_step (mask bit p e q) i = rw e i
within_step {k} {s = s} (receive d p e q) i = rw e (within_received k s.buffers i d)
within_step {k} {s = s} (connect h p l o e q) i = rw e (within_opened k s.buffers i h o)
within_step {k} {s = s} (take h most p e q) i = rw e (within_taken k s.buffers i h most)
within_step {k} {s = s} (complete h n p e q) i = rw e (within_settled k s.buffers i n)
within_step {k} {s = s} (discard n p e q) i = rw e (within_settled k s.buffers i n)
within_step {k} {s = s} (disconnect h p o e q) i = rw e (within_ended k s.buffers i h)
