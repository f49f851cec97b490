-- One call, refused or accepted: if host and link keep their parts at it, the book still agrees with the state after it, and a
-- data packet was kept. For the proof of `credits`.
use mathlib.Core.Path.{◌≡◌, refl, sym, ◌∙◌}
use mathlib.Core.Bool.{true, cond}
use mathlib.Core.List.{[], ◌∷◌}
use Prim.Native.Nat.{ℕ, ◌≤◌, ◌<◌}
use native.Mathlib.Omega.{arith}
use lib.Dec.{eqb}
use borrow.Author.Tests.{eqb-true, eqb-false}
use borrow.Table.Steps.{cases}
use Rattle.lists.specs.Lists.{any}
use Rattle.credits.specs.Credits.{Header, Packet, acl, bad_header, set_event_mask, Call, packet, opening, taking, completed}
use Rattle.credits.specs.Credits.{dropping, report, event_mask_set, Answer, Book, noted, heard_all, book, Profile, WellFormed}
use Rattle.credits.specs.Credits.{OpensUnused, Unmasked, ReportsTaken, DropsEnded, DropsNoOther, LinkKeeps, Buffers, Kept}
use Rattle.credits.specs.Steps.{State, settled, fits, received, may_pass, events, opened_link, at, Step, refusal, pass, reset}
use Rattle.credits.specs.Steps.{mask, receive, connect, take, complete, discard, disconnect}
use Rattle.credits.proofs.Handles.{times_last_same}
use Rattle.credits.proofs.Bounds.{fits_parts, fits_all}
use Rattle.credits.proofs.Agrees.{Agrees, agrees_reset, counts, agrees_masked, agrees_queued, agrees_opened, agrees_taken}
use Rattle.credits.proofs.Agrees.{agrees_reported, agrees_none, agrees_ended, agrees_dropped}

-- the premises at one call
pub record Obeys (k : Profile) (b : Book) (c : Call) (a : Answer) : Type 0 where
  pub rule : WellFormed k b c
  pub unmasked : Unmasked c a
  pub unused : OpensUnused b c a
  pub link : LinkKeeps b c

-- ---- the premise about drops
-- a call that is no drop comes when `ended` is 0
none_ended : (b : Book) (c : Call) → DropsEnded b c → ((n : ℕ) → c ≡ dropping n → ⊥) → b.ended ≡ 0
none_ended b c w unless =
    cases (eqb b.ended 0) (λ e. eqb-true b.ended 0 e)
    (λ e. let x = w (omega (arith, eqb-false b.ended 0 e)) in absurd (unless x.0 x.1))

-- a drop is of at most `ended`
at_most_ended : (n : ℕ) (b : Book) → DropsEnded b (dropping n) → DropsNoOther b (dropping n) → n ≤ b.ended
at_most_ended n b w other =
    cases (eqb b.ended 0) (λ e. omega (arith, other n refl (eqb-true b.ended 0 e)))
    (λ e. let x = w (omega (arith, eqb-false b.ended 0 e)) in let y : n ≡ x.0 = cc in omega (arith, x.2))

-- ---- a call that does nothing
book_passed : (b : Book) (c : Call) → may_pass c ≡ true → book b c (events []) ≡ b
unfolding book noted heard_all
book_passed b (packet (acl d)) e = cc
book_passed b (packet bad_header) e = refl
book_passed b (packet (set_event_mask bit)) e = refl
book_passed b (packet Packet.other) e = refl
book_passed b (opening h) e = cc
book_passed b (taking h) e = cc
book_passed b (completed h n) e = cc
book_passed b (dropping n) e = cc
book_passed b Call.other e = refl

kept_passed : (k : Profile) (b : Book) (c : Call) (s : Buffers) → may_pass c ≡ true → WellFormed k b c → Kept c s s
kept_passed k b (packet (acl d)) s e w = cc
kept_passed k b (packet bad_header) s e w = w
kept_passed k b (packet (set_event_mask bit)) s e w = tt
kept_passed k b (packet Packet.other) s e w = tt
kept_passed k b (opening h) s e w = tt
kept_passed k b (taking h) s e w = tt
kept_passed k b (completed h n) s e w = tt
kept_passed k b (dropping n) s e w = tt
kept_passed k b Call.other s e w = tt

-- ---- an accepted call
module _ (k : Profile) {s : State} {b : Book} (i : Agrees s b) where
  -- a packet of a host that keeps the rule is queued
  received_fits : (d : Header) → WellFormed k b (packet (acl d)) → DropsEnded b (packet (acl d)) → fits k d s.buffers ≡ true
  received_fits d w drops =
      let none : b.ended ≡ 0 = none_ended b (packet (acl d)) drops (λ m e. cc) in
      fits_all k d s.buffers
      (omega (arith, w.no_broadcast))
      (omega (arith, w.boundary))
      (sym (i.opens d.handle) ∙ w.is_open)
      (omega (arith, w.short))
      (omega (arith, counts i, w.credit))

  received_agrees : (d : Header) → Obeys k b (packet (acl d)) (events [])
      → Agrees (at (received k d s.buffers) s) (book b (packet (acl d)) (events []))
      × Kept (packet (acl d)) s.buffers (received k d s.buffers)
  received_agrees d w =
      let e : fits k d s.buffers ≡ true = received_fits d w.rule w.link.1 in
      rw e (agrees_queued i d (fits_parts k d s.buffers e).0, times_last_same d.handle s.buffers.waiting)

  completed_agrees : (h n : ℕ) → ReportsTaken b (completed h n)
      → Agrees (at (settled n s.buffers) s) (book b (completed h n) (events (cond (eqb n 0) [] (report h n ∷ []))))
  completed_agrees h n w =
      cases (eqb n 0)
      (λ e. let none : n ≡ 0 = eqb-true n 0 e in rw (e, none) (agrees_none i h))
      (λ e.
      let some : 0 < n = omega (arith, eqb-false n 0 e) in
      rw e (agrees_reported i h n some (omega (arith, (w h n refl some).1))))

-- ---- one call
pub step_agrees : {k : Profile} {c : Call} {s t : State} {a : Answer} {b : Book} → Step k c s t a → Agrees s b
    → (a.accepted ≡ true → Obeys k b c a)
    → Agrees t (book b c a) × (a.accepted ≡ true → Kept c s.buffers t.buffers)
unfolding book any
step_agrees {a = a} (refusal f e) i w = (rw (e, f) i, λ y. cc)
step_agrees {k} {c} {s} {b = b} (pass p e q) i w =
    let v : Obeys k b c (events []) = rw q at (w (rw q)) in
    (rw (e, q, book_passed b c p) i, λ y. rw e (kept_passed k b c s.buffers p v.rule))
step_agrees {b = b} (reset p e q) i w = (rw (e, q, p) (agrees_reset b), λ y. rw p tt)
step_agrees {k} {b = b} (mask bit p e q) i w =
    let v : Obeys k b (packet (set_event_mask bit)) (events (event_mask_set ∷ [])) = rw (p, q) at (w (rw q)) in
    (rw (e, q, p) (agrees_masked i bit (v.unmasked bit refl refl)), λ y. rw p tt)
step_agrees {k} (receive d p e q) i w =
    let f = received_agrees k i d (rw (p, q) at (w (rw q))) in
    (rw (e, q, p) f.0, λ y. rw (e, p) f.1)
step_agrees {k} {b = b} (connect h p l o e q) i w =
    let v : Obeys k b (opening h) opened_link = rw (p, q) at (w (rw q)) in
    (rw (e, q, p) (agrees_opened i h (sym (i.opens h) ∙ v.unused h refl refl) l), λ y. rw p tt)
step_agrees (take h most p e q) i w = (rw (e, q, p) (agrees_taken i h most), λ y. rw p tt)
step_agrees {k} (complete h n p e q) i w =
    (rw (e, q, p) (completed_agrees k i h n (rw p at (w (rw q)).link.0)), λ y. rw p tt)
step_agrees {b = b} (discard n p e q) i w =
    let v : LinkKeeps b (dropping n) = rw p at (w (rw q)).link in
    (rw (e, q, p) (agrees_dropped i n (at_most_ended n b v.1 v.2)), λ y. rw p tt)
step_agrees (disconnect h p o e q) i w = (rw (e, rw i.tells at q, p) (agrees_ended i h o), λ y. rw p tt)
