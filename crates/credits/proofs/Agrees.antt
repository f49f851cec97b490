-- The host's book agrees with the state, and each change of the buffers keeps that. For the proof of `credits`.
use mathlib.Core.Path.{◌≡◌, refl, sym, ◌∙◌, fun_ext}
use mathlib.Core.Bool.{Bool, true, false, ◌||◌, or-false, or-true}
use mathlib.Core.List.{[], ◌∷◌, ◌++◌}
use Prim.Native.Nat.{ℕ, ◌+◌, ◌-◌, ◌≤◌, ◌<◌}
use native.Mathlib.Omega.{arith}
use lib.Dec.{eqb}
use borrow.Author.Tests.{eqb-true, eqb-false, ne_eqb}
use borrow.Table.Steps.{cases}
use Rattle.lists.specs.Lists.{any, keep}
use Rattle.lists.proofs.Same.{eqb_sym}
use Rattle.credits.specs.Credits.{Header, Packet, acl, set_event_mask, Call, packet, opening, taking, completed, dropping, report}
use Rattle.credits.specs.Credits.{disconnected, reset_done, event_mask_set, Book, blank, unacknowledged, put, sum_below, noted}
use Rattle.credits.specs.Credits.{heard, heard_all, book, in_use}
use Rattle.credits.specs.Steps.{has, others, State, initial, queued, ended, opened, given, after_take, settled, events}
use Rattle.credits.specs.Steps.{opened_link, packets, at}
use Rattle.credits.proofs.Sums.{put_own, sum_cong, sum_zero, sum_add, sum_put, sum_at}
use Rattle.credits.proofs.Handles.{times, has_others_same, has_others, times_others_same, times_others, others_none}
use Rattle.credits.proofs.Handles.{has_last, times_last_same, times_last, times_left_same, times_left, taken_times, length_sum}

pub record Agrees (s : State) (b : Book) : Type 0 where
  pub opens : (h : ℕ) → b.is_open h ≡ has h s.buffers.handles
  pub owes : (h : ℕ) → b.owed h ≡ times h s.buffers.waiting + b.out h
  pub shut : (h : ℕ) → has h s.buffers.handles ≡ false → b.owed h ≡ 0
  pub flying : s.buffers.in_flight ≡ sum_below 0x10000 b.out + b.ended
  pub small : (h : ℕ) → has h s.buffers.handles ≡ true → h < 0x10000
  pub tells : s.unmasked ≡ true

-- Reset forgets all
pub agrees_reset : (b : Book) → Agrees initial (book b (packet Packet.other) (events (reset_done ∷ [])))
unfolding book noted heard_all heard any keep
agrees_reset b = record {
  opens = λ h. refl;
  owes = λ h. refl;
  shut = λ h p. refl;
  flying = omega (arith, sum_zero 0x10000);
  small = λ h p. cc;
  tells = refl;
}

-- the default state is that after a Reset
pub agrees_initial : Agrees initial blank
unfolding book noted heard_all heard
agrees_initial = agrees_reset blank

module _ {s : State} {b : Book} (i : Agrees s b) where
  -- a handle whose packets are in use has a link
  owes_linked : (h : ℕ) → 0 < b.owed h → has h s.buffers.handles ≡ true
  owes_linked h p = cases (has h s.buffers.handles) (λ e. e) (λ e. absurd (omega (arith, i.shut h e)))

  -- the count, and what the ended links left in flight, are the buffers in use
  pub counts : unacknowledged b + b.ended ≡ in_use s.buffers
  counts = omega (
    arith,
    sum_cong 0x10000 b.owed (λ h. times h s.buffers.waiting + b.out h) i.owes,
    sum_add 0x10000 (λ h. times h s.buffers.waiting) b.out,
    length_sum 0x10000 s.buffers.waiting (λ h p. i.small h (owes_linked h (omega (arith, i.owes h)))),
    i.flying,
  )

  -- two handles, one of which has a link
  apart : (x h : ℕ) → has h s.buffers.handles ≡ true → has x s.buffers.handles ≡ false → eqb x h ≡ false
  apart x h p q = ne_eqb x h (λ e. cc)

  -- bit 4 of the event mask is set again
  pub agrees_masked : (bit : Bool) → bit ≡ true
      → Agrees (record { buffers = s.buffers; unmasked = bit })
      (book b (packet (set_event_mask bit)) (events (event_mask_set ∷ [])))
  unfolding book noted heard_all heard
  agrees_masked bit e =
      record { opens = i.opens; owes = i.owes; shut = i.shut; flying = i.flying; small = i.small; tells = e }

  -- a packet more waits in a link
  pub agrees_queued : (d : Header) → has d.handle s.buffers.handles ≡ true
      → Agrees (at (queued d.handle s.buffers) s) (book b (packet (acl d)) (events []))
  unfolding book noted heard_all
  agrees_queued d p =
      let h = d.handle in
      record {
        opens = i.opens;
        owes = λ x.
            cases (eqb x h)
            (λ e.
            let same : x ≡ h = eqb-true x h e in
            rw (e, same) (omega (arith, i.owes h, times_last_same h s.buffers.waiting)))
            (λ e. rw e (omega (arith, i.owes x, times_last x h s.buffers.waiting (eqb-false x h e))));
        shut = λ x q. rw (apart x h p q) (i.shut x q);
        flying = i.flying;
        small = i.small;
        tells = i.tells;
      }

  -- a link opens on a handle that had none
  pub agrees_opened : (h : ℕ) → has h s.buffers.handles ≡ false → h < 0x10000
      → Agrees (at (opened h s.buffers) s) (book b (opening h) opened_link)
  unfolding book noted heard_all
  agrees_opened h p l = record {
    opens = λ x.
        rw (listed x, eqb_sym h x)
        (cases (eqb x h) (λ e. rw e (sym (or-true (has x s.buffers.handles)))) (λ e. rw (e, or-false) (i.opens x)));
    owes = λ x.
        cases (eqb x h)
        (λ e.
        let same : x ≡ h = eqb-true x h e in
        rw same (omega (arith, i.owes h, i.shut h p, times_others_same h s.buffers.waiting)))
        (λ e. omega (arith, i.owes x, times_others x h s.buffers.waiting (eqb-false x h e)));
    shut = λ x q. i.shut x (or_left (has x s.buffers.handles) (eqb h x) (sym (listed x) ∙ q));
    flying = i.flying;
    small = λ x q.
        cases (eqb h x)
        (λ e. let same : h ≡ x = eqb-true h x e in omega arith)
        (λ e. i.small x (sym (or-false (has x s.buffers.handles)) ∙ rw e at (sym (listed x) ∙ q)));
    tells = i.tells;
  }
    where
      or_left : (t u : Bool) → t || u ≡ false → t ≡ false
      or_left true u e = e
      or_left false u e = refl

      listed : (x : ℕ) → has x (others h s.buffers.handles ++ (h ∷ [])) ≡ has x s.buffers.handles || eqb h x
      listed x = rw (others_none h s.buffers.handles p) (has_last x h s.buffers.handles)

  -- a take moves packets from the queue of its link into flight
  pub agrees_taken : (h most : ℕ)
      → Agrees (at (after_take h most s.buffers) s) (book b (taking h) (packets (given h most s.buffers)))
  unfolding book noted heard_all
  agrees_taken h most = record {
    opens = i.opens;
    owes = λ x.
        cases (eqb x h)
        (λ e.
        let same : x ≡ h = eqb-true x h e in
        rw (e, same)
        (omega (arith, i.owes h, times_left_same h most s.buffers.waiting, taken_times h most s.buffers.waiting)))
        (λ e. rw e (omega (arith, i.owes x, times_left x h most s.buffers.waiting (eqb-false x h e))));
    shut = i.shut;
    flying =
        cases (has h s.buffers.handles)
        (λ p. omega (arith, i.flying, sum_put 0x10000 b.out h (b.out h + given h most s.buffers) (i.small h p)))
        (λ p.
        let none : given h most s.buffers ≡ 0 =
        omega (arith, i.owes h, i.shut h p, taken_times h most s.buffers.waiting) in
        omega (
          arith,
          i.flying,
          sum_cong 0x10000 (put b.out h (b.out h + given h most s.buffers)) b.out
              (put_own b.out h (b.out h + given h most s.buffers) (omega arith)),
        ));
    small = i.small;
    tells = i.tells;
  }

  -- `completed` of packets that are out, and its report
  pub agrees_reported : (h n : ℕ) → 0 < n → n ≤ b.out h
      → Agrees (at (settled n s.buffers) s) (book b (completed h n) (events (report h n ∷ [])))
  unfolding book noted heard_all heard
  agrees_reported h n some l = record {
    opens = i.opens;
    owes = λ x.
        cases (eqb x h)
        (λ e. let same : x ≡ h = eqb-true x h e in rw (e, same) (omega (arith, i.owes h)))
        (λ e. rw e (i.owes x));
    shut = λ x q. rw (apart x h linked q) (i.shut x q);
    flying = omega (
      arith,
      i.flying,
      sum_put 0x10000 b.out h (b.out h - n) (i.small h linked),
      sum_at 0x10000 b.out h (i.small h linked),
    );
    small = i.small;
    tells = i.tells;
  }
    where
      linked : has h s.buffers.handles ≡ true
      linked = owes_linked h (omega (arith, i.owes h))

  -- `completed` of count 0
  pub agrees_none : (h : ℕ) → Agrees (at (settled 0 s.buffers) s) (book b (completed h 0) (events []))
  unfolding book noted heard_all
  agrees_none h =
      let same : put b.out h (b.out h - 0) ≡ b.out = fun_ext (put_own b.out h (b.out h - 0) (omega arith)) in
      rw same record {
        opens = i.opens;
        owes = i.owes;
        shut = i.shut;
        flying = omega (arith, i.flying);
        small = i.small;
        tells = i.tells;
      }

  -- a link ends: its queue is gone, its packets in flight are left to the drop
  pub agrees_ended : (h : ℕ) → has h s.buffers.handles ≡ true
      → Agrees (at (ended h s.buffers) s) (book b Call.other (events (disconnected h ∷ [])))
  unfolding book noted heard_all heard
  agrees_ended h p = record {
    opens = λ x.
        cases (eqb x h)
        (λ e. let same : x ≡ h = eqb-true x h e in rw (e, same) (sym (has_others_same h s.buffers.handles)))
        (λ e. rw e (i.opens x ∙ sym (has_others x h s.buffers.handles (eqb-false x h e))));
    owes = λ x.
        cases (eqb x h)
        (λ e. let same : x ≡ h = eqb-true x h e in rw (e, same) (omega (arith, times_others_same h s.buffers.waiting)))
        (λ e. rw e (omega (arith, i.owes x, times_others x h s.buffers.waiting (eqb-false x h e))));
    shut = λ x q.
        cases (eqb x h)
        (λ e. rw e)
        (λ e. rw e (i.shut x (sym (has_others x h s.buffers.handles (eqb-false x h e)) ∙ q)));
    flying = omega (arith, i.flying, sum_put 0x10000 b.out h 0 (i.small h p));
    small = λ x q.
        cases (eqb x h)
        (λ e. let same : x ≡ h = eqb-true x h e in omega (arith, i.small h p))
        (λ e. i.small x (sym (has_others x h s.buffers.handles (eqb-false x h e)) ∙ q));
    tells = i.tells;
  }

  -- a drop of at most `ended`
  pub agrees_dropped : (n : ℕ) → n ≤ b.ended → Agrees (at (settled n s.buffers) s) (book b (dropping n) (events []))
  unfolding book noted heard_all
  agrees_dropped n l = record {
    opens = i.opens;
    owes = i.owes;
    shut = i.shut;
    flying = omega (arith, i.flying);
    small = i.small;
    tells = i.tells;
  }
