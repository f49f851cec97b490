-- Which handles the links have after a change, and what a change of one connection leaves of the others. For those who
-- reason about calls one after the other.
use Rattle.std.specs.Prelude.{Some}
use Prim.Native.Nat.{ℕ}
use native.Mathlib.Omega.{arith}
use mathlib.Core.Bool.{Bool, true, false, cond, not, ◌&&◌, ◌||◌, and-eq-true_iff, or-false}
use mathlib.Core.Path.{◌≡◌, refl, sym, ap, ◌∙◌}
use mathlib.Core.List.{List, [], ◌∷◌, map}
use lib.Dec.{eqb}
use borrow.Author.Tests.{ne_eqb, eqb-true, not-true}
use borrow.Table.Steps.{cases}
use Rattle.lists.specs.Lists.{any, keep, distinct_by, distinct, update_first}
use Rattle.lists.proofs.Tests.{none_cons, any_append}
use Rattle.lists.proofs.Same.{eqb_sym}
use Rattle.lists.proofs.Update.{any_update}
use Rattle.links.specs.declared.Connection.{Connection}
use Rattle.links.specs.Links.{Model, has_handle, has, ended, opened_last, changed}
use Rattle.links.specs.Look.{connection_of}
use Rattle.links.specs.Change.{other_than}
use Rattle.links.specs.Holding.{handle_of}
use Rattle.links.specs.Fields.{with_parameters, with_data_length, with_phys, with_ltk_requested, with_auth_payload_timeout}
use Rattle.links.specs.Fields.{with_terminating}

-- ---- a filter and a test
module _ {A : Type 0} where
  -- what passes q passes the filter
  any_keep : (p q : A → Bool) (l : List A) → ((a : A) → q a ≡ true → p a ≡ true) → any q (keep p l) ≡ any q l
  unfolding any keep
  any_keep p q [] h = refl
  any_keep p q (a ∷ l) h =
      cases (q a) (λ e. rw (h a e, e))
      (λ e. cases (p a) (λ u. rw (u, e) (any_keep p q l h)) (λ u. rw (u, e) (any_keep p q l h)))

  -- the filter keeps what fails
  any_dropped : (q : A → Bool) (l : List A) → any q (keep (λ a. not (q a)) l) ≡ false
  unfolding any keep
  any_dropped q [] = refl
  any_dropped q (a ∷ l) = cases (q a) (λ e. rw e (any_dropped q l)) (λ e. rw (e, e) (any_dropped q l))

-- ---- the handles after the end of a link and after an opening
pub has_rest : (k h : ℕ) (cs : List Connection) → has k (keep (other_than h) cs) ≡ not (eqb k h) && has k cs
has_rest k h cs =
    cases (eqb k h)
    (λ e.
    let same = eqb-true k h e in
    rw (e, same) (any_dropped (has_handle h) cs))
    (λ e.
    rw e
    (any_keep (other_than h) (has_handle k) cs
    (λ c u. let same = eqb-true c.handle k u in rw (same, e))))

pub has_ended : (k h : ℕ) (m : Model) → has k (ended h m).connections ≡ not (eqb k h) && has k m.connections
unfolding ended
has_ended k h m = has_rest k h m.connections

pub has_opened : (k : ℕ) (c : Connection) (m : Model)
    → has k (opened_last c m).connections ≡ eqb k c.handle || has k m.connections
unfolding any ended opened_last
has_opened k c m =
    any_append (has_handle k) (keep (other_than c.handle) m.connections) (c ∷ [])
    ∙ rw (has_rest k c.handle m.connections, eqb_sym c.handle k)
    (cases (eqb k c.handle) (λ e. rw e) (λ e. rw (e, or-false)))

-- ---- a change of one connection
module _ (h : ℕ) (f : Connection → Connection) (keeps : (c : Connection) → (f c).handle ≡ c.handle) where
  pub has_update : (k : ℕ) (cs : List Connection) → has k (update_first (has_handle h) f cs) ≡ has k cs
  has_update k cs = any_update (has_handle h) f (has_handle k) cs (λ c e. rw (keeps c))

  pub has_changed : (k : ℕ) (m : Model) → has k (changed h f m).connections ≡ has k m.connections
  unfolding changed
  has_changed k m = has_update k m.connections

  -- the connection of the handle, and that of another
  pub changed_found : (c : Connection) (cs : List Connection) → connection_of h cs ≡ Some c
      → connection_of h (update_first (has_handle h) f cs) ≡ Some (f c)
  unfolding update_first connection_of
  changed_found c [] e = let z : ◌≡◌ {A = ℕ} 0 1 = cc in absurd (omega arith)
  changed_found c (d ∷ cs) e =
      cases (has_handle h d)
      (λ u.
      let same : Some d ≡ Some c = rw u at e in
      let alike : d ≡ c = cc in
      let yes : has_handle h (f d) ≡ true = rw (keeps d) u in
      rw (u, yes) (ap (λ (x : Connection). Some (f x)) alike))
      (λ u. rw (u, u) (changed_found c cs (rw u at e)))

  pub changed_other : (k : ℕ) (cs : List Connection) → (k ≡ h → ⊥)
      → connection_of k (update_first (has_handle h) f cs) ≡ connection_of k cs
  unfolding update_first connection_of
  changed_other k [] ne = refl
  changed_other k (d ∷ cs) ne =
      cases (has_handle h d)
      (λ u.
      let other : has_handle k d ≡ false = ne_eqb d.handle k (λ v. ne (sym v ∙ eqb-true d.handle h u)) in
      rw (u, keeps d, other))
      (λ u. rw u (cases (has_handle k d) (λ v. rw v) (λ v. rw v (changed_other k cs ne))))

-- where the handles differ, it is the one connection with the handle
module _ (h : ℕ) (f : Connection → Connection) where
  none_changed : (cs : List Connection) → has h cs ≡ false → map (λ c. cond (has_handle h c) (f c) c) cs ≡ cs
  none_changed [] e = refl
  none_changed (c ∷ cs) e =
      let n = none_cons (has_handle h) c cs e in
      rw n.0 (ap (◌∷◌ c) (none_changed cs n.1))

  update_one : (cs : List Connection) → distinct handle_of cs ≡ true
      → update_first (has_handle h) f cs ≡ map (λ c. cond (has_handle h c) (f c) c) cs
  unfolding update_first distinct_by
  update_one [] d = refl
  update_one (c ∷ cs) d =
      let k = (and-eq-true_iff (not (has c.handle cs)) (distinct handle_of cs)).0 d in
      cases (has_handle h c)
      (λ u.
      let same = eqb-true c.handle h u in
      let none : has h cs ≡ false = rw same at (not-true (has c.handle cs) k.0) in
      rw u (ap (◌∷◌ (f c)) (sym (none_changed cs none))))
      (λ u. rw u (ap (◌∷◌ c) (update_one cs k.1)))

  pub changed_one : (m : Model) → distinct handle_of m.connections ≡ true
      → (changed h f m).connections ≡ map (λ c. cond (has_handle h c) (f c) c) m.connections
  unfolding changed
  changed_one m d = update_one m.connections d

-- ---- no field set is the handle
pub parameters_handle : (i l t : ℕ) (c : Connection) → (with_parameters i l t c).handle ≡ c.handle
parameters_handle i l t c = refl

pub data_length_handle : (o t : ℕ) (c : Connection) → (with_data_length o t c).handle ≡ c.handle
data_length_handle o t c = refl

pub phys_handle : (t r : ℕ) (c : Connection) → (with_phys t r c).handle ≡ c.handle
phys_handle t r c = refl

pub ltk_handle : (r : ℕ) (c : Connection) → (with_ltk_requested r c).handle ≡ c.handle
ltk_handle r c = refl

pub payload_timeout_handle : (t : ℕ) (c : Connection) → (with_auth_payload_timeout t c).handle ≡ c.handle
payload_timeout_handle t c = refl

pub terminating_handle : (r : ℕ) (c : Connection) → (with_terminating r c).handle ≡ c.handle
terminating_handle r c = refl
