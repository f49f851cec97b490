-- What keeps the links together: the empty links hold, and each change of links that hold gives links that hold. Each law
-- takes the lists that the function's contract gives.
use Prim.Native.Nat.{ℕ, ◌+◌, ◌-◌, ◌≤◌}
use native.Mathlib.Omega.{arith}
use mathlib.Core.Bool.{Bool, true, false, and-eq-true_iff}
use mathlib.Core.Path.{◌≡◌, refl, sym, ◌∙◌}
use mathlib.Core.List.{List, [], ◌∷◌, ◌++◌}
use lib.Dec.{eqb}
use lib.ListN.{length, length-append, length-take}
use borrow.Author.Tests.{eq-eqb, not-true}
use borrow.Table.Steps.{cases}
use Rattle.lists.specs.Lists.{all, keep, distinct_by, distinct, update_first}
use Rattle.lists.proofs.Tests.{any_append}
use Rattle.lists.proofs.Fewer.{keep_fewer, all_fewer}
use Rattle.lists.proofs.Distinct.{distinct_fewer, keys_push, keys_map}
use Rattle.lists.proofs.Update.{map_update, length_update}
use Rattle.links.specs.declared.Connection.{Connection}
use Rattle.links.specs.declared.Waiting.{Waiting}
use Rattle.links.specs.declared.Links.{Links}
use Rattle.links.specs.Links.{opened, waiting_of, has_handle, has, can_open}
use Rattle.links.specs.Change.{ListsOf, Changes, other_than, away_from}
use Rattle.links.specs.Holding.{LinksHold, handle_of, place_of, fits_in, waits_in_link}
use Rattle.links.proofs.Changing.{kept_few, room_left}
use Rattle.links.proofs.Handles.{has_rest, has_update}

-- ---- tests of each element: from one to another, of all and of those kept
module _ {A : Type 0} (p q : A → Bool) where
  all_then : (l : List A) → ((a : A) → p a ≡ true → q a ≡ true) → all p l ≡ true → all q l ≡ true
  unfolding all
  all_then [] k h = refl
  all_then (a ∷ l) k h =
      let b = (and-eq-true_iff (p a) (all p l)).0 h in
      rw (k a b.0) (all_then l k b.1)

  all_kept : (r : A → Bool) (l : List A) → ((a : A) → p a ≡ true → r a ≡ true → q a ≡ true) → all p l ≡ true
      → all q (keep r l) ≡ true
  unfolding all keep
  all_kept r [] k h = refl
  all_kept r (a ∷ l) k h =
      let b = (and-eq-true_iff (p a) (all p l)).0 h in
      let ih = all_kept r l k b.1 in
      cases (r a) (λ e. rw (e, k a b.0 e) ih) (λ e. rw e ih)

-- a packet of another link still waits in a link once one has ended
rest_linked : (h : ℕ) (cs : List Connection) (ws : List Waiting) → all (waits_in_link cs) ws ≡ true
    → all (waits_in_link (keep (other_than h) cs)) (keep (away_from h) ws) ≡ true
rest_linked h cs ws =
    all_kept (waits_in_link cs) (waits_in_link (keep (other_than h) cs)) (away_from h) ws
    (λ w yes away. rw (has_rest w.handle h cs, not-true (eqb w.handle h) away) yes)

module _ {places size : ℕ} where
  -- from the lists that a change leaves
  pub lists_hold : {r : Links} {cs : List Connection} {ws : List Waiting} {n : ℕ} → ListsOf r cs ws n → length cs ≤ 16
      → length ws ≤ 32 → length ws + n ≤ places → distinct handle_of cs ≡ true → distinct place_of ws ≡ true
      → all (fits_in places size) ws ≡ true → all (waits_in_link cs) ws ≡ true → LinksHold r places size
  lists_hold l few fits room handles owners fit linked = record {
    few_links = rw l.count few;
    few_waiting = rw l.waiting_count fits;
    room = rw (l.waiting_count, l.flying) room;
    handles = rw l.connections handles;
    owners = rw l.waiting owners;
    fit = rw l.waiting fit;
    linked = rw (l.connections, l.waiting) linked;
  }

  pub empty_holds : {r : Links} → ListsOf r [] [] 0 → LinksHold r places size
  unfolding all distinct_by
  empty_holds l = lists_hold l (omega arith) (omega arith) (omega arith) refl refl refl refl

  module _ (s : Links) (held : LinksHold s places size) where
    few_opened : length (opened s) ≤ 16
    few_opened = let few = held.few_links in omega (arith, length-take s.count s.connections)

    few_waiting_lem : length (waiting_of s) ≤ s.waiting_count
    few_waiting_lem = omega (arith, length-take s.waiting_count s.waiting)

    -- the end of a link
    pub ended_holds : {r : Links} (h : ℕ)
        → ListsOf r (keep (other_than h) (opened s)) (keep (away_from h) (waiting_of s)) s.in_flight
        → LinksHold r places size
    ended_holds h l =
        let rest = keep_fewer (away_from h) (waiting_of s) in
        let fewer = kept_few (other_than h) s.connections s.count in
        let less = kept_few (away_from h) s.waiting s.waiting_count in
        let few = held.few_links in
        let fits = held.few_waiting in
        let room = held.room in
        lists_hold l (omega arith) (omega arith) (omega arith)
        (distinct_fewer _ (keep_fewer (other_than h) (opened s)) held.handles)
        (distinct_fewer _ rest held.owners)
        (all_fewer (fits_in places size) rest held.fit)
        (rest_linked h (opened s) (waiting_of s) held.linked)

    -- an opening
    pub opened_holds : {r : Links} (c : Connection) → can_open c.handle (opened s) ≡ true
        → ListsOf r (keep (other_than c.handle) (opened s) ++ (c ∷ [])) (keep (away_from c.handle) (waiting_of s)) s.in_flight
        → LinksHold r places size
    opened_holds c can l =
        let h = c.handle in
        let others = keep (other_than h) (opened s) in
        let rest = keep_fewer (away_from h) (waiting_of s) in
        let less = kept_few (away_from h) s.waiting s.waiting_count in
        let left = room_left h (opened s) can few_opened in
        let fits = held.few_waiting in
        let room = held.room in
        let new : has h others ≡ false = has_rest h h (opened s) ∙ rw (eq-eqb h h refl) in
        lists_hold l (simp length-append (omega arith)) (omega arith) (omega arith)
        (keys_push handle_of others c (distinct_fewer _ (keep_fewer (other_than h) (opened s)) held.handles) new)
        (distinct_fewer _ rest held.owners)
        (all_fewer (fits_in places size) rest held.fit)
        (all_then (waits_in_link others) (waits_in_link (others ++ (c ∷ []))) (keep (away_from h) (waiting_of s))
        (λ w yes. any_append (has_handle w.handle) others (c ∷ []) ∙ rw yes)
        (rest_linked h (opened s) (waiting_of s) held.linked))

    -- packets in flight settled
    pub settled_holds : {r : Links} (n : ℕ) → ListsOf r (opened s) (waiting_of s) (s.in_flight - n)
        → LinksHold r places size
    settled_holds n l =
        let most = few_opened in
        let less = few_waiting_lem in
        let fits = held.few_waiting in
        let room = held.room in
        lists_hold l most (omega arith) (omega arith) held.handles held.owners held.fit held.linked

    -- a change of one connection that keeps its handle
    pub changed_holds : {r : Links} (h : ℕ) (f : Connection → Connection) → ((c : Connection) → (f c).handle ≡ c.handle)
        → Changes h f s r
        → LinksHold r places size
    changed_holds h f keeps x =
        let less = few_waiting_lem in
        let fits = held.few_waiting in
        let room = held.room in
        let after = update_first (has_handle h) f (opened s) in
        lists_hold x.lists (rw (length_update (has_handle h) f (opened s)) few_opened) (omega arith) (omega arith)
        (keys_map handle_of after ∙ rw (map_update (has_handle h) f handle_of (opened s) (λ c e. keeps c))
        (sym (keys_map handle_of (opened s)) ∙ held.handles))
        held.owners
        held.fit
        (all_then (waits_in_link (opened s)) (waits_in_link after) (waiting_of s)
        (λ w yes. has_update h f keeps w.handle (opened s) ∙ yes) held.linked)
