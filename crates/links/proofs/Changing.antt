-- What the changes of the links are as lists, and from the lists that a change leaves to its view.
use Prim.Native.Nat.{ℕ, ◌≤◌, ◌<◌}
use native.Mathlib.Omega.{arith}
use mathlib.Core.Bool.{Bool, true, not}
use mathlib.Core.Path.{◌≡◌, refl, sym, ap, ◌∙◌}
use mathlib.Core.List.{List, [], ◌∷◌, ◌++◌, map}
use lib.ListN.{length, take, length-take}
use lib.Seq.{length-take-le}
use borrow.Author.Tests.{ltb-true, eqb-false, not-true}
use borrow.Table.Steps.{cases}
use Rattle.lists.specs.Lists.{keep, update_first}
use Rattle.lists.proofs.Filter.{keep_both, keep_map}
use Rattle.lists.proofs.Fewer.{keep_fewer, length_fewer}
use Rattle.links.specs.declared.Connection.{Connection}
use Rattle.links.specs.declared.Waiting.{Waiting}
use Rattle.links.specs.declared.Links.{Links}
use Rattle.links.specs.Links.{opened, waiting_of, view, packet_of, has_handle, packet_for, has, can_open, ended}
use Rattle.links.specs.Links.{opened_last, changed}
use Rattle.links.specs.Change.{ListsOf, other_than, away_from}
use Rattle.lists.proofs.Counting.{any_count}

-- no more are kept than there were
pub kept_few : {A : Type 0} (p : A → Bool) (xs : List A) (n : ℕ) → length (keep p (take n xs)) ≤ n
kept_few p xs n = omega (arith, length_fewer (keep_fewer p (take n xs)), length-take n xs)

-- where a handle can be opened, one place is free once its link has ended
pub room_left : (h : ℕ) (cs : List Connection) → can_open h cs ≡ true → length cs ≤ 16
    → length (keep (other_than h) cs) < 16
room_left h cs e b =
    let both = keep_both (has_handle h) cs in
    cases (has h cs)
    (λ u.
    let some : length (keep (has_handle h) cs) ≡ 0 → ⊥ = eqb-false _ _
    (not-true _ (sym (any_count (has_handle h) cs) ∙ u)) in
    omega arith)
    (λ u. omega (arith, ltb-true (length cs) 16 (rw u at e)))

-- ---- what did not change
module _ (s : Links) (longs : length s.connections ≡ 16) (wide : length s.waiting ≡ 32) where
  pub count_opened : s.count ≤ 16 → s.count ≡ length (opened s)
  count_opened h = sym (length-take-le s.count s.connections (omega arith))

  pub count_waiting : s.waiting_count ≤ 32 → s.waiting_count ≡ length (waiting_of s)
  count_waiting h = sym (length-take-le s.waiting_count s.waiting (omega arith))

  pub lists_same : s.count ≤ 16 → s.waiting_count ≤ 32 → ListsOf s (opened s) (waiting_of s) s.in_flight
  lists_same h k = record {
    connections = refl;
    waiting = refl;
    flying = refl;
    count = count_opened h;
    waiting_count = count_waiting k;
  }

-- ---- from the lists to the view
pub lists_view : {r : Links} {cs : List Connection} {ws : List Waiting} {n : ℕ} → ListsOf r cs ws n
    → (size : ℕ) (pool : List ℕ)
    → view r size pool ≡ record { connections = cs; queue = map (packet_of size pool) ws; in_flight = n }
lists_view l size pool =
    λ i. record { connections = l.connections i; queue = map (packet_of size pool) (l.waiting i); in_flight = l.flying i }

-- the queue of the other links
away_view : (h size : ℕ) (pool : List ℕ) (ws : List Waiting)
    → map (packet_of size pool) (keep (away_from h) ws) ≡ keep (λ q. not (packet_for h q)) (map (packet_of size pool) ws)
away_view h size pool ws = keep_map (packet_of size pool) (away_from h) (λ q. not (packet_for h q)) ws (λ w. refl)

module _ (h : ℕ) (s : Links) {a b : Links} where
  -- two steps: the connection goes, then its queue
  pub ended_lists : ListsOf a (keep (other_than h) (opened s)) (waiting_of s) s.in_flight
      → ListsOf b (opened a) (keep (away_from h) (waiting_of a)) a.in_flight
      → ListsOf b (keep (other_than h) (opened s)) (keep (away_from h) (waiting_of s)) s.in_flight
  ended_lists x y = record {
    connections = y.connections ∙ x.connections;
    waiting = y.waiting ∙ ap (keep (away_from h)) x.waiting;
    flying = y.flying ∙ x.flying;
    count = y.count ∙ ap length x.connections;
    waiting_count = y.waiting_count ∙ ap (λ (l : List Waiting). length (keep (away_from h) l)) x.waiting;
  }

pub ended_view : (h : ℕ) (s : Links) {r : Links}
    → ListsOf r (keep (other_than h) (opened s)) (keep (away_from h) (waiting_of s)) s.in_flight
    → (size : ℕ) (pool : List ℕ) → view r size pool ≡ ended h (view s size pool)
unfolding ended
ended_view h s l size pool = lists_view l size pool ∙ rw (away_view h size pool (waiting_of s))

pub opened_view : (c : Connection) (s : Links) {r : Links}
    → ListsOf r (keep (other_than c.handle) (opened s) ++ (c ∷ [])) (keep (away_from c.handle) (waiting_of s)) s.in_flight
    → (size : ℕ) (pool : List ℕ) → view r size pool ≡ opened_last c (view s size pool)
unfolding ended opened_last
opened_view c s l size pool = lists_view l size pool ∙ rw (away_view c.handle size pool (waiting_of s))

-- ---- one connection changed
pub changed_view : (h : ℕ) (f : Connection → Connection) (s r : Links) (size : ℕ) (pool : List ℕ)
    → opened r ≡ update_first (has_handle h) f (opened s) → waiting_of r ≡ waiting_of s → r.in_flight ≡ s.in_flight
    → view r size pool ≡ changed h f (view s size pool)
unfolding changed
changed_view h f s r size pool cs ws n =
    λ i. record { connections = cs i; queue = map (packet_of size pool) (ws i); in_flight = n i }
