-- What a change of the links leaves: the lists that the arrays with their counts hold. The counts are the lists' lengths,
-- which the view does not say; with it the links after a change hold together (proofs/Keeping).
use Rattle.std.specs.Prelude.{◌≡◌, ℕ, ◌≤◌, List, Bool, not, length, take}
use Rattle.lists.specs.Lists.{keep, update_first}
use Rattle.links.specs.declared.Connection.{Connection}
use Rattle.links.specs.declared.Waiting.{Waiting}
use Rattle.links.specs.declared.Links.{Links}
use Rattle.links.specs.Links.{opened, waiting_of, has_handle, waits_for, view, changed}

-- r has the connections cs, the waiting packets ws, and n packets in flight
pub record ListsOf (r : Links) (cs : List Connection) (ws : List Waiting) (n : ℕ) : Type 0 where
  pub connections : opened r ≡ cs
  pub waiting : waiting_of r ≡ ws
  pub flying : r.in_flight ≡ n
  pub count : r.count ≡ length cs
  pub waiting_count : r.waiting_count ≡ length ws

-- a connection of another handle
abbrev pub other_than : ℕ → Connection → Bool
other_than h c = not (has_handle h c)

-- a packet of another handle
abbrev pub away_from : ℕ → Waiting → Bool
away_from h w = not (waits_for h w)

-- the items of `before` that pass stand at the front of `after`, and k is how many they are: by any test p, where R relates an
-- item to no other answer than p gives
abbrev pub KeptBy : {A : Type 0} → (A → Bool → Type 0) → List A → ℕ → List A → Type 0
KeptBy {A} R before k after = (k ≤ length before)
    × ((p : A → Bool) → ((x : A) (b : Bool) → R x b → b ≡ p x) → take k after ≡ keep p before)

-- r is s with the connection of handle h changed by f
pub record Changes (h : ℕ) (f : Connection → Connection) (s r : Links) : Type 0 where
  pub viewed : (size : ℕ) (pool : List ℕ) → view r size pool ≡ changed h f (view s size pool)
  pub lists : ListsOf r (update_first (has_handle h) f (opened s)) (waiting_of s) s.in_flight

-- r is s with the connection of handle h changed to one that R relates it to: by any function f, where R relates a connection to
-- no other than f gives
abbrev pub ChangesBy : (Connection → Connection → Type 0) → ℕ → Links → Links → Type 0
ChangesBy R h s r =
    ((f : Connection → Connection) → ((c d : Connection) → R c d → d ≡ f c)
    → opened r ≡ update_first (has_handle h) f (opened s))
    × ListsOf r (opened r) (waiting_of s) s.in_flight
