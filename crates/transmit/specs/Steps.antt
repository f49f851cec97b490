-- What the steps of queueing and of taking do, on the list of the waiting packets: for the contracts of the functions of this
-- crate that no other crate calls.
use Rattle.std.specs.Prelude.{◌≡◌, ℕ, ◌+◌, ◌*◌, ◌≤◌, Bool, true, false, not, leb, ltb, length, get_or, set}
use mathlib.Core.List.{List, [], ◌∷◌, map, flatten}
use Rattle.lists.specs.Lists.{any, all, keyed, taken, leaving, read_at}
use Rattle.links.specs.Links.{waits_for}
use Rattle.links.specs.Holding.{place_of}
use Rattle.links.specs.declared.Waiting.{Waiting}
use Rattle.links.specs.declared.Links.{Links}

-- Queueing: the places that are owned, and the packets with one more

-- the place is one of the first `most`
abbrev pub place_below : ℕ → Waiting → Bool
place_below most w = ltb w.place most

-- each packet's place can be marked
pub record CanMark (l : List Waiting) (n : ℕ) : Type 0 where
  pub few : n ≤ 32
  pub placed : all (place_below 32) l ≡ true

-- true stands at the places that the packets own, false at the others; past the end of the marks no packet owns a place
pub record Marks (l : List Waiting) (marks : List Bool) : Type 0 where
  pub long : length marks ≡ 32
  pub marked : (place : ℕ) → get_or marks place false ≡ any (keyed place_of place) l

-- a place without a mark
abbrev pub is_free : Bool → Bool
is_free mark = not mark

-- no packet owns the place, which is one of the first n + 1
pub record FreePlace (l : List Waiting) (n place : ℕ) : Type 0 where
  pub low : place ≤ n
  pub free : any (keyed place_of place) l ≡ false

-- the waiting packets with one more, which is the last
abbrev pub pushed : Links → Waiting → List Waiting
pushed s w = set s.waiting s.waiting_count w

-- Taking: the packets to be taken, their octets and what is left

-- how many octets the packets have together
unfoldable pub lengths : List Waiting → ℕ
lengths [] = 0
lengths (w ∷ l) = w.len + lengths l

-- the packets that wait, parted: the first of the link up to the most, how many octets they have, and those that wait on
pub record Parts (waiting : List Waiting) (handle most : ℕ) (first : List Waiting) (len : ℕ) (rest : List Waiting) : Type 0 where
  pub gone : first ≡ taken (waits_for handle) most waiting
  pub measured : len ≡ lengths first
  pub stays : rest ≡ leaving (waits_for handle) most waiting

-- the octets of the packets, one after the other
unfoldable pub end_to_end : ℕ → List ℕ → List Waiting → List ℕ
end_to_end size pool l = flatten (map (λ w. read_at size pool w.place w.len) l)

-- a packet lies within the pool
abbrev pub lies_in : ℕ → List ℕ → Waiting → Bool
lies_in size pool w = leb (w.place * size + w.len) (length pool)

-- the packets lie in the pool, and the buffer has room for them all
pub record CanCopy (l : List Waiting) (n size : ℕ) (pool out : List ℕ) : Type 0 where
  pub few : n ≤ 32
  pub within : all (lies_in size pool) l ≡ true
  pub room : length (end_to_end size pool l) ≤ length out
