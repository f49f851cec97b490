-- What queueing a packet and taking a link's packets do to the links, to the pool and to the buffer that packets are taken
-- into. For data packets and `take_transmit` of the controller. What no definition decides is which place a queued packet gets:
-- one that no other waiting packet owns.
use Rattle.std.specs.Prelude.{◌≡◌, ℕ, ◌+◌, ◌*◌, ◌≤◌, ◌<◌, Option, Some, None, Bool, true, false, leb, length}
use mathlib.Core.List.{List, map, flatten}
use Rattle.octets.specs.Octets.{splice}
use Rattle.lists.specs.Lists.{any, keyed}
use Rattle.links.specs.Links.{Model, opened, waiting_of, has, view, enqueued, taken_from, after_taking}
use Rattle.links.specs.Holding.{LinksHold, place_of}
use Rattle.links.specs.declared.Waiting.{Waiting}
use Rattle.links.specs.declared.Links.{Links}
use Rattle.transmit.specs.declared.Taken.{Taken}

-- the links with these waiting packets, so many of them, and so many packets in flight. The functions give these parts, and what
-- they promise is said of the links with them
abbrev pub with_packets : List Waiting → ℕ → ℕ → Links → Links
with_packets l n in_flight s = record {
  connections = s.connections;
  count = s.count;
  waiting = l;
  waiting_count = n;
  in_flight = in_flight;
}

-- with what `enqueue` gives: one packet more waits
abbrev pub with_queued : List Waiting → Links → Links
with_queued l s = with_packets l (s.waiting_count + 1) s.in_flight s

-- with what `take` gives
abbrev pub with_taken : Taken → Links → Links
with_taken r s = with_packets r.waiting r.waiting_count r.in_flight s

-- what the pool must be for links that hold together: a place of `size` octets for each of `places` packets
pub record PoolFits (s : Links) (size places : ℕ) (pool : List ℕ) : Type 0 where
  pub held : LinksHold s places size
  pub most : places ≤ 32
  pub small : size ≤ 1024
  pub room : places * size ≤ length pool

-- when a packet can be queued for a link: fewer packets are in use than there are places
pub record CanQueue (s : Links) (size places handle : ℕ) (pool packet : List ℕ) : Type 0 where
  pub fits : PoolFits s size places pool
  pub linked : has handle (opened s) ≡ true
  pub free : s.waiting_count + s.in_flight < places
  pub least : 5 ≤ length packet
  pub most : length packet ≤ size

-- the packet waits last; the other packets' octets, and everything else, are as they were. Its octets stand in some place
-- that no packet owned, and no other octet of the pool changes, be it in an unused place or past the places
pub record Queued (s : Links) (size places handle : ℕ) (octets pool : List ℕ) (r : List Waiting) (after : List ℕ) : Type 0 where
  pub viewed : view (with_queued r s) size after ≡ enqueued handle octets (view s size pool)
  pub held : LinksHold (with_queued r s) places size
  pub place : ℕ
  pub within : place < places
  pub free : any (keyed place_of place) (waiting_of s) ≡ false
  pub stored : after ≡ splice pool (place * size) octets
  pub same_length : length after ≡ length pool

-- the packets to be taken, end to end
abbrev pub taken_octets : ℕ → ℕ → Model → List ℕ
taken_octets h most m = flatten (map (λ p. p.octets) (taken_from h most m))

-- question 7: does the buffer hold them all?
abbrev pub room_for : ℕ → ℕ → Model → List ℕ → Bool
room_for h most m out = leb (length (taken_octets h most m)) (length out)

-- what taking gives where the buffer has room: the packets at its front and the rest of it as it was
pub record Took (s : Links) (size places handle most : ℕ) (pool out : List ℕ) (r : Taken) (after : List ℕ) : Type 0 where
  pub asked : room_for handle most (view s size pool) out ≡ true
  pub viewed : view (with_taken r s) size pool ≡ after_taking handle most (view s size pool)
  pub held : LinksHold (with_taken r s) places size
  pub counted : r.count ≡ length (taken_from handle most (view s size pool))
  pub measured : r.len ≡ length (taken_octets handle most (view s size pool))
  pub written : after ≡ splice out 0 (taken_octets handle most (view s size pool))

-- what taking gives; where the buffer has no room nothing changes
abbrev pub Takes : Links → ℕ → ℕ → ℕ → ℕ → List ℕ → List ℕ → Option Taken → List ℕ → Type 0
Takes s size places handle most pool out None after = (room_for handle most (view s size pool) out ≡ false) × (after ≡ out)
Takes s size places handle most pool out (Some r) after = Took s size places handle most pool out r after
