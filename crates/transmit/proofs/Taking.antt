-- Taking a link's packets: what the links hold once the first of them have gone in flight, that they still hold together, and
-- what is written into the buffer, or that nothing changes where it has no room.
use Rattle.std.specs.Prelude.{Some, None}
use Prim.Native.Nat.{ℕ, ◌+◌, ◌≤◌, ◌<◌}
use native.Mathlib.Omega.{arith}
use mathlib.Core.Bool.{true}
use mathlib.Core.Path.{◌≡◌, refl, sym, ap, ◌∙◌}
use mathlib.Core.List.{List, map, map-map, flatten}
use lib.ListN.{length, take, length-take, length-map}
use borrow.Author.Tests.{le-leb, lt-leb}
use Rattle.lists.specs.Lists.{all, keep, taken, leaving}
use Rattle.lists.proofs.Fewer.{leaving_fewer, all_fewer, keep_fewer, take_fewer}
use Rattle.lists.proofs.Distinct.{distinct_fewer}
use Rattle.lists.proofs.Taking.{taken_leaving, taken_map, leaving_map}
use Rattle.octets.specs.Octets.{splice, Put}
use Rattle.links.specs.declared.Waiting.{Waiting}
use Rattle.links.specs.declared.Links.{Links}
use Rattle.links.specs.Links.{Packet, opened, waiting_of, packet_of, view, waits_for, packet_for, taken_from, after_taking}
use Rattle.links.specs.Holding.{LinksHold}
use Rattle.transmit.specs.Transmit.{PoolFits, with_packets, taken_octets, Takes}
use Rattle.transmit.specs.Steps.{end_to_end, lies_in, Parts, CanCopy}
use Rattle.transmit.proofs.Fitting.{all_lie}
use Rattle.transmit.proofs.Octets.{length_end_to_end}

-- the packets to be taken, seen in the queue of the links
module _ (s : Links) (size handle most : ℕ) (pool : List ℕ) where
  pub taken_view : taken_from handle most (view s size pool)
      ≡ map (packet_of size pool) (taken (waits_for handle) most (waiting_of s))
  unfolding taken_from
  taken_view = taken_map (packet_of size pool) (waits_for handle) (packet_for handle) (λ w. refl) most (waiting_of s)

  pub octets_view : taken_octets handle most (view s size pool)
      ≡ end_to_end size pool (taken (waits_for handle) most (waiting_of s))
  unfolding end_to_end
  octets_view =
      rw taken_view
      (ap flatten (map-map (λ (p : Packet). p.octets) (packet_of size pool) (taken (waits_for handle) most (waiting_of s))))

module _ {s : Links} {size places handle most : ℕ} {pool : List ℕ} (fits : PoolFits s size places pool)
    {first : List Waiting} {len : ℕ} {rest : List Waiting} (parts : Parts (waiting_of s) handle most first len rest)
  where
    -- the packets to be taken are among those that wait, so they lie in the pool and are measured rightly
    first_count : length first ≡ length (taken_from handle most (view s size pool))
    first_count = rw (parts.gone, taken_view s size handle most pool, length-map) refl

    first_lie : all (lies_in size pool) first ≡ true
    unfolding taken
    first_lie =
        rw parts.gone
        (all_fewer (lies_in size pool) (take_fewer most (keep (waits_for handle) (waiting_of s)))
        (all_fewer (lies_in size pool) (keep_fewer (waits_for handle) (waiting_of s))
        (all_lie places size pool (waiting_of s) fits.room fits.held.fit)))

    first_length : length (end_to_end size pool first) ≡ len
    first_length = length_end_to_end size pool first first_lie ∙ sym parts.measured

    first_octets : end_to_end size pool first ≡ taken_octets handle most (view s size pool)
    first_octets = ap (end_to_end size pool) parts.gone ∙ sym (octets_view s size handle most pool)

    taken_length : length (taken_octets handle most (view s size pool)) ≡ len
    taken_length = ap length (sym first_octets) ∙ first_length

    none_lost : length first + length rest ≡ length (waiting_of s)
    none_lost = rw (parts.gone, parts.stays) (taken_leaving (waits_for handle) most (waiting_of s))

    -- what copying the packets to be taken requires
    pub take_copies : (out : List ℕ) → len ≤ length out → CanCopy first (length first) size pool out
    take_copies out room = record {
      few = omega (arith, none_lost, fits.held.few_waiting, length-take s.waiting_count s.waiting);
      within = first_lie;
      room = omega (arith, first_length);
    }

    -- where the buffer has no room nothing changes
    pub take_refused : (out : List ℕ) → length out < len → Takes s size places handle most pool out None out
    take_refused out short = (rw taken_length (lt-leb len (length out) short), refl)

    -- the others wait on, and those taken are in flight
    module _ (left : List Waiting) (stored : take (length rest) left ≡ rest) where
      pub taken_holds : LinksHold (with_packets left (length rest) (s.in_flight + length first) s) places size
      taken_holds =
          let held = fits.held in
          let fewer = leaving_fewer (waits_for handle) most (waiting_of s) in
          let most : length (waiting_of s) ≤ s.waiting_count = simp length-take (omega arith) in
          record {
            few_links = held.few_links;
            few_waiting = omega (arith, held.few_waiting, none_lost);
            room = omega (arith, held.room, none_lost);
            handles = held.handles;
            owners = rw (stored, parts.stays) (distinct_fewer _ fewer held.owners);
            fit = rw (stored, parts.stays) (all_fewer _ fewer held.fit);
            linked = rw (stored, parts.stays) (all_fewer _ fewer held.linked);
          }

      pub taken_after : view (with_packets left (length rest) (s.in_flight + length first) s) size pool
          ≡ after_taking handle most (view s size pool)
      unfolding after_taking
      taken_after =
          let q : map (packet_of size pool) (take (length rest) left)
          ≡ leaving (packet_for handle) most (map (packet_of size pool) (waiting_of s)) =
          rw (stored, parts.stays)
          (sym (leaving_map (packet_of size pool) (waits_for handle) (packet_for handle) (λ w. refl) most (waiting_of s))) in
          λ i. record { connections = opened s; queue = q i; in_flight = s.in_flight + first_count i }

      -- what `take` promises where the buffer has room
      pub take_done : {out : List ℕ} {n : ℕ} {after : List ℕ} → len ≤ length out
          → Put out 0 (end_to_end size pool first) n after
          → Takes s size places handle most pool out
          (Some
          (record {
            waiting = left;
            waiting_count = length rest;
            in_flight = s.in_flight + length first;
            count = length first;
            len = len;
          }))
          after
      take_done {out} room p = record {
        asked = rw taken_length (le-leb len (length out) room);
        viewed = taken_after;
        held = taken_holds;
        counted = first_count;
        measured = sym taken_length;
        written = p.leaves ∙ ap (splice out 0) first_octets;
      }
