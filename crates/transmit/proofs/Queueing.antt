-- Queueing a packet: what the links hold once its octets are stored at a free place of the pool, whichever that is, and that
-- they still hold together.
use Prim.Native.Nat.{ℕ, ◌+◌, ◌*◌, ◌≤◌, ◌<◌}
use native.Mathlib.Omega.{arith}
use mathlib.Core.Bool.{true}
use mathlib.Core.Path.{◌≡◌, ap, ◌∙◌}
use mathlib.Core.List.{List, [], ◌∷◌, ◌++◌, map, map-append}
use lib.ListN.{length, take}
use lib.Seq.{paste, take_all}
use borrow.Author.Tests.{eqb-false}
use Rattle.lists.specs.Lists.{keyed, read_at}
use Rattle.lists.proofs.Tests.{map_agree}
use Rattle.lists.proofs.Copying.{take_push}
use Rattle.lists.proofs.Distinct.{keys_push}
use Rattle.lists.proofs.Pool.{read_pasted, read_other}
use Rattle.octets.specs.Octets.{splice, Put}
use Rattle.octets.proofs.Writing.{put_long}
use Rattle.links.specs.declared.Waiting.{Waiting}
use Rattle.links.specs.declared.Links.{Links}
use Rattle.links.specs.Links.{Packet, opened, waiting_of, packet_of, view, enqueued}
use Rattle.links.specs.Holding.{LinksHold, place_of, fits_in, waits_in_link}
use Rattle.transmit.specs.Transmit.{CanQueue, with_queued, Queued}
use Rattle.transmit.specs.Steps.{pushed, FreePlace}
use Rattle.transmit.proofs.Fitting.{all_push, place_room, fitting, fitting_test}

-- octets written at a place of the pool: they are read there, and what other places hold is read as before
module _ (size : ℕ) (pool packet : List ℕ) (place : ℕ) (room : place * size + length packet ≤ length pool) where
  whole : take (length packet) packet ≡ packet
  whole = take_all (length packet) packet (omega arith)

  pasted : splice pool (place * size) packet ≡ paste pool (place * size) packet (length packet)
  unfolding splice
  pasted = rw whole

  pub read_stored : read_at size (splice pool (place * size) packet) place (length packet) ≡ packet
  read_stored = rw pasted (read_pasted size pool packet place (length packet) room (omega arith) ∙ whole)

  pub read_others : (p k : ℕ) → (p ≡ place → ⊥) → length packet ≤ size → k ≤ size → p * size + k ≤ length pool
      → read_at size (splice pool (place * size) packet) p k ≡ read_at size pool p k
  read_others p k other hn hk hp =
      rw pasted (read_other size pool packet place (length packet) p k other room (omega arith) hn hk hp)

module _ {s : Links} {size places handle place : ℕ} {pool packet : List ℕ}
    (can : CanQueue s size places handle pool packet)
    (found : FreePlace (waiting_of s) s.waiting_count place)
  where
    -- the place is one of the pool's
    pub queue_place : place < places
    queue_place = omega (arith, found.low, can.free)

    pub queue_room : place * size + length packet ≤ length pool
    queue_room =
        let a = place_room place places size (length packet) queue_place can.most in
        omega (arith, can.fits.room)

    -- the packets that waited before are read as before
    others : map (packet_of size (splice pool (place * size) packet)) (waiting_of s) ≡ map (packet_of size pool) (waiting_of s)
    others =
        map_agree (packet_of size (splice pool (place * size) packet)) (packet_of size pool) (fits_in places size)
        (keyed place_of place)
        (waiting_of s)
        (λ w fits other.
        let f = fitting places size w fits in
        let b = place_room w.place places size w.len f.place f.most in
        ap (λ (o : List ℕ). record { handle = w.handle; octets = o })
        (read_others size pool packet place queue_room w.place w.len (eqb-false _ _ other) can.most f.most
        (omega (arith, can.fits.room))))
        can.fits.held.fit
        found.free

    module _ (many : length s.waiting ≡ 32) where
      abbrev new : Waiting
      new = record { handle = handle; len = length packet; place = place }

      -- the packet waits last
      last : waiting_of (with_queued (pushed s new) s) ≡ waiting_of s ++ (new ∷ [])
      last = take_push s.waiting s.waiting_count new (omega (arith, can.free, can.fits.most))

      pub queued_view : view (with_queued (pushed s new) s) size (splice pool (place * size) packet)
          ≡ enqueued handle packet (view s size pool)
      unfolding enqueued
      queued_view =
          let g : Waiting → Packet = packet_of size (splice pool (place * size) packet) in
          let q : map g (waiting_of (with_queued (pushed s new) s))
          ≡ map (packet_of size pool) (waiting_of s) ++ (record { handle = handle; octets = packet } ∷ []) =
          rw (last, map-append, others, read_stored size pool packet place queue_room) in
          λ i. record { connections = opened s; queue = q i; in_flight = s.in_flight }

      pub queued_holds : LinksHold (with_queued (pushed s new) s) places size
      queued_holds =
          let held = can.fits.held in
          let fits : fits_in places size new ≡ true =
          fitting_test places size new (record { place = queue_place; least = can.least; most = can.most }) in
          record {
            few_links = held.few_links;
            few_waiting = omega (arith, can.free, can.fits.most);
            room = omega (arith, can.free);
            handles = held.handles;
            owners = rw last (keys_push place_of (waiting_of s) new held.owners found.free);
            fit = rw last (all_push (fits_in places size) (waiting_of s) new held.fit fits);
            linked = rw last (all_push (waits_in_link (opened s)) (waiting_of s) new held.linked can.linked);
          }

      -- what `enqueue` promises
      pub queued : {r : ℕ} {after : List ℕ} → Put pool (place * size) packet r after
          → Queued s size places handle packet pool (pushed s new) after
      queued p = record {
        viewed = rw p.leaves queued_view;
        held = queued_holds;
        place = place;
        within = queue_place;
        free = found.free;
        stored = p.leaves;
        same_length = put_long p;
      }
