-- Which data packets are accepted, and what a packet gives that is queued or dropped, from what `enqueue` and `dropped` give. For
-- `data`.
use Rattle.std.specs.Prelude.{Result, Ok}
use mathlib.Core.Path.{◌≡◌, refl, sym, ap, ◌∙◌}
use Prim.Native.Nat.{ℕ, ◌+◌, ◌≤◌, ◌<◌}
use mathlib.Core.List.{List}
use mathlib.Core.Bool.{Bool, true, false, cond, ◌&&◌, and_assoc}
use lib.ListN.{length, length-map, take}
use lib.Dec.{leb, ltb}
use lib.Seq.{length-take-le}
use native.Mathlib.Omega.{arith}
use borrow.Author.Tests.{lt-leb, le-leb, lt-ltb, le-ltb}
use Rattle.hci.specs.Read.{parse_acl}
use Rattle.hci.specs.declared.read.Acl.{Acl}
use Rattle.profile.specs.declared.ControllerRow.{ControllerRow}
use Rattle.links.specs.declared.Waiting.{Waiting}
use Rattle.links.specs.declared.Links.{Links}
use Rattle.links.specs.Links as links
use Rattle.transmit.specs.Transmit.{with_queued, Queued}
use Rattle.state.specs.State.{Model, view, count_packet, count_dropped}
use Rattle.state.specs.Holding.{StateHolds, place_size}
use Rattle.state.specs.declared.Counters.{Counters}
use Rattle.state.specs.declared.Controller.{Controller}
use Rattle.commands.specs.Parts.{with_links, with_counters}
use Rattle.commands.specs.Put.{put_links, put_counters}
use Rattle.commands.proofs.Giving.{holds_links, holds_counters}
use Rattle.calls.specs.Packets.{flags_served, accepts, header_of, stored, queued, discarded, data_packet}
use Rattle.calls.specs.Calls.{held}
use Rattle.calls.specs.Gives.{PoolAfter, Stored}
use Rattle.receive.specs.Receiving.{Delivers, put_delivered}
use Rattle.receive.specs.declared.Delivered.{Delivered}
use Rattle.hci.specs.declared.read.ReadError.{ReadError}

-- the buffers in use, in the code's numbers
pub in_use_lem : (s : Links) → length s.waiting ≡ 32 → s.waiting_count ≤ 32
    → (size : ℕ) (pool : List ℕ) → links.in_use (links.view s size pool) ≡ s.waiting_count + s.in_flight
in_use_lem s wide few size pool = simp (length-map, length-take-le s.waiting_count s.waiting (omega (arith, wide, few)))

-- the tests of a packet with this header
module _ (k : ControllerRow) {header : Result Acl ReadError} {it : Acl} (m : Model) (read : header ≡ Ok it) where
  -- whether it is for a link that is there
  abbrev linked : Bool
  linked = flags_served it && links.has it.handle m.links.connections

  -- the tests behind that
  rest : accepts k header m ≡ linked && (leb it.len k.acl_len && ltb (links.in_use m.links) k.acl_count)
  rest = rw read (sym (and_assoc (flags_served it) _ _))

  pub no_link : linked ≡ false → accepts k header m ≡ false
  no_link e = rest ∙ rw e

  module _ (e : linked ≡ true) where
    pub too_long : k.acl_len < it.len → accepts k header m ≡ false
    too_long h = rest ∙ rw (e, lt-leb it.len k.acl_len h)

    module _ (fits : it.len ≤ k.acl_len) where
      pub no_buffer : k.acl_count ≤ links.in_use m.links → accepts k header m ≡ false
      no_buffer h =
          rest ∙ rw (e, le-leb it.len k.acl_len fits, le-ltb (links.in_use m.links) k.acl_count h)

      pub accepted : links.in_use m.links < k.acl_count → accepts k header m ≡ true
      accepted h =
          rest ∙ rw (e, le-leb it.len k.acl_len fits, lt-ltb (links.in_use m.links) k.acl_count h)

module _ {k : ControllerRow} {p : List ℕ} {s : Controller} {pool : List ℕ} (together : StateHolds s k) where
  -- a packet that is not accepted is counted
  pub delivers_dropped : {r : Delivered} → accepts k (parse_acl p) (view s (place_size k) pool) ≡ false
      → r ≡ record { counters = count_dropped s.counters; links = s.links }
      → Delivers k p (held s pool) (held (put_delivered r s) pool)
  unfolding data_packet
  delivers_dropped {r} refused e =
      let m = view s (place_size k) pool in
      let same : data_packet k p m ≡ discarded m = ap (λ (b : Bool). cond b (queued p m) (discarded m)) refused in
      let t = put_delivered r s in
      let left : PoolAfter (accepts k (parse_acl p) m) k (stored p) (held s pool) (held t pool) = rw refused refl in
      record {
        viewed = ap (λ (x : Delivered). view (put_delivered x s) (place_size k) pool) e ∙ sym same;
        together = rw e (holds_counters together (count_dropped s.counters));
        pool = left;
      }

  -- one that is accepted waits last
  pub delivers_queued : {it : Acl} {r : List Waiting} {after : List ℕ} {x : Counters} → parse_acl p ≡ Ok it
      → accepts k (parse_acl p) (view s (place_size k) pool) ≡ true
      → Queued s.links (place_size k) k.acl_count it.handle (take (it.len + 5) p) pool r after
      → x ≡ count_packet s.counters
      → Delivers k p (held s pool) (held (put_counters x (put_links (with_queued r s.links) s)) after)
  unfolding data_packet
  delivers_queued {it} {r} {after} {x} read taken q e =
      let m = view s (place_size k) pool in
      let n : it.len + 5 ≡ 5 + it.len = omega arith in
      let octets : take (it.len + 5) p ≡ stored p = rw (read, n) in
      let new = links.enqueued (header_of (parse_acl p)).handle (stored p) m.links in
      let waits : links.view (with_queued r s.links) (place_size k) after ≡ new = q.viewed ∙ rw (read, n) in
      let same : data_packet k p m ≡ queued p m = ap (λ (b : Bool). cond b (queued p m) (discarded m)) taken in
      let place : Stored k (stored p) (held s pool) (held (put_counters x (put_links (with_queued r s.links) s)) after) =
      record { place = q.place; within = q.within; free = q.free; stored = rw octets at q.stored } in
      record {
        viewed =
            ap (λ (y : links.Model). with_counters x (with_links y m)) waits
            ∙ ap (λ (y : Counters). with_counters y (with_links new m)) e
            ∙ sym same;
        together = holds_counters (holds_links together q.held) x;
        pool = rw taken place;
      }
