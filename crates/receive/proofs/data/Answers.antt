-- `receive::data` meets its contract.
use mathlib.Core.Path.{◌≡◌, sym, ◌∙◌}
use Prim.Native.Nat.{◌+◌}
use mathlib.Core.List.{[]}
use lib.ListN.{length}
use lib.Seq.{length-take-le}
use native.Mathlib.Omega.{arith}
use Rattle.lists.proofs.Copying.{length_of_map}
use Rattle.hci.proofs.Readers.{acl_tells}
use Rattle.calls.specs.Packets.{flags_served}
use Rattle.state.specs.State.{view}
use Rattle.state.specs.Holding.{place_size}
use Rattle.state.proofs.Holding.{both}
use Rattle.receive.proofs.Delivering.{in_use_lem, no_link, too_long, no_buffer, accepted}
use Rattle.receive.proofs.Delivering.{delivers_dropped, delivers_queued}
use borrow.Author.Rules.{rules}
use Rattle.receive.proofs.data.Goals as goal
use Rattle.receive.proofs.data.Goals.{then-not-has_link-via-then-not-has_link}
use Rattle.receive.proofs.data.Goals.{then-not-has_link-via-else-not-has_link+then-header-profile}

pub returns-in_default : goal.returns-in_default
returns-in_default c =
    let unread = sym c.parse.ensures ∙ c.in_default.is in
    delivers_dropped c.requires.ready.holds (rw unread) c.dropped.ensures

pub returns-then-not-has_link : goal.returns-then-not-has_link
returns-then-not-has_link c =
    let k = c.args.profile in
    let header = sym c.parse.ensures ∙ c.in-Ok.is in
    let m = view c.args.s (place_size k) c.args.pool.now in
    delivers_dropped c.requires.ready.holds
    (elim c.then-not-has_link.branch [
      | then-not-has_link-via-then-not-has_link w ↦ no_link k m header (sym c.has_link.ensures ∙ w.if-not-has_link.true)
      | then-not-has_link-via-else-not-has_link+then-header-profile w ↦
          too_long k m header (sym c.has_link.ensures ∙ w.if-not-has_link.false) w.if-header-profile.true
    ])
    c.dropped-then-not-has_link.ensures

pub returns-then-buffers_in_use-places : goal.returns-then-buffers_in_use-places
returns-then-buffers_in_use-places c =
    let k = c.args.profile in
    let header = sym c.parse.ensures ∙ c.in-Ok.is in
    let m = view c.args.s (place_size k) c.args.pool.now in
    let linked = sym c.has_link.ensures ∙ c.if-not-has_link.false in
    let used = c.buffers_in_use.ensures (place_size k) c.args.pool.now in
    delivers_dropped c.requires.ready.holds
    (no_buffer k m header linked c.if-header-profile.false
    (omega (arith, used, c.places-places.ensures.0, c.if-buffers_in_use-places.true)))
    c.dropped-then-buffers_in_use-places.ensures

pub slice_bounds-enqueue-end : goal.slice_bounds-enqueue-end
slice_bounds-enqueue-end c =
    let header = sym c.parse.ensures ∙ c.in-Ok.is in
    rw c.from-n.ensures (sym (length-take-le _ c.args.packet.now (omega (arith, (acl_tells _ header).present))))

pub enqueue-waiting-requires : goal.enqueue-waiting-requires
enqueue-waiting-requires c =
    let header = sym c.parse.ensures ∙ c.in-Ok.is in
    let linked = sym c.has_link.ensures ∙ c.if-not-has_link.false in
    let links = c.args.s.links in
    let ready = c.requires.ready in
    let wide : length links.waiting ≡ 32 = search (rules, length_of_map, c.well_formed) in
    let used = in_use_lem links wide ready.holds.links.few_waiting 0 [] in
    let whole = length-take-le (c.in-Ok.header.len + 5) c.args.packet.now (omega (arith, (acl_tells _ header).present)) in
    rw (c.places-places.ensures.1, c.places-places.ensures.0, c.from-n.ensures)
    (record {
      fits = record {
        held = ready.holds.links;
        most = ready.limits.most_count;
        small = omega (arith, ready.limits.most_len);
        room = c.requires.places;
      };
      linked = (both (flags_served c.in-Ok.header) _ linked).1;
      free = omega (arith, used, c.buffers_in_use.ensures 0 [], c.places-places.ensures.0, c.if-buffers_in_use-places.false);
      least = omega (arith, whole);
      most = omega (arith, whole, c.if-header-profile.false);
    })

pub returns : goal.returns
returns c =
    let k = c.args.profile in
    let header = sym c.parse.ensures ∙ c.in-Ok.is in
    let m = view c.args.s (place_size k) c.args.pool.now in
    let linked = sym c.has_link.ensures ∙ c.if-not-has_link.false in
    let used = c.buffers_in_use.ensures (place_size k) c.args.pool.now in
    delivers_queued c.requires.ready.holds header
    (accepted k m header linked c.if-header-profile.false
    (omega (arith, used, c.places-places.ensures.0, c.if-buffers_in_use-places.false)))
    (rw (c.places-places.ensures.1, c.places-places.ensures.0, c.from-n.ensures) at c.enqueue-waiting.ensures)
    c.count_packet.ensures
