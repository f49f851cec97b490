-- Demand 3 of the controller's calls, proved: every call follows a rule of credits, so the claim about lists of calls holds. For
-- the insurer's engineer; the claim is `Demand3` of specs/Agreement.antt.
use mathlib.Core.Path.{◌≡◌, ap}
use native.Mathlib.Omega.{arith}
use lib.Dec.{eqb}
use borrow.Author.Tests.{eqb-true, eqb-false}
use borrow.Table.Steps.{cases}
use Rattle.lists.proofs.Chunks.{length_chunks}
use Rattle.state.specs.State.{Model}
use Rattle.state.specs.Holding.{place_size}
use Rattle.calls.specs.Packets.{Profile}
use Rattle.calls.specs.Calls.{Call, on_packet, take_transmit, open_connection, completed, drop_in_flight, accept_connection}
use Rattle.calls.specs.Calls.{peer_update, request_ltk, complete_disconnect, remote_disconnect, advertising_timeout, Held, held}
use Rattle.calls.specs.Gives.{Answer, Gives}
use Rattle.credits.specs.Steps as steps
use Rattle.credits.proofs.Credits.{credits, state_of}
use Rattle.agreement.specs.Agreement.{TypedProfile, Typed, Called, buffers_of, FiltersHold, limits_of, reading, Demand3}
use Rattle.agreement.proofs.Rules.{unmasked, Good, FollowsRule}
use Rattle.agreement.proofs.ByDefinition.{seen}
use Rattle.agreement.proofs.PacketFollows.{packet_follows}
use Rattle.agreement.proofs.NoticeFollows.{take_follows, open_follows, accept_follows, update_follows, key_follows}
use Rattle.agreement.proofs.NoticeFollows.{timeout_follows, complete_follows, discard_follows, acknowledged_follows}
use Rattle.agreement.proofs.NoticeFollows.{remote_follows}

-- the filter lists of a state that holds together
filters_hold : (g : Profile) (s : Held) → Good g s → FiltersHold g s
filters_hold g s h =
    let accept = s.state.accept_list in
    let resolving = s.state.resolving_list in
    record {
      entries = h.accept.differ;
      entries_few = rw (length_chunks 7 accept.count accept.octets) h.accept.sized;
      identities = h.resolving.differ;
      identities_few = rw (length_chunks 8 resolving.count resolving.octets) h.resolving.sized;
    }

-- an accepted call
accepted_follows : (g : Profile) → TypedProfile g.controller → (c : Call) (s t : Held) (a : Answer) → Typed c → Good g s
    → Gives g c s t a → a.number ≡ 0 → FollowsRule g c s t a
accepted_follows g k (on_packet address random p) s t a w h x z = packet_follows g k address random p w h x z
accepted_follows g k (take_transmit handle most) s t a w h x z = take_follows g handle most s t a w x z
accepted_follows g k (open_connection handle interval latency timeout) s t a w h x z =
    open_follows g handle interval latency timeout s t a w x z
accepted_follows g k (completed handle count) s t a w h x z = complete_follows g handle count s t a w x z
accepted_follows g k (drop_in_flight count) s t a w h x z = discard_follows g count s t a w x z
accepted_follows g k (accept_connection handle is_random peer interval latency timeout accuracy) s t a w h x z =
    accept_follows g handle is_random peer interval latency timeout accuracy s t a w x z
accepted_follows g k (peer_update handle interval latency timeout) s t a w h x z =
    update_follows g handle interval latency timeout s t a w x z
accepted_follows g k (request_ltk handle random diversifier) s t a w h x z = key_follows g handle random diversifier s t a w x z
accepted_follows g k (complete_disconnect handle) s t a w h x z = acknowledged_follows g handle s t a w x z
accepted_follows g k (remote_disconnect handle reason) s t a w h x z = remote_follows g handle reason s t a w x z
accepted_follows g k advertising_timeout s t a w h x z = timeout_follows g s t a w x z

-- any call: a refused one changes nothing
follows : (g : Profile) → TypedProfile g.controller → (c : Call) (s t : Held) (a : Answer) → Good g s → Called g c s t a
    → FollowsRule g c s t a × Good g t
follows g k c s t a h x =
    cases (eqb a.number 0)
    (λ e.
    let z : a.number ≡ 0 = eqb-true a.number 0 e in
    (accepted_follows g k c s t a x.typed h x.gives z, (x.gives.accepted z).together))
    (λ e.
    let z : a.number ≡ 0 → ⊥ = eqb-false a.number 0 e in
    let same : t ≡ s = (x.gives.refused (omega arith)).same in
    (steps.Step.refusal e (ap (state_of (reading g) (unmasked g)) same), rw same h))

pub demand_3 : Demand3
demand_3 g k s start pool =
    let none = start.viewed (place_size g.controller) pool in
    credits (reading g) (unmasked g) (limits_of g) (Called g) (Good g) (λ c s t a h i x. follows g k c s t a h x)
    (FiltersHold g) (filters_hold g)
    (held s pool) (start.together g.controller) (ap buffers_of none) (ap (λ (m : Model). (seen m).unmasked) none)
