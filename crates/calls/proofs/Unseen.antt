-- What no definition decides is never shown, proved: the claims are `Unseen` and `StartsAlike` of specs/Unseen.antt. A refused
-- call changes nothing. An accepted one gives what its definition says of equal states, and the pool keeps its length, which is
-- all that a later call asks of the pool besides the packets that wait.
use Rattle.std.specs.Prelude.{Result, Ok, Err}
use mathlib.Core.Path.{◌≡◌, refl, sym, ap, ◌∙◌}
use Prim.Native.Nat.{ℕ, ◌+◌, ◌*◌, ◌≤◌}
use mathlib.Core.Bool.{Bool, true, false, ◌&&◌}
use mathlib.Core.List.{List}
use native.Mathlib.Omega.{arith}
use lib.Dec.{leb, ltb, eqb}
use lib.ListN.{length, length-take}
use borrow.Author.Tests.{leb-true, eqb-true, eqb-false}
use borrow.Table.Steps.{cases}
use Rattle.octets.specs.Octets.{octet, splice}
use Rattle.octets.proofs.Writing.{length_splice}
use Rattle.hci.specs.Read.{parse_acl}
use Rattle.hci.specs.declared.read.Acl.{Acl}
use Rattle.profile.specs.declared.ControllerRow.{ControllerRow}
use Rattle.links.specs.Links.{has, in_use}
use Rattle.transmit.proofs.Fitting.{place_room}
use Rattle.state.specs.State.{Model}
use Rattle.state.specs.Holding.{place_size}
use Rattle.state.proofs.Holding.{both, state_tested}
use Rattle.calls.specs.Packets.{Profile, flags_served, accepts, header_of, stored, queues}
use Rattle.calls.specs.Calls.{Call, on_packet, take_transmit, open_connection, completed, drop_in_flight, accept_connection}
use Rattle.calls.specs.Calls.{peer_update, request_ltk, complete_disconnect, remote_disconnect, advertising_timeout, Held}
use Rattle.calls.specs.Calls.{model_of, first_no, questions_of, questions, reply_to, taken_by}
use Rattle.calls.specs.Gives.{Answer, Refused, PoolAfter, PoolLeft, Accepted, Gives}
use Rattle.calls.specs.Unseen.{Alike, Unseen, StartsAlike}
use Rattle.calls.proofs.Questions.{all_yes}
use Rattle.hci.specs.declared.read.ReadError.{ReadError}
use Rattle.hci.specs.declared.read.ReadError.TheVariants.{ShortHeader, OtherKind, ShortBody}

-- ---- the pool keeps its length

-- an accepted packet's length is at most acl_len; the header of a packet that does not parse says 0
header_fits : (k : ControllerRow) (r : Result Acl ReadError) (m : Model) → accepts k r m ≡ true → (header_of r).len ≤ k.acl_len
header_fits k (Ok header) m e =
    let short = leb header.len k.acl_len in
    let free = ltb (in_use m.links) k.acl_count in
    let linked = has header.handle m.links.connections in
    let served = both (flags_served header) (linked && (short && free)) e in
    let tests = both linked (short && free) served.1 in
    leb-true header.len k.acl_len (both short free tests.1).0
header_fits k (Err ShortHeader) m e = omega arith
header_fits k (Err OtherKind) m e = omega arith
header_fits k (Err ShortBody) m e = omega arith

-- so a packet that waits fits a place
stored_fits : (g : Profile) (p : List ℕ) (m : Model) → queues g p m ≡ true → length (stored p) ≤ place_size g.controller
unfolding queues
stored_fits g p m e =
    let accepted = (both (eqb (octet p 0) 0x02) (accepts g.controller (parse_acl p) m) e).1 in
    rw length-take (omega (arith, header_fits g.controller (parse_acl p) m accepted))

-- a packet that fits a place is written within the pool, if the places lie in it
after_packet : (queued : Bool) (k : ControllerRow) (octets : List ℕ) (s t : Held) → (queued ≡ true → length octets ≤ place_size k)
    → k.acl_count * place_size k ≤ length s.pool → PoolAfter queued k octets s t → length t.pool ≡ length s.pool
after_packet true k octets s t fits room left =
    let within = place_room left.place k.acl_count (place_size k) (length octets) left.within (fits refl) in
    ap length left.stored ∙ length_splice s.pool (left.place * place_size k) octets (omega arith)
after_packet false k octets s t fits room left = ap length left

-- any accepted call; one that can queue a packet asked question 4
pool_kept : (g : Profile) (c : Call) (s t : Held) (out : List ℕ) → first_no (questions g c s out) ≡ 0 → PoolLeft g c s t
    → length t.pool ≡ length s.pool
pool_kept g (on_packet address random p) s t out e left =
    let m = model_of g s in
    let asked = all_yes (questions g (on_packet address random p) s out) e in
    let room = ((((asked (omega arith)).1 (omega arith)).1 (omega arith)).1 (omega arith)).0 in
    after_packet (queues g p m) g.controller (stored p) s t (stored_fits g p m) (leb-true _ _ room) left
pool_kept g (take_transmit h most) s t out e left = ap length left
pool_kept g (open_connection h interval latency timeout) s t out e left = ap length left
pool_kept g (completed h count) s t out e left = ap length left
pool_kept g (drop_in_flight count) s t out e left = ap length left
pool_kept g (accept_connection h is_random peer interval latency timeout accuracy) s t out e left = ap length left
pool_kept g (peer_update h interval latency timeout) s t out e left = ap length left
pool_kept g (request_ltk h random diversifier) s t out e left = ap length left
pool_kept g (complete_disconnect h) s t out e left = ap length left
pool_kept g (remote_disconnect h reason) s t out e left = ap length left
pool_kept g advertising_timeout s t out e left = ap length left

-- ---- one call on two states that the definitions can't tell apart

-- answers with equal parts
same_answer : {a b : Answer} → a.number ≡ b.number → a.written ≡ b.written → a.taken ≡ b.taken → a.before ≡ b.before
    → a.after ≡ b.after → a ≡ b
same_answer number written taken before after =
    λ i. record { number = number i; written = written i; taken = taken i; before = before i; after = after i }

module _ (g : Profile) (c : Call) (s t u v : Held) (a b : Answer) (alike : Alike g s u) (lent : a.before ≡ b.before)
    (x : Gives g c s t a) (y : Gives g c u v b) where
  -- the questions have the same answers
  same_number : a.number ≡ b.number
  same_number =
      let asked : questions g c s a.before ≡ questions g c u b.before =
      λ i. questions_of g c (alike.together i) (alike.pools i) (alike.viewed i) (length (lent i)) in
      x.number ∙ ap first_no asked ∙ sym y.number

  -- a refused call writes and takes nothing, and leaves everything as it was
  refused_unseen : Refused s t a → Refused u v b → (a ≡ b) × Alike g t v
  refused_unseen p q =
      let written = p.nothing.0 ∙ sym q.nothing.0 in
      let taken = p.nothing.1 ∙ sym q.nothing.1 in
      (same_answer same_number written taken lent (p.buffer ∙ lent ∙ sym q.buffer), rw (p.same, q.same) alike)

  -- an accepted call gives what its definition says of the state, which is the same of both
  accepted_unseen : a.number ≡ 0 → Accepted g c s t a → Accepted g c u v b → (a ≡ b) × Alike g t v
  accepted_unseen zero p q =
      let k = g.controller in
      let octets = ap (λ (m : Model). (reply_to g c m).octets) alike.viewed in
      let written = p.written.next ∙ ap (λ (l : List ℕ). 0 + length l) octets ∙ sym q.written.next in
      let taken = p.counted ∙ ap (taken_by c) alike.viewed ∙ sym q.counted in
      let after = p.written.leaves ∙ (λ i. splice (lent i) 0 (octets i)) ∙ sym q.written.leaves in
      let first = pool_kept g c s t a.before (sym x.number ∙ zero) p.pool in
      let second = pool_kept g c u v b.before (sym y.number ∙ sym same_number ∙ zero) q.pool in (
        same_answer same_number written taken lent after,
        record {
          viewed = p.viewed ∙ ap (λ (m : Model). (reply_to g c m).state) alike.viewed ∙ sym q.viewed;
          together = state_tested t.state k p.together ∙ sym (state_tested v.state k q.together);
          pools = first ∙ alike.pools ∙ sym second;
        },
      )

  -- the number says which of the two it is
  call_unseen : (a ≡ b) × Alike g t v
  call_unseen =
      cases (eqb a.number 0)
      (λ e.
      let zero : a.number ≡ 0 = eqb-true a.number 0 e in
      accepted_unseen zero (x.accepted zero) (y.accepted (sym same_number ∙ zero)))
      (λ e.
      let some : a.number ≡ 0 → ⊥ = eqb-false a.number 0 e in
      let same = same_number in
      refused_unseen (x.refused (omega arith)) (y.refused (omega arith)))

pub unseen : Unseen
unseen = call_unseen

pub starts_alike : StartsAlike
starts_alike g s u pool other x y long = record {
  viewed = x.viewed (place_size g.controller) pool ∙ sym (y.viewed (place_size g.controller) other);
  together =
      state_tested s g.controller (x.together g.controller)
      ∙ sym (state_tested u g.controller (y.together g.controller));
  pools = long;
}
