-- What queueing and taking mean to a caller: buffers in use, the packets of the link and of other links, how long what is
-- taken can be, and when nothing is taken.
use Prim.Native.Nat.{ℕ, ◌+◌, ◌*◌, ◌≤◌}
use native.Mathlib.Nat.{suc-mul, add-zero}
use native.Mathlib.Omega.{arith}
use mathlib.Core.Bool.{true, false, and-eq-true_iff, true≢false}
use mathlib.Core.Logic.{◌≢◌}
use mathlib.Core.Path.{◌≡◌, refl, sym, ap, ◌∙◌}
use mathlib.Core.List.{List, [], ◌∷◌, ◌++◌, flatten, append-nil}
use lib.ListN.{length, take, drop, length-append, length-take, length-map}
use lib.Seq.{take-nil}
use borrow.Author.Tests.{eq-eqb, eqb-true, ne_eqb}
use borrow.Table.Steps.{cases}
use Rattle.lists.specs.Lists.{any, all, keep, taken, leaving, read_at}
use Rattle.lists.proofs.Filter.{keep_append, keep_none}
use Rattle.lists.proofs.Fewer.{keep_fewer, take_fewer, all_fewer}
use Rattle.lists.proofs.Taking.{taken_keep, keep_leaving, keep_leaving_other, taken_leaving}
use Rattle.links.specs.declared.Connection.{Connection}
use Rattle.links.specs.declared.Waiting.{Waiting}
use Rattle.links.specs.declared.Links.{Links}
use Rattle.links.specs.Links.{Packet, Model, opened, has, view, waiting_of, waits_for, packet_for, in_use, enqueued, taken_from}
use Rattle.links.specs.Links.{after_taking}
use Rattle.links.specs.Holding.{LinksHold, fits_in, waits_in_link}
use Rattle.transmit.specs.Transmit.{taken_octets}
use Rattle.transmit.specs.Steps.{end_to_end}
use Rattle.transmit.proofs.Fitting.{fitting}
use Rattle.transmit.proofs.Taking.{taken_view, octets_view}

-- a packet of one link is of no other
other_link : (g h : ℕ) → g ≢ h → (p : Packet) → packet_for g p ≡ true → packet_for h p ≡ false
other_link g h ne p e = ne_eqb p.handle h (λ k. ne (sym (eqb-true p.handle g e) ∙ k))

module _ (h : ℕ) (octets : List ℕ) (m : Model) where
  -- one buffer more is in use
  pub in_use_queued : in_use (enqueued h octets m) ≡ in_use m + 1
  unfolding enqueued
  in_use_queued = simp length-append (omega arith)

  -- the packet is the last of its link, and the packets of other links are the same
  pub own_queued : keep (packet_for h) (enqueued h octets m).queue
      ≡ keep (packet_for h) m.queue ++ (record { handle = h; octets = octets } ∷ [])
  unfolding enqueued keep
  own_queued = rw (keep_append (packet_for h) m.queue (record { handle = h; octets = octets } ∷ []), eq-eqb h h refl)

  pub others_queued : (g : ℕ) → g ≢ h → keep (packet_for g) (enqueued h octets m).queue ≡ keep (packet_for g) m.queue
  unfolding enqueued keep
  others_queued g ne =
      rw (
        keep_append (packet_for g) m.queue (record { handle = h; octets = octets } ∷ []),
        ne_eqb h g (λ e. ne (sym e)),
        append-nil,
      )

module _ (h most : ℕ) (m : Model) where
  -- what was waiting is in flight: as many buffers are in use
  pub in_use_taking : in_use (after_taking h most m) ≡ in_use m
  unfolding taken_from after_taking
  in_use_taking = let e = taken_leaving (packet_for h) most m.queue in omega arith

  -- of the link's packets the first are taken, oldest first, and the others wait on; the packets of other links are the same
  pub own_taken : taken_from h most m ≡ take most (keep (packet_for h) m.queue)
  unfolding taken_from
  own_taken = taken_keep (packet_for h) most m.queue

  pub own_taking : keep (packet_for h) (after_taking h most m).queue ≡ drop most (keep (packet_for h) m.queue)
  unfolding after_taking
  own_taking = keep_leaving (packet_for h) most m.queue

  pub others_taking : (g : ℕ) → g ≢ h → keep (packet_for g) (after_taking h most m).queue ≡ keep (packet_for g) m.queue
  unfolding after_taking
  others_taking g ne = keep_leaving_other (packet_for h) (packet_for g) most m.queue (other_link g h ne)

-- taking no packet takes none, and changes nothing
module _ (h : ℕ) (m : Model) where
  pub none_taken : taken_from h 0 m ≡ []
  unfolding taken_from taken
  none_taken = refl

  leaving_zero : (l : List Packet) → leaving (packet_for h) 0 l ≡ l
  unfolding leaving
  leaving_zero [] = refl
  leaving_zero (p ∷ l) = refl

  pub none_taking : after_taking h 0 m ≡ m
  unfolding taken_from after_taking taken
  none_taking =
      λ i. record { connections = m.connections; queue = leaving_zero m.queue i; in_flight = add-zero m.in_flight i }

-- the octets of packets that fit are at most `size` for each
length_octets : (size places : ℕ) (pool : List ℕ) (l : List Waiting) → all (fits_in places size) l ≡ true
    → length (end_to_end size pool l) ≤ length l * size
unfolding end_to_end flatten all
length_octets size places pool [] h = omega arith
length_octets size places pool (w ∷ l) h =
    let k = (and-eq-true_iff (fits_in places size w) (all (fits_in places size) l)).0 h in
    let f = fitting places size w k.0 in
    let ih = length_octets size places pool l k.1 in
    let first : length (read_at size pool w.place w.len) ≤ size = simp length-take (omega arith) in
    rw (length-append (read_at size pool w.place w.len) (end_to_end size pool l), suc-mul) (omega arith)

-- where each packet waits in a link, none waits for a handle that is no link's
none_waits : (h : ℕ) (cs : List Connection) (l : List Waiting) → all (waits_in_link cs) l ≡ true → has h cs ≡ false
    → any (waits_for h) l ≡ false
unfolding any all
none_waits h cs [] k unlinked = refl
none_waits h cs (w ∷ l) k unlinked =
    let b = (and-eq-true_iff (waits_in_link cs w) (all (waits_in_link cs) l)).0 k in
    let ih = none_waits h cs l b.1 unlinked in
    cases (waits_for h w)
    (λ e. absurd (true≢false (sym b.0 ∙ ap (λ (g : ℕ). has g cs) (eqb-true _ _ e) ∙ unlinked)))
    (λ e. rw e ih)

module _ (s : Links) (size places h most : ℕ) (pool : List ℕ) (held : LinksHold s places size) where
  -- what is taken has at most `size` octets a packet
  pub taken_octets_most : length (taken_octets h most (view s size pool)) ≤ length (taken_from h most (view s size pool)) * size
  unfolding taken
  taken_octets_most =
      let l = taken (waits_for h) most (waiting_of s) in
      let fit : all (fits_in places size) l ≡ true =
      all_fewer _ (take_fewer most (keep (waits_for h) (waiting_of s)))
      (all_fewer _ (keep_fewer (waits_for h) (waiting_of s)) held.fit) in
      rw (octets_view s size h most pool, taken_view s size h most pool, length-map) (length_octets size places pool l fit)

  -- nothing is taken for a handle that is no link's
  pub unlinked_taken : has h (opened s) ≡ false → taken_from h most (view s size pool) ≡ []
  unfolding taken
  unlinked_taken unlinked =
      let none = keep_none (waits_for h) (waiting_of s) (none_waits h (opened s) (waiting_of s) held.linked unlinked) in
      rw (taken_view s size h most pool, none, take-nil)
