-- Question 3 about the links: the ways its test ends once the counts are right, and the test as the record of facts.
use Prim.Native.Nat.{ℕ, ◌+◌, ◌≤◌, ◌<◌}
use native.Mathlib.Omega.{arith}
use mathlib.Core.Bool.{Bool, true, false, ◌&&◌, and-false, and-eq-true_iff}
use mathlib.Core.Path.{◌≡◌, refl, sym, ◌∙◌}
use mathlib.Core.List.{List, [], ◌∷◌}
use lib.Dec.{eqb}
use lib.ListN.{length}
use borrow.Author.Tests.{le-leb, leb-true, eqb-true, eqb-false}
use borrow.Table.Steps.{cases}
use Rattle.lists.specs.Lists.{any, all, distinct_by, distinct}
use Rattle.links.specs.declared.Waiting.{Waiting}
use Rattle.links.specs.declared.Links.{Links}
use Rattle.links.specs.Links.{opened, waiting_of}
use Rattle.links.specs.Holding.{links_hold, LinksHold, handle_of, place_of, fits_in, waits_in_link}
use Rattle.links.specs.Gather.{packet_holds}
use Rattle.lists.proofs.Tests.{all_both}

-- some packet waits and there is no link
none_linked : (ws : List Waiting) → 0 < length ws → all (waits_in_link []) ws ≡ false
unfolding any all
none_linked [] h = absurd (omega arith)
none_linked (w ∷ ws) h = refl

module _ (s : Links) (places size : ℕ) (few : s.count ≤ 16) (fits : s.waiting_count ≤ 32)
    (room : s.waiting_count + s.in_flight ≤ places)
  where
    -- what is left of the test
    rest : links_hold s places size
        ≡ distinct handle_of (opened s)
        && (distinct place_of (waiting_of s) &&
        (all (fits_in places size) (waiting_of s) && all (waits_in_link (opened s)) (waiting_of s)))
    unfolding links_hold
    rest = simp (le-leb s.count 16 few, le-leb s.waiting_count 32 fits, le-leb (s.waiting_count + s.in_flight) places room)

    pub hold_no_links : s.count ≡ 0 → length (waiting_of s) ≡ s.waiting_count
        → eqb s.waiting_count 0 ≡ links_hold s places size
    unfolding all distinct_by
    hold_no_links e len =
        let none : opened s ≡ [] = rw e in
        sym
        (rest
        ∙ rw none
        (cases (eqb s.waiting_count 0)
        (λ u.
        let z : s.waiting_count ≡ 0 = eqb-true _ _ u in
        let empty : waiting_of s ≡ [] = rw z in
        rw (empty, u))
        (λ u.
        let some : 0 < length (waiting_of s) = omega (arith, eqb-false s.waiting_count 0 u) in
        rw (none_linked (waiting_of s) some, and-false, and-false, u))))

    pub hold_none_waiting : distinct handle_of (opened s) ≡ true → s.waiting_count ≡ 0
        → true ≡ links_hold s places size
    unfolding all distinct_by
    hold_none_waiting e z =
        let empty : waiting_of s ≡ [] = rw z in
        sym (rest ∙ rw (e, empty))

    pub hold_packets : (t : Bool) → distinct handle_of (opened s) ≡ true
        → t ≡ distinct place_of (waiting_of s) && all (packet_holds places size (opened s)) (waiting_of s)
        → t ≡ links_hold s places size
    hold_packets t e u =
        u
        ∙ rw (all_both (fits_in places size) (waits_in_link (opened s)) (waiting_of s))
        (sym (rest ∙ rw e))

-- ---- the test says as much as the record
pub holds_facts : (s : Links) (places size : ℕ) → links_hold s places size ≡ true → LinksHold s places size
unfolding links_hold
holds_facts s places size e =
    let a = (and-eq-true_iff _ _).0 e in
    let b = (and-eq-true_iff _ _).0 a.1 in
    let c = (and-eq-true_iff _ _).0 b.1 in
    let d = (and-eq-true_iff _ _).0 c.1 in
    let f = (and-eq-true_iff _ _).0 d.1 in
    let g = (and-eq-true_iff _ _).0 f.1 in
    record {
      few_links = leb-true _ _ a.0;
      few_waiting = leb-true _ _ b.0;
      room = leb-true _ _ c.0;
      handles = d.0;
      owners = f.0;
      fit = g.0;
      linked = g.1;
    }

pub facts_hold : {s : Links} {places size : ℕ} → LinksHold s places size → links_hold s places size ≡ true
facts_hold {s} {places} {size} h =
    rest s places size h.few_links h.few_waiting h.room ∙ rw (h.handles, h.owners, h.fit, h.linked)
