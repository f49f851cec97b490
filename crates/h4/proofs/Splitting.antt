-- The packets that a run of octets splits into, and the octets after them: the packets end to end with the rest are the
-- run, more octets behind only add packets, and packets written end to end are read back. For framing and for streams.
use Rattle.std.proofs.lemmas.Bool.Decides.{nat_tests}
use mathlib.Core.Path.{◌≡◌, refl, ap, subst, ◌∙◌}
use mathlib.Core.Logic.{⊎_elim}
use mathlib.Core.List.{List, [], ◌∷◌, ◌++◌, flatten, append_assoc}
use Prim.Native.Nat.{ℕ, zero, suc, ◌+◌, ◌≤◌}
use native.Mathlib.Omega.{arith}
use lib.ListN.{length, take, drop, length-append, length-drop, take-append-drop}
use lib.Seq.{take-append_seam, drop-append_seam, take-append-add, drop-append-add, length-take-le}
use Rattle.h4.specs.Framing.{IsPacket, ArePackets, whole, packets_up_to, packets, whole_octets, rest}
use Rattle.h4.proofs.Reading.{packet_size, whole_front, front}

-- what is whole at the front is there
pub whole_le : (p : List ℕ) → whole p ≤ length p
whole_le p = grind (arith, front p)

-- Splitting without its counter

-- a counter that is no smaller than the length does not count
enough : (n m : ℕ) (p : List ℕ) → length p ≤ n → length p ≤ m → packets_up_to n p ≡ packets_up_to m p
unfolding packets_up_to
enough zero zero p h k = refl
enough zero (suc m) p h k = grind (arith, nat_tests, whole_le p)
enough (suc n) zero p h k = grind (arith, nat_tests, whole_le p)
enough (suc n) (suc m) p h k =
    grind (arith, nat_tests, whole_le p, length-drop (whole p) p, enough n m (drop (whole p) p))

-- where no packet is whole there are none
pub packets_none : (p : List ℕ) → whole p ≡ 0 → packets p ≡ []
unfolding packets packets_up_to
packets_none p e = enough (length p) (suc (length p)) p (omega arith) (omega arith) ∙ grind (arith, nat_tests)

-- else there are the packet at the front and those behind it
pub packets_some : (p : List ℕ) → (whole p ≡ 0 → ⊥) → packets p ≡ take (whole p) p ∷ packets (drop (whole p) p)
unfolding packets packets_up_to
packets_some p f =
    let behind : List ℕ = drop (whole p) p in
    enough (length p) (suc (length p)) p (omega arith) (omega arith)
    ∙ grind (arith, nat_tests, whole_le p, length-drop (whole p) p, enough (length p) (length behind) behind)

-- one packet with octets behind it
pub packets_front : (p q : List ℕ) → IsPacket p → packets (p ++ q) ≡ p ∷ packets q
packets_front p q e =
    let w : whole (p ++ q) ≡ length p = whole_front p q e in
    packets_some (p ++ q) (λ z. omega (arith, packet_size p (length p) e)) ∙ rw (w, take-append_seam, drop-append_seam)

-- what is left of the octets, and how many the packets take, in the same two cases
pub rest_none : (p : List ℕ) → whole p ≡ 0 → rest p ≡ p
unfolding flatten
rest_none p e = rw (packets_none p e)

pub rest_front : (p q : List ℕ) → IsPacket p → rest (p ++ q) ≡ rest q
unfolding flatten
rest_front p q e = rw (packets_front p q e, length-append) (drop-append-add p q (whole_octets q))

pub octets_none : (p : List ℕ) → whole p ≡ 0 → whole_octets p ≡ 0
unfolding flatten
octets_none p e = rw (packets_none p e)

pub octets_front : (p q : List ℕ) → IsPacket p → whole_octets (p ++ q) ≡ length p + whole_octets q
unfolding flatten
octets_front p q e = rw (packets_front p q e) (length-append p (flatten (packets q)))

-- what holds where no packet is whole, and with one packet more in front, holds of all octets
module _ (P : List ℕ → Type 0) (none : (p : List ℕ) → whole p ≡ 0 → P p)
    (some : (p q : List ℕ) → IsPacket p → P q → P (p ++ q)) where
  up_to : (n : ℕ) (p : List ℕ) → length p ≤ n → P p
  up_to zero p h = none p (omega (arith, whole_le p))
  up_to (suc n) p h =
      ⊎_elim (none p) (λ o. subst P (take-append-drop (whole p) p)
      (some (take (whole p) p) (drop (whole p) p) o.1
      (up_to n (drop (whole p) p)
      (omega (arith, packet_size _ _ o.1, length-take-le (whole p) p o.0, length-drop (whole p) p))))) (front p)

  pub by_packets : (p : List ℕ) → P p
  by_packets p = up_to (length p) p (omega arith)

-- The packets and the rest

-- the packets end to end are the first octets
pub packets_octets : (p : List ℕ) → flatten (packets p) ≡ take (whole_octets p) p
unfolding flatten
packets_octets =
    by_packets (λ p. flatten (packets p) ≡ take (whole_octets p) p) (λ p e. rw (packets_none p e))
    (λ p q e h. rw (octets_front p q e, packets_front p q e, take-append-add, ← h))

-- so with the rest behind them they are all of the octets
pub packets_rest : (p : List ℕ) → flatten (packets p) ++ rest p ≡ p
packets_rest p = ap (λ (l : List ℕ). l ++ rest p) (packets_octets p) ∙ take-append-drop (whole_octets p) p

-- and they take no more than there are
pub octets_le : (p : List ℕ) → whole_octets p ≤ length p
octets_le =
    by_packets (λ p. whole_octets p ≤ length p) (λ p e. omega (arith, octets_none p e))
    (λ p q e h. omega (arith, octets_front p q e, length-append p q, h))

-- each of them is one packet
pub packets_are : (p : List ℕ) → ArePackets (packets p)
packets_are =
    by_packets (λ p. ArePackets (packets p)) (λ p e. rw (packets_none p e) tt)
    (λ p q e h. rw (packets_front p q e) (e, h))

-- the rest holds no whole packet
pub whole_rest : (p : List ℕ) → whole (rest p) ≡ 0
whole_rest =
    by_packets (λ p. whole (rest p) ≡ 0) (λ p e. rw (rest_none p e) e) (λ p q e h. rw (rest_front p q e) h)

-- octets behind: the packets that were whole stay, and the rest is split with what comes behind it
pub packets_append : (p q : List ℕ) → packets (p ++ q) ≡ packets p ++ packets (rest p ++ q)
packets_append p q =
    by_packets (λ p. packets (p ++ q) ≡ packets p ++ packets (rest p ++ q)) (λ p e. rw (rest_none p e, packets_none p e))
    (λ p r e h. rw (append_assoc, packets_front p (r ++ q) e, rest_front p r e, packets_front p r e, h)) p

-- and the same octets are left in the end
pub rest_append : (p q : List ℕ) → rest (p ++ q) ≡ rest (rest p ++ q)
rest_append p q =
    by_packets (λ p. rest (p ++ q) ≡ rest (rest p ++ q)) (λ p e. rw (rest_none p e))
    (λ p r e h. rw (append_assoc, rest_front p (r ++ q) e, rest_front p r e, h)) p

-- End to end

-- in no octets there is no packet
pub none_there : whole [] ≡ 0
none_there = omega (arith, whole_le [])

-- packets written end to end are read back in order
pub packets_flattened : (ps : List (List ℕ)) → ArePackets ps → packets (flatten ps) ≡ ps
unfolding flatten
packets_flattened [] h = packets_none [] none_there
packets_flattened (p ∷ ps) h = packets_front p (flatten ps) h.0 ∙ ap (◌∷◌ p) (packets_flattened ps h.1)

-- and nothing is left
pub rest_flattened : (ps : List (List ℕ)) → ArePackets ps → rest (flatten ps) ≡ []
unfolding flatten
rest_flattened [] h = rest_none [] none_there
rest_flattened (p ∷ ps) h = rest_front p (flatten ps) h.0 ∙ rest_flattened ps h.1

-- the packets alone split into themselves
pub packets_again : (p : List ℕ) → packets (flatten (packets p)) ≡ packets p
packets_again p = packets_flattened (packets p) (packets_are p)
