-- Packets handed out of a buffer that holds them end to end: at the index where one starts it is that one, past the last
-- there is none. For `packet_at` and its callers.
use mathlib.Core.Path.{◌≡◌}
use mathlib.Core.List.{List, [], ◌∷◌, ◌++◌, flatten}
use Prim.Native.Nat.{ℕ, ◌-◌, ◌≤◌, min}
use native.Mathlib.Omega.{arith}
use lib.ListN.{length, take, drop, length-append, length-take, drop_of_length-le}
use lib.Seq.{take-nil, take-append_seam, drop-append-add}
use Rattle.std.proofs.lemmas.List.{take_min, drop_min, drop-take}
use Rattle.h4.specs.Framing.{IsPacket, ArePackets, whole, packet_at}
use Rattle.h4.proofs.Reading.{whole_front}

-- the packet that starts where the ones before it end
pub packet_after : (ps : List (List ℕ)) (q : List ℕ) (qs : List (List ℕ)) → IsPacket q
    → packet_at (flatten (ps ++ q ∷ qs)) (length (flatten ps)) ≡ q
unfolding flatten
packet_after [] q qs e = rw (whole_front q (flatten qs) e) (take-append_seam q (flatten qs))
packet_after (p ∷ ps) q qs e = rw (length-append, drop-append-add) (packet_after ps q qs e)

-- past the last there is none
pub packet_past : (p : List ℕ) (i : ℕ) → length p ≤ i → packet_at p i ≡ []
packet_past p i h = rw (drop_of_length-le p h) (take-nil (whole []))

-- any of several packets is one
pub one_of : (ps : List (List ℕ)) (q : List ℕ) (qs : List (List ℕ)) → ArePackets (ps ++ q ∷ qs) → IsPacket q
one_of [] q qs h = h.0
one_of (p ∷ ps) q qs h = one_of ps q qs h.1

-- the packet that starts at index i of the first n octets, as the code lends them (`&buffer[at..end]`)
pub packet_lent : (n i at end : ℕ) (p : List ℕ) → end ≡ min n (length p) → at ≡ min i end
    → packet_at (take (end - at) (drop at p)) 0 ≡ packet_at (take n p) i
packet_lent n i at end p e a =
    grind (arith, length-take n p, drop-take at (end - at) p, take_min n p, drop_min i (take n p))
