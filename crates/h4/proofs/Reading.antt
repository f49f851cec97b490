-- What the octets at the front say of the packet there: how long a packet is, and that octets behind it change nothing.
-- For the splitting of a run of octets, and for everyone who reads a packet off a stream.
use Rattle.std.specs.Prelude.{Option, Some, None, Result, Ok, Err}
use Rattle.std.proofs.lemmas.Bool.Decides.{nat_tests}
use mathlib.Core.Path.{◌≡◌, refl}
use mathlib.Core.Logic.{◌⊎◌, inl}
use mathlib.Core.List.{List, ◌++◌}
use Prim.Native.Nat.{ℕ, ◌≤◌, ◌<◌}
use native.Mathlib.Omega.{arith}
use lib.ListN.{length, take, drop, length-append, take-append-drop, get_or-append}
use lib.Seq.{length-take-le}
use Rattle.octets.specs.Octets.{octet}
use Rattle.h4.specs.Framing.{by_indicator, packet_length, IsPacket, whole_of, whole}
use Rattle.h4.specs.declared.UndefinedIndicator.{UndefinedIndicator}

-- what the octets at the front say of the packet there
abbrev pub Said : Type 0
Said = Result (Option ℕ) UndefinedIndicator

-- a packet is at least three octets long
pub packet_size : (p : List ℕ) (n : ℕ) → packet_length p ≡ Ok (Some n) → 3 ≤ n
unfolding packet_length by_indicator
packet_size p n e = grind (arith, nat_tests)

-- and at most 65540
pub packet_most : (p : List ℕ) (n : ℕ) → packet_length p ≡ Ok (Some n) → ((k : ℕ) → octet p k < 256) → n ≤ 65540
unfolding packet_length by_indicator
packet_most p n e o = grind (arith, nat_tests, o 2, o 3, o 4)

-- more octets behind do not change what was read, a length or an undefined indicator
pub packet_on : (p q : List ℕ) (n : ℕ) → packet_length p ≡ Ok (Some n) → packet_length (p ++ q) ≡ Ok (Some n)
unfolding packet_length by_indicator
packet_on p q n e = grind (arith, nat_tests, length-append {A = ℕ}, get_or-append {A = ℕ})

pub lost_on : (p q : List ℕ) (i : UndefinedIndicator) → packet_length p ≡ Err i → packet_length (p ++ q) ≡ Err i
unfolding packet_length by_indicator
lost_on p q i e = grind (arith, nat_tests, length-append {A = ℕ}, get_or-append {A = ℕ})

-- nor do fewer, down to the packet's end
packet_alone : (p q : List ℕ) → packet_length (p ++ q) ≡ Ok (Some (length p)) → IsPacket p
unfolding packet_length by_indicator
packet_alone p q e = grind (arith, nat_tests, length-append {A = ℕ}, get_or-append {A = ℕ})

-- the packet at the front is whole where all its octets are there, and in no other case
pub whole_packet : (p : List ℕ) (n : ℕ) → packet_length p ≡ Ok (Some n) → n ≤ length p → whole p ≡ n
unfolding whole
whole_packet p n e h = grind (arith, nat_tests)

pub whole_short : (p : List ℕ) (n : ℕ) → packet_length p ≡ Ok (Some n) → length p < n → whole p ≡ 0
unfolding whole
whole_short p n e h = grind (arith, nat_tests)

pub whole_more : (p : List ℕ) → packet_length p ≡ Ok None → whole p ≡ 0
unfolding whole
whole_more p e = grind (arith, nat_tests)

pub whole_lost : (p : List ℕ) (i : UndefinedIndicator) → packet_length p ≡ Err i → whole p ≡ 0
unfolding whole
whole_lost p i e = grind (arith, nat_tests)

-- one packet with octets behind it
pub whole_front : (p q : List ℕ) → IsPacket p → whole (p ++ q) ≡ length p
whole_front p q e = whole_packet (p ++ q) (length p) (packet_on p q (length p) e) (omega (arith, length-append p q))

-- the octets of a packet that is all there are one packet
pub take_packet : (p : List ℕ) (n : ℕ) → packet_length p ≡ Ok (Some n) → n ≤ length p → IsPacket (take n p)
take_packet p n e h = packet_alone (take n p) (drop n p) (rw (take-append-drop n p, length-take-le n p h) e)

-- no packet is whole at the front, or the one there is, and all of it is there
pub front : (p : List ℕ) → (whole p ≡ 0) ⊎ ((whole p ≤ length p) × IsPacket (take (whole p) p))
unfolding whole
front p = go (packet_length p) refl where
  go : (r : Said) → packet_length p ≡ r
      → (whole_of r (length p) ≡ 0) ⊎ ((whole_of r (length p) ≤ length p) × IsPacket (take (whole_of r (length p)) p))
  go (Ok (Some n)) e = grind (arith, nat_tests, take_packet p n e)
  go (Ok None) e = inl refl
  go (Err i) e = inl refl
