-- The packet at the front of some octets, and the packets that a run of octets splits into (Core Vol 4 Part A section 2
-- for the indicators, Part E sections 5.4.1 to 5.4.5 for the length fields). For everyone who reads packets off a stream.
use Rattle.std.specs.Prelude.{◌≡◌, ℕ, zero, suc, ◌+◌, ◌%◌, Option, Some, None, Result, Ok, Err, cond, length, take, drop, leb}
use Rattle.std.specs.Prelude.{eqb}
use mathlib.Core.List.{List, [], ◌∷◌, flatten}
use Rattle.octets.specs.Octets.{octet, word}
use Rattle.h4.specs.declared.UndefinedIndicator.{UndefinedIndicator}

-- a packet with a header of so many octets, its indicator counted, and so many octets after it, once the header is there
abbrev pub measured : List ℕ → ℕ → ℕ → Result (Option ℕ) UndefinedIndicator
measured p header payload = cond (leb header (length p)) (Ok (Some (header + payload))) (Ok None)

-- the five indicators: the length field is one octet for commands, synchronous data and events, two octets for ACL data
-- and for isochronous data, of which the latter uses 14 bits
unfoldable pub by_indicator : ℕ → List ℕ → Result (Option ℕ) UndefinedIndicator
by_indicator indicator p =
    cond (eqb indicator 0x01) (measured p 4 (octet p 3))
    (cond (eqb indicator 0x02) (measured p 5 (word p 3))
    (cond (eqb indicator 0x03) (measured p 4 (octet p 3))
    (cond (eqb indicator 0x04) (measured p 3 (octet p 2))
    (cond (eqb indicator 0x05) (measured p 5 (word p 3 % 16384))
    (Err (record { 0 = indicator }))))))

-- what the octets at the front say of the packet there: its length, nothing where there are too few octets to tell, or an
-- indicator that is not defined
unfoldable pub packet_length : List ℕ → Result (Option ℕ) UndefinedIndicator
packet_length p = cond (eqb (length p) 0) (Ok None) (by_indicator (octet p 0) p)

-- the octets are exactly one packet
abbrev pub IsPacket : List ℕ → Type 0
IsPacket p = packet_length p ≡ Ok (Some (length p))

-- each of them is one packet
abbrev pub ArePackets : List (List ℕ) → Type 0
ArePackets [] = Unit
ArePackets (p ∷ more) = IsPacket p × ArePackets more

-- the length of the packet at the front where all of it is there, else 0
abbrev pub whole_of : Result (Option ℕ) UndefinedIndicator → ℕ → ℕ
whole_of (Ok (Some n)) present = cond (leb n present) n 0
whole_of (Ok None) present = 0
whole_of (Err e) present = 0

unfoldable pub whole : List ℕ → ℕ
whole p = whole_of (packet_length p) (length p)

-- the packet that starts at index i, or nothing where it isn't whole
abbrev pub packet_at : List ℕ → ℕ → List ℕ
packet_at p i = take (whole (drop i p)) (drop i p)

-- the whole packets at the front, at most n
unfoldable pub packets_up_to : ℕ → List ℕ → List (List ℕ)
packets_up_to zero p = []
packets_up_to (suc n) p = cond (eqb (whole p) 0) [] (take (whole p) p ∷ packets_up_to n (drop (whole p) p))

-- all whole packets at the front, oldest first: there are fewer of them than octets
unfoldable pub packets : List ℕ → List (List ℕ)
packets p = packets_up_to (length p) p

-- how many octets these packets take, and the octets after them
abbrev pub whole_octets : List ℕ → ℕ
whole_octets p = length (flatten (packets p))

abbrev pub rest : List ℕ → List ℕ
rest p = drop (whole_octets p) p

-- what framing the octets gives: how many of them are whole packets, or the undefined indicator met after these
abbrev pub framed_at : Result (Option ℕ) UndefinedIndicator → ℕ → Result ℕ UndefinedIndicator
framed_at (Ok m) n = Ok n
framed_at (Err e) n = Err e

unfoldable pub framed : List ℕ → Result ℕ UndefinedIndicator
framed p = framed_at (packet_length (rest p)) (whole_octets p)
