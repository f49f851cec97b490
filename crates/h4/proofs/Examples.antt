-- Worked examples of the framing, each by computing: a packet of each length field, an undefined indicator, and a run of
-- octets split. For readers of the definitions.
use Rattle.std.specs.Prelude.{Some, Ok, Err}
use mathlib.Core.Path.{◌≡◌, refl}
use mathlib.Core.List.{[], ◌∷◌, flatten}
use Prim.Native.Nat.{◌+◌}
use Rattle.h4.specs.Framing.{packet_length, by_indicator, whole, packets_up_to, packets, framed}

-- the command Reset, 0x0C03, with no parameters
reset : packet_length (0x01 ∷ 0x03 ∷ 0x0C ∷ 0x00 ∷ []) ≡ Ok (Some 4)
unfolding packet_length by_indicator
reset = refl

-- the header of ACL data that announces one octet
acl : packet_length (0x02 ∷ 0x01 ∷ 0x00 ∷ 0x01 ∷ 0x00 ∷ []) ≡ Ok (Some 6)
unfolding packet_length by_indicator
acl = refl

-- isochronous data uses 14 bits of its length field
iso : packet_length (0x05 ∷ 0x00 ∷ 0x00 ∷ 0xFF ∷ 0xFF ∷ []) ≡ Ok (Some (5 + 0x3FFF))
unfolding packet_length by_indicator
iso = refl

-- an indicator that is not defined
undefined : packet_length (0x06 ∷ []) ≡ Err (record { 0 = 6 })
unfolding packet_length by_indicator
undefined = refl

-- a command, an event and the first octets of another
split : packets (0x01 ∷ 0x03 ∷ 0x0C ∷ 0x00 ∷ 0x04 ∷ 0x0E ∷ 0x01 ∷ 0x05 ∷ 0x04 ∷ 0x0E ∷ [])
    ≡ (0x01 ∷ 0x03 ∷ 0x0C ∷ 0x00 ∷ []) ∷ (0x04 ∷ 0x0E ∷ 0x01 ∷ 0x05 ∷ []) ∷ []
unfolding packets packets_up_to whole packet_length by_indicator
split = refl

-- an undefined indicator after a whole packet
lost : framed (0x01 ∷ 0x03 ∷ 0x0C ∷ 0x00 ∷ 0x06 ∷ []) ≡ Err (record { 0 = 6 })
unfolding framed packets packets_up_to whole packet_length by_indicator flatten
lost = refl
