-- The tests of parameters that more than one command makes. For the definitions of the commands.
use Rattle.std.specs.Prelude.{ℕ, ◌+◌, ◌*◌, Bool, ◌&&◌, leb, ltb, eqb}
use Rattle.hci.specs.Bits.{bit_of}
use Rattle.profile.specs.declared.ControllerRow.{ControllerRow}

-- from least to most
abbrev pub within : ℕ → ℕ → ℕ → Bool
within least most x = leb least x && leb x most

-- `connection_params_valid`, section 7.8.18: intervals 7.5 ms to 4 s in 1.25 ms units, the least at most the greatest, latency
-- to 499, timeout 100 ms to 32 s in 10 ms units, and longer than (1 + latency) * max * 2, the maximum in milliseconds: strictly
unfoldable pub connection_params_valid : ℕ → ℕ → ℕ → ℕ → Bool
connection_params_valid least most latency timeout =
    within 0x0006 0x0C80 least
    && (within 0x0006 0x0C80 most
    && (leb least most
    && (leb latency 0x01F3
    && (within 0x000A 0x0C80 timeout
    && ltb ((1 + latency) * most) (timeout * 4)))))

-- sections 7.8.33 and 7.8.35: 27 to 251 octets, 328 to 17,040 us
unfoldable pub data_length_valid : ℕ → ℕ → Bool
data_length_valid octets time = within 0x001B 0x00FB octets && within 0x0148 0x4290 time

-- the PHYs that the profile's features name (Vol 6 Part B section 4.6): LE 1M always, LE 2M by bit 8, LE Coded by bit 11
abbrev pub has2_m : ControllerRow → Bool
has2_m k = eqb (bit_of k.le_features 8) 1

abbrev pub has_coded : ControllerRow → Bool
has_coded k = eqb (bit_of k.le_features 11) 1

-- `phys`: the same as a bit set, LE 1M bit 0, LE 2M bit 1, LE Coded bit 2
unfoldable pub phys : ControllerRow → ℕ
phys k = 1 + 2 * bit_of k.le_features 8 + 4 * bit_of k.le_features 11
