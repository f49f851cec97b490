-- Bits of masks and of bit maps. For callers of `mask_has` and `set_bit`.
use Rattle.std.specs.Prelude.{◌≡◌, ℕ, ◌/◌, ◌%◌, ◌^◌, List, Result, Ok, Err, Bool, false, cond, ◌&&◌, set, ltb, eqb}
use Rattle.std.specs.Int.Bits.{bit_or}
use Rattle.octets.specs.Octets.{octet}
use Rattle.hci.specs.declared.bits.MaskError.{MaskError}
use Rattle.hci.specs.declared.bits.MaskError.TheVariants.{NoSuchBit}

-- bit k of a number
abbrev pub bit_of : ℕ → ℕ → ℕ
bit_of n k = n / 2 ^ k % 2

-- document 01's number of an answer (question 10)
abbrev pub number : Result Bool MaskError → ℕ
number (Ok has) = 0
number (Err NoSuchBit) = 10

-- what it says of the bit
abbrev pub says : Result Bool MaskError → Bool
says (Ok has) = has
says (Err NoSuchBit) = false

-- the answer r of `mask_has`: a bit of 64 or more is refused, any other is told
pub record MaskHas (mask bit : ℕ) (r : Result Bool MaskError) : Type 0 where
  pub numbered : number r ≡ cond (ltb bit 64) 0 10
  pub told : says r ≡ (ltb bit 64 && eqb (bit_of mask bit) 1)

-- the map with a bit set, bit 0 the lowest of its first octet; past its end nothing changes
abbrev pub with_bit : List ℕ → ℕ → List ℕ
with_bit map bit = set map (bit / 8) (bit_or (octet map (bit / 8)) (2 ^ (bit % 8)))

-- bit i of a map
abbrev pub map_bit : List ℕ → ℕ → ℕ
map_bit map i = bit_of (octet map (i / 8)) (i % 8)
