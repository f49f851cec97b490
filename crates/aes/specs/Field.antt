-- The field GF(2^8) of FIPS 197, section 4, and the S-box of section 5.1.1, for the reader who asks what AES-128 is
-- here. An octet is a number below 256, whose bit i is the coefficient of x^i. Sections are those of the edition of 2001
-- and its update of 2023; where they differ, the second number is the update's.
-- In antt, cond t a b is a where the test t holds and else b, ltb a b tests a < b, and bit_xor is the exclusive or.
use Rattle.std.specs.Prelude.{◌≡◌, cond, List, ℕ, zero, suc, ◌+◌, ◌*◌, ◌/◌, ◌%◌, ◌^◌, ◌<◌, ltb, get_or}
use Rattle.std.specs.Int.Bits.{bit_xor}

-- 4.2.1 / 4.2: the octet times x, modulo x^8 + x^4 + x^3 + x + 1
unfoldable pub xtime : ℕ → ℕ
xtime b = cond (ltb b 128) (b * 2 % 256) (bit_xor 0x1b (b * 2 % 256))

-- r, with b added where the bit is 1
abbrev pub add_if : ℕ → ℕ → ℕ → ℕ
add_if zero b r = r
add_if (suc _) b r = bit_xor r b

-- the sum of b * x^i over those of the lowest n bits i of a that are set
abbrev pub mul_bits : ℕ → ℕ → ℕ → ℕ
mul_bits zero a b = 0
mul_bits (suc n) a b = add_if (a % 2) b (mul_bits n (a / 2) (xtime b))

-- 4.2: the product of two octets
abbrev pub mul : ℕ → ℕ → ℕ
mul a b = mul_bits 8 a b

-- the product of s^2, s^4, s^8 and so on, n of them
abbrev pub squares : ℕ → ℕ → ℕ
squares zero s = 1
squares (suc n) s = let t = mul s s in mul t (squares n t)

-- 4.2 / 4.4: the inverse of b is b^254, and 0 for 0. That b times it is 1 is shown in proofs/Inverse.antt
unfoldable pub inverse : ℕ → ℕ
inverse b = squares 7 b

-- bit i of b
abbrev pub bit : ℕ → ℕ → ℕ
bit b i = b / 2 ^ i % 2

-- 5.1.1: bit i of the affine map
abbrev pub affine_bit : ℕ → ℕ → ℕ
affine_bit b i =
    (bit b i + bit b ((i + 4) % 8) + bit b ((i + 5) % 8) + bit b ((i + 6) % 8) + bit b ((i + 7) % 8) + bit 0x63 i) % 2

-- the number whose bit i is f i, for i below n
abbrev pub from_bits : ℕ → (ℕ → ℕ) → ℕ
from_bits zero f = 0
from_bits (suc n) f = f n * 2 ^ n + from_bits n f

-- 5.1.1: the affine map
unfoldable pub affine : ℕ → ℕ
affine b = from_bits 8 (affine_bit b)

-- 5.1.1: the S-box, the affine map of the inverse
unfoldable pub sbox : ℕ → ℕ
sbox b = affine (inverse b)

-- no part of the standard: a table of the S-box's values, which the code's type `Sbox` holds
pub record SboxTable (table : List ℕ) : Type 0 where
  pub entry : (k : ℕ) → k < 256 → get_or table k 0 ≡ sbox k
