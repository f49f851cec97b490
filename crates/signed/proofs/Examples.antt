-- The ends of the range of a path compensation, as its words, and numbers on both sides of zero: worked examples for a
-- reader.
use mathlib.Core.Path.{◌≡◌, refl}
use mathlib.Core.Bool.{true, false}
use lib.IntN.{pos, neg_ℤ}
use Rattle.signed.specs.Signed.{octet_of, signed_word, compensation_allowed}

-- -1280 and -1281
least : compensation_allowed 0xFB00 ≡ true
least = refl

below_least : compensation_allowed 0xFAFF ≡ false
below_least = refl

-- 1280 and 1281
most : compensation_allowed 0x0500 ≡ true
most = refl

above_most : compensation_allowed 0x0501 ≡ false
above_most = refl

-- 0 and -1
zero_allowed : compensation_allowed 0 ≡ true
zero_allowed = refl

minus_one_allowed : compensation_allowed 0xFFFF ≡ true
minus_one_allowed = refl

-- the ends of the signed words
greatest_word : signed_word 0x7FFF ≡ pos 32767
greatest_word = refl

least_word : signed_word 0x8000 ≡ neg_ℤ (pos 32768)
least_word = refl

-- -20 dBm and -128
minus_twenty : octet_of (neg_ℤ (pos 20)) ≡ 0xEC
minus_twenty = refl

least_octet : octet_of (neg_ℤ (pos 128)) ≡ 0x80
least_octet = refl
