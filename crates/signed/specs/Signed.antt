-- Signed numbers in HCI parameters: a number below zero is sent in two's complement (Core Vol 4 Part E section 5.2).
-- For the commands whose parameters are powers in dBm and path compensations.
use Rattle.std.specs.Prelude.{ℕ, ◌-◌, Bool, cond, ◌&&◌, ℤ, pos, negsuc, neg_ℤ, ltb}
use Rattle.std.specs.Int.Signed.{lt_z, le_z}

-- the octet of a signed 8-bit number: -1 is 255, -128 is 128 (`negsuc n` is -(n + 1))
abbrev pub octet_of : ℤ → ℕ
octet_of (pos n) = n
octet_of (negsuc n) = 255 - n

-- the signed 16-bit number of a word: from 2^15 on it is w - 65536
abbrev pub signed_word : ℕ → ℤ
signed_word w = cond (ltb w 32768) (pos w) (negsuc (65535 - w))

-- least ≤ x and x ≤ most
abbrev pub between : ℤ → ℤ → ℤ → Bool
between least most x = le_z least x && le_z x most

-- the smaller of two numbers
abbrev pub lesser_signed : ℤ → ℤ → ℤ
lesser_signed x y = cond (lt_z x y) x y

-- whether a word is a path compensation that LE Write RF Path Compensation takes: from -1280 to 1280, in tenths of a dB
abbrev pub compensation_allowed : ℕ → Bool
compensation_allowed w = between (neg_ℤ (pos 1280)) (pos 1280) (signed_word w)
