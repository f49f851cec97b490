-- Opcodes, and which commands are acknowledged with Command Status. For the controller's answers.
use Rattle.std.specs.Prelude.{ℕ, ◌*◌, ◌%◌, List, [], ◌∷◌, Bool, eqb}
use Rattle.std.specs.Int.Bits.{bit_or}
use Rattle.lists.specs.Lists.{any}

-- Core Vol 4 Part E section 5.4.1: the group in the upper six bits, the command in the lower ten. As in the source, bits of
-- the command above its ten fall into the group
abbrev pub opcode_of : ℕ → ℕ → ℕ
opcode_of ogf ocf = bit_or (ogf % 64 * 1024) ocf

-- the commands of section 7 that have no return parameters: Command Status acknowledges them (section 4.4), but for 0x0C35,
-- which is not acknowledged where it succeeds (section 7.3.40)
abbrev pub async_opcodes : List ℕ
async_opcodes =
    0x0401 ∷ 0x0405 ∷ 0x0406 ∷ 0x0409 ∷ 0x040A ∷ 0x040F ∷ 0x0411 ∷ 0x0413 ∷ 0x0415 ∷ 0x0417 ∷ 0x0419 ∷ 0x041B
    ∷ 0x041C ∷ 0x041D ∷ 0x041F ∷ 0x0428 ∷ 0x0429 ∷ 0x042A ∷ 0x043D ∷ 0x043E ∷ 0x043F ∷ 0x0443 ∷ 0x0444 ∷ 0x0801
    ∷ 0x0803 ∷ 0x0804 ∷ 0x0807 ∷ 0x080B ∷ 0x0810 ∷ 0x0C35 ∷ 0x0C53 ∷ 0x0C5F ∷ 0x200D ∷ 0x2013 ∷ 0x2016 ∷ 0x2019
    ∷ 0x2025 ∷ 0x2026 ∷ 0x2032 ∷ 0x2043 ∷ 0x2044 ∷ 0x205E ∷ 0x2064 ∷ 0x2066 ∷ 0x2068 ∷ 0x2069 ∷ 0x206A ∷ 0x206B
    ∷ 0x206D ∷ 0x2077 ∷ 0x207E ∷ 0x2085 ∷ []

-- an opcode is one of these
unfoldable pub is_async : ℕ → Bool
is_async op = any (λ x. eqb x op) async_opcodes
