-- Buffers of octets as lists of numbers: octets written over a part of a buffer, and little-endian numbers of any
-- width. For every crate that reads or writes packets.
use Rattle.std.specs.Prelude.{◌≡◌, ℕ, zero, suc, ◌+◌, ◌*◌, ◌/◌, ◌%◌, ◌≤◌, Bool, not, List, [], ◌∷◌, ◌++◌, eqb, length, take}
use Rattle.std.specs.Prelude.{drop, get_or}

-- the octet at index i, 0 past the end
abbrev pub octet : List ℕ → ℕ → ℕ
octet p i = get_or p i 0

-- a flag of the state: 0 is no, any other octet yes
abbrev pub is_yes : ℕ → Bool
is_yes x = not (eqb x 0)

-- the w octets of a number, lowest first
abbrev pub le : ℕ → ℕ → List ℕ
le zero n = []
le (suc w) n = n % 256 ∷ le w (n / 256)

-- the number whose w octets stand from index i on, lowest first
abbrev pub number_at : ℕ → List ℕ → ℕ → ℕ
number_at zero p i = 0
number_at (suc zero) p i = octet p i
number_at (suc (suc w)) p i = octet p i + 256 * number_at (suc w) p (suc i)

-- the 16-bit number at index i (document 01's words: handles, opcodes, ACL lengths)
abbrev pub word : List ℕ → ℕ → ℕ
word p i = number_at 2 p i

-- xs with ys written over it from index at
unfoldable pub splice : List ℕ → ℕ → List ℕ → List ℕ
splice xs at ys = take at xs ++ ys ++ drop (at + length ys) xs

-- ys were written over the buffer `before` from index at, where they fit; r is the index after them
pub record Put (before : List ℕ) (at : ℕ) (ys : List ℕ) (r : ℕ) (after : List ℕ) : Type 0 where
  pub room : at + length ys ≤ length before
  pub next : r ≡ at + length ys
  pub leaves : after ≡ splice before at ys
