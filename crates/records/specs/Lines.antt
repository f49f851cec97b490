-- Bench lines, document 01: what a line of input says, and how an answer is printed. For readers of the program `bench` and of
-- the C calls. A line is the octets before a newline; characters are octets, in ASCII.
use Rattle.std.specs.Prelude.{ℕ, ◌+◌, ◌-◌, ◌*◌, ◌/◌, ◌%◌, List, [], ◌∷◌, ◌++◌, Bool, cond, ◌&&◌, ◌||◌, leb, eqb, length}
use Rattle.std.specs.Prelude.{replicate}
use Rattle.lists.specs.Lists.{all, same_list}
use Rattle.calls.specs.Calls.{Call, on_packet, take_transmit, open_connection, completed}

-- ---- fields

-- the fields of a line, parted by tabs (9)
abbrev pub before : ℕ → List (List ℕ) → List (List ℕ)
before x [] = (x ∷ []) ∷ []
before x (f ∷ fs) = (x ∷ f) ∷ fs

unfoldable pub fields : List ℕ → List (List ℕ)
fields [] = [] ∷ []
fields (x ∷ l) = cond (eqb x 9) ([] ∷ fields l) (before x (fields l))

-- ---- numbers: decimal digits, one at least, up to 65,535

abbrev pub is_digit : ℕ → Bool
is_digit x = leb 48 x && leb x 57

unfoldable pub decimal : ℕ → List ℕ → ℕ
decimal n [] = n
decimal n (x ∷ l) = decimal (10 * n + (x - 48)) l

unfoldable pub is_number : List ℕ → Bool
is_number f = leb 1 (length f) && (all is_digit f && leb (decimal 0 f) 65535)

-- ---- packets: 0 to 1,024 octets in lower-case hex pairs

abbrev pub is_hex_digit : ℕ → Bool
is_hex_digit x = is_digit x || (leb 97 x && leb x 102)

abbrev pub hex_value : ℕ → ℕ
hex_value x = cond (leb x 57) (x - 48) (x - 87)

unfoldable pub octets_of : List ℕ → List ℕ
octets_of [] = []
octets_of (x ∷ []) = []
octets_of (x ∷ y ∷ l) = (16 * hex_value x + hex_value y) ∷ octets_of l

unfoldable pub is_packet : List ℕ → Bool
is_packet f = all is_hex_digit f && (eqb (length f % 2) 0 && leb (length f) 2048)

-- ---- records

pub data Line : Type 0 where
  calls : Call → Line
  no_record : Line

-- `P` 80, `T` 84, `C` 67, `O` 79. Random number and public address are 0
abbrev pub read_fields : List (List ℕ) → Line
read_fields [] = no_record
read_fields (k ∷ []) = no_record
read_fields (k ∷ a ∷ []) = cond (same_list k (80 ∷ []) && is_packet a) (calls (on_packet (replicate 6 0) 0 (octets_of a)))
    no_record
read_fields (k ∷ a ∷ b ∷ []) =
    cond (is_number a && is_number b)
    (cond (same_list k (84 ∷ [])) (calls (take_transmit (decimal 0 a) (decimal 0 b)))
    (cond (same_list k (67 ∷ [])) (calls (completed (decimal 0 a) (decimal 0 b))) no_record))
    no_record
read_fields (k ∷ a ∷ b ∷ c ∷ []) = no_record
read_fields (k ∷ a ∷ b ∷ c ∷ d ∷ []) =
    cond (same_list k (79 ∷ []) && (is_number a && (is_number b && (is_number c && is_number d))))
    (calls (open_connection (decimal 0 a) (decimal 0 b) (decimal 0 c) (decimal 0 d)))
    no_record
read_fields (k ∷ a ∷ b ∷ c ∷ d ∷ e ∷ more) = no_record

unfoldable pub read_line : List ℕ → Line
read_line line = read_fields (fields line)

-- a line that is longer than the longest packet's, 2,050 characters, is no record
unfoldable pub record_of : List ℕ → Line
record_of line = cond (leb (length line) 2050) (read_line line) no_record

-- ---- printing

abbrev pub hex_digit : ℕ → ℕ
hex_digit n = cond (leb n 9) (n + 48) (n + 87)

unfoldable pub hex_of : List ℕ → List ℕ
hex_of [] = []
hex_of (x ∷ l) = hex_digit (x / 16) ∷ hex_digit (x % 16) ∷ hex_of l

-- a letter, a tab, octets in hex and a newline (10): `E` 69, `X` 88
abbrev pub hex_line : ℕ → List ℕ → List ℕ
hex_line letter octets = letter ∷ 9 ∷ hex_of octets ++ 10 ∷ []

-- a number below 100 in decimal digits
abbrev pub digits : ℕ → List ℕ
digits n = cond (leb n 9) ((n + 48) ∷ []) ((n / 10 + 48) ∷ (n % 10 + 48) ∷ [])

-- `D` 68: refusal number or 0, and buffers in use
abbrev pub done_line : ℕ → ℕ → List ℕ
done_line number used = 68 ∷ 9 ∷ digits number ++ 9 ∷ digits used ++ 10 ∷ []
