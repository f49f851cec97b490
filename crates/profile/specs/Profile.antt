-- The profile's limits (question 1), its rows (question 2), the answer of an opcode's first row, and the bit map of the
-- rows. Document 01, "Profile, state and pool". For callers of the controller.
use Rattle.std.specs.Prelude.{ℕ, ◌≤◌, ◌<◌, ◌≡◌, List, [], ◌∷◌, length, get_or, replicate, Option, Some, None}
use Rattle.std.specs.Prelude.{Bool, false, cond, not, ◌&&◌, ◌||◌, leb, ltb, eqb}
use Rattle.lists.specs.Lists.{first_at, all}
use Rattle.hci.specs.Bits.{with_bit}
use Rattle.profile.specs.declared.ControllerRow.{ControllerRow}
use Rattle.profile.specs.declared.Answering.{Answering}
use Rattle.profile.specs.declared.Answering.TheVariants.{Modeled, Unmodeled, Unknown}

-- question 1: acl_len 27 to 1,019, acl_count 1 to 32, accept_list_size 0 to 32, resolving_list_size 0 to 16
unfoldable pub within_limits : ControllerRow → Bool
within_limits k =
    leb 27 k.acl_len
    && (leb k.acl_len 1019
    && (leb 1 k.acl_count
    && (leb k.acl_count 32
    && (leb k.accept_list_size 32
    && leb k.resolving_list_size 16))))

-- the same as facts: `within_limits_lem` and `limits_within` of proofs/Limits
pub record Limits (k : ControllerRow) : Type 0 where
  pub least_len : 27 ≤ k.acl_len
  pub most_len : k.acl_len ≤ 1019
  pub least_count : 1 ≤ k.acl_count
  pub most_count : k.acl_count ≤ 32
  pub most_accept : k.accept_list_size ≤ 32
  pub most_resolving : k.resolving_list_size ≤ 16

-- as many answers as opcodes, each at most 2: `rows_answer` of proofs/Limits has it of rows that fit
abbrev pub answers_fit : List ℕ → List ℕ → Bool
answers_fit opcodes answers = eqb (length opcodes) (length answers) && all (λ a. leb a 2) answers

-- question 2: the slices are equally long, at most 256, and each answer is at most 2
unfoldable pub rows_fit : List ℕ → List ℕ → List ℕ → Bool
rows_fit opcodes answers bits =
    eqb (length opcodes) (length answers)
    && (eqb (length opcodes) (length bits)
    && (leb (length opcodes) 256
    && all (λ a. leb a 2) answers))

-- the same as facts: `rows_fit_lem` of proofs/Limits
pub record FittingRows (opcodes answers bits : List ℕ) : Type 0 where
  pub same_answers : length opcodes ≡ length answers
  pub same_bits : length opcodes ≡ length bits
  pub few : length opcodes ≤ 256
  pub known : (i : ℕ) → i < length answers → get_or answers i 0 ≤ 2

-- document 01's number of an answer: 0 modelled, 1 unmodelled, 2 unknown; 3 where an opcode has no row
abbrev pub answer_number : Option Answering → ℕ
answer_number (Some Modeled) = 0
answer_number (Some Unmodeled) = 1
answer_number (Some Unknown) = 2
answer_number None = 3

-- the answer of the first row of an opcode, 3 where it has none
abbrev pub row_answer : List ℕ → List ℕ → ℕ → ℕ
row_answer opcodes answers op = get_or answers (first_at (λ x. eqb x op) opcodes) 3

-- the map with the bit of one row, if the row is not unknown and the bit below 512
abbrev pub with_row : List ℕ → ℕ → ℕ → List ℕ
with_row map answer bit = cond (not (eqb answer 2) && ltb bit 512) (with_bit map bit) map

-- the map with the bits of all rows
unfoldable pub row_bits : List ℕ → List ℕ → List ℕ → List ℕ
row_bits map [] bits = map
row_bits map (answer ∷ answers) [] = map
row_bits map (answer ∷ answers) (bit ∷ bits) = row_bits (with_row map answer bit) answers bits

-- the bit map of the rows, 64 octets
abbrev pub row_bitmap : List ℕ → List ℕ → List ℕ
row_bitmap answers bits = row_bits (replicate 64 0) answers bits

-- some row that is not unknown has the bit number b: what bit b of the map says, `bitmap_bit` of proofs/Bitmap
unfoldable pub lists_bit : ℕ → List ℕ → List ℕ → Bool
lists_bit b [] bits = false
lists_bit b (answer ∷ answers) [] = false
lists_bit b (answer ∷ answers) (bit ∷ bits) = (not (eqb answer 2) && eqb b bit) || lists_bit b answers bits
