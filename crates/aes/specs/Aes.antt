-- AES-128 as FIPS 197 has it in sections 3.4 and 5, for the reader who knows the standard: each definition has the
-- standard's name and section. An octet is a number below 256, a word is a list of four octets, and the state is a list
-- of four rows of four octets. Blocks and keys are lists of 16 octets.
-- In antt, a ∷ l is the list l with a in front, get_or l i d is element i of l, and d past its end, cond t a b is a where
-- the test t holds and else b, eqb tests equality, and bit_xor is the exclusive or.
use Rattle.std.specs.Prelude.{cond, List, [], ◌∷◌, ◌++◌, ℕ, zero, suc, ◌+◌, ◌*◌, ◌/◌, ◌%◌, ◌-◌, eqb, get_or}
use Rattle.std.specs.Int.Bits.{bit_xor}
use Rattle.aes.specs.Field.{xtime, mul, sbox}

-- 5: how many words the key has, and how many rounds there are
abbrev pub Nk : ℕ
Nk = 4

abbrev pub Nr : ℕ
Nr = 10

-- four things by their places 0 to 3
abbrev pub four : {A : Type 0} → (ℕ → A) → List A
four f = f 0 ∷ f 1 ∷ f 2 ∷ f 3 ∷ []

-- 3.4: the state whose octet at row r and column c is f r c
abbrev pub state : (ℕ → ℕ → ℕ) → List (List ℕ)
state f = four (λ r. four (λ c. f r c))

-- s[r,c]: row r, column c
abbrev pub at : List (List ℕ) → ℕ → ℕ → ℕ
at s r c = get_or (get_or s r []) c 0

-- 3.4: s[r,c] = in[r + 4c]
abbrev pub state_of : List ℕ → List (List ℕ)
state_of b = state (λ r c. get_or b (r + 4 * c) 0)

-- column c of the state
abbrev pub column : List (List ℕ) → ℕ → List ℕ
column s c = four (λ r. at s r c)

-- 3.4: out[r + 4c] = s[r,c]
abbrev pub octets_of : List (List ℕ) → List ℕ
octets_of s = column s 0 ++ (column s 1 ++ (column s 2 ++ column s 3))

-- 5.1.1
abbrev pub sub_bytes : List (List ℕ) → List (List ℕ)
sub_bytes s = state (λ r c. sbox (at s r c))

-- 5.1.2: row r goes r places to the left
abbrev pub shift_rows : List (List ℕ) → List (List ℕ)
shift_rows s = state (λ r c. at s r ((c + r) % 4))

-- 5.1.3: an octet of the mixed column, from the octet there and the three below it, going round
unfoldable pub mix : ℕ → ℕ → ℕ → ℕ → ℕ
mix a b c d = bit_xor (bit_xor (bit_xor (mul 2 a) (mul 3 b)) c) d

-- 5.1.3
abbrev pub mix_columns : List (List ℕ) → List (List ℕ)
mix_columns s =
    state (λ r c. mix (at s r c) (at s ((r + 1) % 4) c) (at s ((r + 2) % 4) c) (at s ((r + 3) % 4) c))

-- 5.1.4: k is the round's four words; column c of the state has word c added
abbrev pub add_round_key : List (List ℕ) → List (List ℕ) → List (List ℕ)
add_round_key s k = state (λ r c. bit_xor (at s r c) (at k c r))

-- 5.1.4: the four words of round i, w[4i] to w[4i + 3]
unfoldable pub round_key : List (List ℕ) → ℕ → List (List ℕ)
round_key w i = get_or w (4 * i) [] ∷ get_or w (4 * i + 1) [] ∷ get_or w (4 * i + 2) [] ∷ get_or w (4 * i + 3) [] ∷ []

-- 5.2: a0 a1 a2 a3 becomes a1 a2 a3 a0
abbrev pub rot_word : List ℕ → List ℕ
rot_word a = four (λ i. get_or a ((i + 1) % 4) 0)

-- 5.2
abbrev pub sub_word : List ℕ → List ℕ
sub_word a = four (λ i. sbox (get_or a i 0))

-- the sum of two words, octet by octet
abbrev pub add_word : List ℕ → List ℕ → List ℕ
add_word a b = four (λ i. bit_xor (get_or a i 0) (get_or b i 0))

-- x^i
abbrev pub power : ℕ → ℕ
power zero = 1
power (suc i) = xtime (power i)

-- 5.2: Rcon[i] is x^(i-1) 00 00 00, for i from 1
abbrev pub rcon : ℕ → List ℕ
rcon i = power (i - 1) ∷ 0 ∷ 0 ∷ 0 ∷ []

-- 5.2: what is added to word i - Nk to give word i; temp is word i - 1
unfoldable pub key_part : List ℕ → ℕ → List ℕ
key_part temp i = cond (eqb (i % Nk) 0) (add_word (sub_word (rot_word temp)) (rcon (i / Nk))) temp

-- 5.2: word i, from the words w before it, for i from Nk
unfoldable pub next_word : List (List ℕ) → ℕ → List ℕ
next_word w i = add_word (get_or w (i - Nk) []) (key_part (get_or w (i - 1) []) i)

-- the words w, of which there are Nk, and n more
abbrev pub extend : List (List ℕ) → ℕ → List (List ℕ)
extend w zero = w
extend w (suc n) = let v = extend w n in v ++ (next_word v (n + Nk) ∷ [])

-- 5.2: the first Nk words are the key
abbrev pub key_words : List ℕ → List (List ℕ)
key_words key = four (λ i. four (λ j. get_or key (4 * i + j) 0))

-- 5.2: the 4 * (Nr + 1) words of the key schedule
unfoldable pub key_expansion : List ℕ → List (List ℕ)
key_expansion key = extend (key_words key) (4 * (Nr + 1) - Nk)

-- 5.1: one of the rounds 1 to Nr - 1
unfoldable pub round : List (List ℕ) → List (List ℕ) → List (List ℕ)
round s k = add_round_key (mix_columns (shift_rows (sub_bytes s))) k

-- the state after the rounds 1 to n
abbrev pub rounds : List (List ℕ) → List (List ℕ) → ℕ → List (List ℕ)
rounds s w zero = s
rounds s w (suc n) = round (rounds s w n) (round_key w (suc n))

-- 5.1: the last round mixes no columns
unfoldable pub cipher : List ℕ → List (List ℕ) → List ℕ
cipher block w =
    let start = add_round_key (state_of block) (round_key w 0) in
    let s = rounds start w (Nr - 1) in
    octets_of (add_round_key (shift_rows (sub_bytes s)) (round_key w Nr))

-- AES-128 of a block under a key
unfoldable pub aes128 : List ℕ → List ℕ → List ℕ
aes128 key block = cipher block (key_expansion key)
