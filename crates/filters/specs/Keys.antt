-- An entry's type and address as one number, by which the code tells entries apart, and the lowest octets of the address,
-- by which it sees of most entries that they stand once. For the contracts of this crate's own functions.
use Rattle.std.specs.Prelude.{ℕ, suc, List, ◌++◌, take, drop, length, ◌≤◌, ◌<◌}
use Rattle.octets.specs.Octets.{octet, number_at}

-- the number of the first seven octets, lowest first; a mode behind them is no part of it
unfoldable pub key_of : List ℕ → ℕ
key_of entry = number_at 7 entry 0

-- the number of the lowest four octets of the address, which stands behind the type
unfoldable pub low_of : List ℕ → ℕ
low_of entry = number_at 4 entry 1

-- an entry begins with seven octets, each below 256
abbrev pub IsEntry : List ℕ → Type 0
IsEntry entry = (7 ≤ length entry) × ((k : ℕ) → octet (take 7 entry) k < 256)

-- the list without the entry at a place
abbrev pub without_place : ℕ → List (List ℕ) → List (List ℕ)
without_place place l = take place l ++ drop (suc place) l
