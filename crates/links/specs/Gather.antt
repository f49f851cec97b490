-- The handles of the links gathered into sixteen numbers, for question 3 and the search of a free handle: past the links
-- stand numbers that are no handles and differ, so that all sixteen are looked through whatever the count is.
use Rattle.std.specs.Prelude.{◌≡◌, ℕ, suc, ◌+◌, List, [], ◌∷◌, Bool, true, cond, ◌&&◌, ltb, length, take}
use Rattle.lists.specs.Lists.{all, keep, keyed}
use Rattle.links.specs.declared.Connection.{Connection}
use Rattle.links.specs.declared.Waiting.{Waiting}
use Rattle.links.specs.Holding.{fits_in, waits_in_link}

-- the key at index i, where the first n are handles
abbrev pub key_at : ℕ → ℕ → ℕ → ℕ
key_at h i n = cond (ltb i n) h (65536 + i)

unfoldable pub keys_from : ℕ → ℕ → List Connection → List ℕ
keys_from i n [] = []
keys_from i n (c ∷ cs) = key_at c.handle i n ∷ keys_from (suc i) n cs

abbrev pub gathered : ℕ → List Connection → List ℕ
gathered n cs = keys_from 0 n cs

-- a number of 16 bits
abbrev pub is_handle : Connection → Bool
is_handle c = ltb c.handle 65536

abbrev pub itself : ℕ → ℕ
itself x = x

-- how many times x stands in the list
abbrev pub times_in : ℕ → List ℕ → ℕ
times_in x l = length (keep (keyed itself x) l)

-- a packet is as question 3 asks, apart from the others
abbrev pub packet_holds : ℕ → ℕ → List Connection → Waiting → Bool
packet_holds places size cs w = fits_in places size w && waits_in_link cs w

-- r holds the handles of the first n connections, which are 16-bit numbers
pub record Gathers (n : ℕ) (cs : List Connection) (r : List ℕ) : Type 0 where
  pub keys : r ≡ gathered n cs
  pub small : all is_handle (take n cs) ≡ true
