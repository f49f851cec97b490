-- The two filter lists as lists of entries, each a list of octets, and what the commands do to them (Core Vol 4 Part E
-- sections 7.8.15 to 7.8.17, 7.8.38 to 7.8.40 and 7.8.77). For the commands and for question 3.
use Rattle.std.specs.Prelude.{ℕ, List, [], ◌∷◌, ◌++◌, Bool, cond, not, ◌&&◌, leb, eqb, length, take, get_or, replicate}
use Rattle.lists.specs.Lists.{any, keep, distinct_by, same_list, chunks}
use Rattle.filters.specs.declared.accept.AcceptList.{AcceptList}
use Rattle.filters.specs.declared.resolving.ResolvingList.{ResolvingList}

-- The accept list: entries of a type and an address, seven octets, oldest first

abbrev pub accept_entries : AcceptList → List (List ℕ)
accept_entries a = chunks 7 a.count a.octets

-- the entry that a command's parameters name; for anonymous advertisers, type 0xFF, the address is ignored (7.8.16)
unfoldable pub accept_entry : List ℕ → List ℕ
accept_entry p = cond (eqb (get_or p 0 0) 0xFF) (0xFF ∷ replicate 6 0) p

abbrev pub contains_entry : List ℕ → List (List ℕ) → Bool
contains_entry entry l = any (same_list entry) l

-- add: presence is asked before size; an entry that is present succeeds where the list is full
unfoldable pub added : ℕ → List ℕ → List (List ℕ) → List (List ℕ)
added size entry l = cond (contains_entry entry l) l (cond (leb size (length l)) l (l ++ (entry ∷ [])))

unfoldable pub is_full : ℕ → List ℕ → List (List ℕ) → Bool
is_full size entry l = not (contains_entry entry l) && leb size (length l)

-- remove: an entry that is absent changes nothing
unfoldable pub removed : List ℕ → List (List ℕ) → List (List ℕ)
removed entry l = keep (λ x. not (same_list entry x)) l

-- no entry stands twice
abbrev pub entries_differ : List (List ℕ) → Bool
entries_differ l = distinct_by same_list l

-- The resolving list: identities of a type and an address, with a privacy mode behind them, eight octets, oldest first

abbrev pub resolving_entries : ResolvingList → List (List ℕ)
resolving_entries r = chunks 8 r.count r.octets

-- the mode octet is no part of the identity
abbrev pub has_identity : List ℕ → List ℕ → Bool
has_identity identity entry = same_list identity (take 7 entry)

-- a new identity has network privacy mode, 0 (7.8.77)
abbrev pub new_entry : List ℕ → List ℕ
new_entry identity = identity ++ (0 ∷ [])

abbrev pub with_mode : ℕ → List ℕ → List ℕ
with_mode mode entry = take 7 entry ++ (mode ∷ [])

-- no identity stands twice
abbrev pub identities_differ : List (List ℕ) → Bool
identities_differ l = distinct_by (λ x y. same_list (take 7 x) (take 7 y)) l
