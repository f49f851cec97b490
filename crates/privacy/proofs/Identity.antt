-- What `listed` tells of an identity: that an entry of the resolving list has it. For the proofs of the commands that name one.
use mathlib.Core.Path.{◌≡◌, sym, ◌∙◌}
use Prim.Native.Nat.{ℕ, ◌≤◌}
use mathlib.Core.Bool.{Bool, false}
use mathlib.Core.List.{List}
use lib.ListN.{length}
use native.Mathlib.Omega.{arith}
use borrow.Author.Tests.{ltb-false}
use Rattle.lists.specs.Lists.{any, first_at}
use Rattle.lists.proofs.Tests.{any_first}
use Rattle.filters.specs.declared.resolving.ResolvingList.{ResolvingList}
use Rattle.filters.specs.Filters.{resolving_entries, has_identity}
use Rattle.filters.proofs.Kept.{resolving_count}

-- an identity that no entry has: the search goes past the end
pub identity_absent : (list : ResolvingList) (identity : List ℕ) {r : Bool}
    → r ≡ any (has_identity identity) (resolving_entries list) → r ≡ false
    → list.count ≤ first_at (has_identity identity) (resolving_entries list)
identity_absent list identity e h =
    let m : length (resolving_entries list) ≤ first_at (has_identity identity) (resolving_entries list) =
    ltb-false _ _ (sym (any_first (has_identity identity) (resolving_entries list)) ∙ sym e ∙ h) in
    omega (arith, resolving_count list)
