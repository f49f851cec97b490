-- `filters::differ::stands_before` meets its contract: none of the entries looked at has the identity.
use Rattle.std.proofs.Common.{◌≡◌, false, take}
use Rattle.lists.specs.Lists.{any}
use Rattle.filters.specs.Filters.{has_identity}
use Rattle.filters.proofs.differ.stands_before.Given as goal

abbrev pub invariant-loop-other : goal.invariant-loop-other
invariant-loop-other g l = any (has_identity l.fn.identity) (take l.other-index l.before) ≡ false
