-- `filters::accept::AcceptList::remove` meets its contract: taking out one entry that is the same changes nothing of
-- what the definition keeps.
use Rattle.std.proofs.Common.{◌≡◌, ◌≤◌}
use Rattle.filters.specs.Filters.{accept_entries, removed}
use Rattle.filters.proofs.accept.AcceptList.remove.Given as goal

abbrev pub invariant-loop-place : goal.invariant-loop-place
invariant-loop-place l = (l.list.count ≤ 32)
    × (removed l.entry (accept_entries l.list) ≡ removed l.entry (accept_entries l.initial.list))

abbrev pub decreases-loop-place : goal.decreases-loop-place
decreases-loop-place l = l.list.count
