-- `filters::accept::AcceptList::remove` meets its contract.
use Rattle.std.proofs.Common.{◌≤◌, length, sym, ap, ◌∙◌, arith}
use Rattle.lists.specs.Lists.{first_at, same_list}
use Rattle.lists.proofs.Chunks.{length_chunks}
use Rattle.filters.specs.Filters.{accept_entries, removed, has_identity}
use Rattle.filters.proofs.Flat.{entry_place, entry_none}
use Rattle.filters.proofs.Kept.{removed_cut, removed_absent}
use Rattle.filters.proofs.Identities.{first_entry}
use Rattle.filters.proofs.accept.AcceptList.remove.Goals as goal

pub loop-place-preserved : goal.loop-place-preserved
loop-place-preserved c =
    let entry = c.args.entry in
    let l = c.loop-place.list in
    let found = sym (rw c.entries.ensures.list at c.place_of.ensures.found) ∙ c.in-Some.is in
    let at = entry_place 7 l.count l.octets (has_identity entry) c.in-Some.place found in
    let same = at.0 ∙ first_entry l.count l.octets entry in (
      omega arith,
      ap (removed entry) c.cut.ensures
          ∙ removed_cut entry (accept_entries l) c.in-Some.place same (omega (arith, at.1, length_chunks 7 l.count l.octets))
          ∙ c.loop-place.invariant.1,
    )

pub returns : goal.returns
returns c =
    let entry = c.args.entry in
    let l = c.loop-place.list in
    let found = sym (rw c.entries.ensures.list at c.place_of.ensures.found) ∙ c.in_default.is in
    let none = entry_none 7 l.count l.octets (has_identity entry) found in
    let absent : length (accept_entries l) ≤ first_at (same_list entry) (accept_entries l) =
    rw (← first_entry l.count l.octets entry) none in
    sym (removed_absent entry (accept_entries l) absent) ∙ c.loop-place.invariant.1
