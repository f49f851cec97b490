-- `filters::accept::AcceptList::contains` meets its contract.
use Rattle.std.proofs.Common.{position, ap, ◌∙◌}
use Rattle.std.specs.Option.{is_some}
use Rattle.lists.proofs.Search.{position_is_some}
use Rattle.filters.specs.Filters.{has_identity, accept_entries}
use Rattle.filters.proofs.Identities.{any_entry}
use Rattle.filters.proofs.accept.AcceptList.contains.Goals as goal

pub returns : goal.returns
returns c =
    let a = c.args in
    c.is_some.ensures
    ∙ ap is_some (c.place_of.ensures.found ∙ ap (position (has_identity a.entry)) c.entries.ensures.list)
    ∙ position_is_some (has_identity a.entry) (accept_entries a.self)
    ∙ any_entry a.self.count a.self.octets a.entry
