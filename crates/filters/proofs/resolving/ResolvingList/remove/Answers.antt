-- `filters::resolving::ResolvingList::remove` meets its contract.
use Rattle.std.proofs.Common.{◌≡◌, length, sym, ◌∙◌, arith, rules}
use Rattle.lists.proofs.Cut.{without_at, without_none}
use Rattle.lists.proofs.Chunks.{length_chunks}
use Rattle.filters.specs.Filters.{has_identity, resolving_entries}
use Rattle.filters.proofs.Flat.{first_entries, entry_place, entry_none}
use Rattle.filters.proofs.resolving.ResolvingList.remove.Goals as goal

pub returns-in_default : goal.returns-in_default
returns-in_default c =
    let a = c.args in
    let p = has_identity a.identity in
    let long : length a.self.octets ≡ 128 = search rules in
    let entries = first_entries 8 a.self.count _ a.self.octets _ c.as_chunks.ensures.front (omega (arith, long)) in
    sym
    (without_none p (resolving_entries a.self)
    (entry_none 8 a.self.count a.self.octets p (sym (rw entries at c.place_of.ensures.found) ∙ c.in_default.is)))

pub returns : goal.returns
returns c =
    let a = c.args in
    let p = has_identity a.identity in
    let long : length a.self.octets ≡ 128 = search rules in
    let entries = first_entries 8 a.self.count _ a.self.octets _ c.as_chunks.ensures.front (omega (arith, long)) in
    let found = sym (rw entries at c.place_of.ensures.found) ∙ c.in-Some.is in
    let at = entry_place 8 a.self.count a.self.octets p c.in-Some.place found in
    c.cut.ensures
    ∙ rw at.0
    (sym (without_at p (resolving_entries a.self) (omega (arith, at.0, at.1, length_chunks 8 a.self.count a.self.octets))))
