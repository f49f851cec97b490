-- `filters::resolving::ResolvingList::set_mode` meets its contract.
use Rattle.std.proofs.Common.{◌≡◌, length, sym, ◌∙◌, arith, rules}
use Rattle.lists.proofs.Update.{update_none}
use Rattle.filters.specs.Filters.{has_identity, with_mode, resolving_entries}
use Rattle.filters.proofs.Flat.{first_entries, entry_place, entry_none, store_mode}
use Rattle.filters.proofs.resolving.ResolvingList.set_mode.Goals as goal

pub returns-in_default : goal.returns-in_default
returns-in_default c =
    let a = c.args in
    let p = has_identity a.identity in
    let long : length a.self.octets ≡ 128 = search rules in
    let entries = first_entries 8 a.self.count _ a.self.octets _ c.as_chunks.ensures.front (omega (arith, long)) in
    sym
    (update_none p (with_mode a.mode) (resolving_entries a.self)
    (entry_none 8 a.self.count a.self.octets p (sym (rw entries at c.place_of.ensures.found) ∙ c.in_default.is)))

pub returns : goal.returns
returns c =
    let a = c.args in
    let p = has_identity a.identity in
    let long : length a.self.octets ≡ 128 = search rules in
    let entries = first_entries 8 a.self.count _ a.self.octets _ c.as_chunks.ensures.front (omega (arith, long)) in
    let found = sym (rw entries at c.place_of.ensures.found) ∙ c.in-Some.is in
    let at = entry_place 8 a.self.count a.self.octets p c.in-Some.place found in
    store_mode p a.self.count a.self.octets _ a.mode at.0 at.1 (omega arith)
