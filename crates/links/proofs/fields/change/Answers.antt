-- `links::fields::change` meets its contract: the search gives the first connection with the handle.
use Rattle.std.proofs.Common.{◌≡◌, length, arith, rules, sym, ◌∙◌}
use lib.ListN.{length-set}
use Rattle.lists.proofs.Copying.{length_of_map}
use Rattle.lists.proofs.Search.{position_some, position_none}
use Rattle.lists.proofs.Update.{update_prefix, update_none}
use Rattle.links.specs.Links.{opened, has_handle}
use Rattle.links.proofs.Changing.{count_opened, lists_same}
use Rattle.links.proofs.fields.change.Goals as goal

pub returns-in_default : goal.returns-in_default
returns-in_default g c =
    let s = c.args.links in
    let long : length s.connections ≡ 16 = search (rules, length_of_map) in
    let wide : length s.waiting ≡ 32 = search (rules, length_of_map) in
    let p = has_handle c.args.handle in
    let none = position_none p (opened s) (sym c.find_connection.ensures ∙ c.in_default.is) in
    (λ f k. sym (update_none p f (opened s) none), lists_same s long wide c.requires.counts.0 c.requires.counts.1)

pub returns : goal.returns
returns g c =
    let s = c.args.links in
    let long : length s.connections ≡ 16 = search (rules, length_of_map) in
    let wide : length s.waiting ≡ 32 = search (rules, length_of_map) in
    let p = has_handle c.args.handle in
    let at = c.in-Some.at in
    let some = position_some p (opened s) at (sym c.find_connection.ensures ∙ c.in-Some.is) in
    let fit = c.requires.counts in
    let n = count_opened s long wide fit.0 in (
      λ f k. rw (k _ _ c.f.ensures) (update_prefix p f s.connections s.count at _ some.0 (omega arith) (omega arith)),
      lists_same _ (length-set s.connections at _ ∙ long) wide fit.0 fit.1,
    )
