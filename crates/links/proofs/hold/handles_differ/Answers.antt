-- `links::hold::handles_differ` meets its contract: the lowest octets differ, or else each handle stands once or not.
use Rattle.std.proofs.Common.{◌≡◌, eqb, take, sym, ◌∙◌, arith, rules, tests}
use Rattle.std.specs.List.{list_all}
use Rattle.std.proofs.lemmas.Iterator.{YieldsList-from_slice}
use Rattle.std.proofs.lemmas.Iterator.Search.{all_from_yields_List}
use Rattle.lists.proofs.Search.{all_list_all}
use Rattle.links.specs.Gather.{times_in}
use Rattle.links.proofs.Gather.{handles_first, handles_once}
use Rattle.links.proofs.hold.handles_differ.Goals as goal

pub returns-then-lowest_octets_differ : goal.returns-then-lowest_octets_differ
returns-then-lowest_octets_differ c =
    let s = c.args in
    let yes = c.if-lowest_octets_differ.true in
    λ cs g. yes ∙ sym (handles_first s.n cs s.handles.now g.keys (c.lowest_octets_differ.ensures yes))

pub returns-else-lowest_octets_differ : goal.returns-else-lowest_octets_differ
returns-else-lowest_octets_differ c =
    let n = c.args.n in
    let l = c.args.handles.now in
    let told : c.all.result ≡ list_all (λ x. eqb (times_in x l) 1) (take n l) =
    all_from_yields_List (λ x. eqb (times_in x l) 1) _ _ c.all.result c.all.ensures.ran (YieldsList-from_slice (take n l) cc)
    (λ x b q k. search (rules, tests)) in
    λ cs g. told ∙ sym (all_list_all _ (take n l)) ∙ handles_once n cs l g (omega arith)
