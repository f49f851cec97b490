-- `links::hold::links_hold` meets its contract.
use Rattle.std.proofs.Common.{◌≡◌, length, sym, ◌∙◌, arith, rules}
use borrow.Author.Tests.{eqb-true}
use lib.Seq.{length-take-le}
use Rattle.lists.proofs.Copying.{length_of_map}
use Rattle.links.proofs.Holding.{hold_no_links, hold_none_waiting}
use Rattle.links.proofs.hold.links_hold.Goals as goal

pub returns-then-links-eq0 : goal.returns-then-links-eq0
returns-then-links-eq0 c =
    let s = c.args in
    let wide : length s.links.waiting ≡ 32 = search (rules, length_of_map) in
    hold_no_links s.links s.places.count s.places.size (omega arith) (omega arith) (omega arith) c.if-links-eq0.true
    (length-take-le s.links.waiting_count s.links.waiting (omega arith))

pub returns-then-is_empty : goal.returns-then-is_empty
returns-then-is_empty c =
    let s = c.args in
    let wide : length s.links.waiting ≡ 32 = search (rules, length_of_map) in
    let differ = c.handles_differ.ensures s.links.connections c.handles_of-handles.ensures in
    let none = rw c.waiting-waiting.ensures at (eqb-true _ _ (sym c.is_empty.ensures ∙ c.if-is_empty.true)) in
    let e = length-take-le s.links.waiting_count s.links.waiting (omega arith) in
    c.if-is_empty.true
    ∙ hold_none_waiting s.links s.places.count s.places.size (omega arith) (omega arith) (omega arith)
    (sym differ ∙ c.if-not-handles_differ.false) (omega arith)
