-- `links::change::keep_passing` meets its contract.
use Rattle.std.proofs.Common.{refl, sym, ◌∙◌, arith}
use Rattle.std.specs.Fn.{FnReturnsAt}
use Rattle.std.proofs.lemmas.List.Filters.{FiltersInPlace-more_set, FiltersInPlace-more_no, FiltersInPlace-all}
use Rattle.lists.proofs.Search.{keep_filter}
use Rattle.links.proofs.change.keep_passing.Goals.{then-passes, else-passes}
use Rattle.links.proofs.change.keep_passing.Goals as goal

pub loop-i-preserved : goal.loop-i-preserved
loop-i-preserved g c =
    let inv = c.loop-i.invariant in
    let told : FnReturnsAt g.F.Fn c.args.passes c.index-items-i.result c.passes.result = record {
      shown = _;
      shows = refl;
      says = record { met = c.passes.ensures };
    } in
    elim c.if-passes.branch [
      | then-passes w ↦ record {
        few = rw w.kept-is (omega arith);
        filters = λ p k.
            rw (w.items-is, w.kept-is)
            (FiltersInPlace-more_set (inv.filters p k) (omega arith) (sym (k _ _ told) ∙ w.if-passes.true)
            c.index-items-i.is);
      }
      | else-passes w ↦ record {
        few = rw w.kept-is (omega arith);
        filters = λ p k.
            rw (w.items-is, w.kept-is)
            (FiltersInPlace-more_no (inv.filters p k) (omega arith) (sym (k _ _ told) ∙ w.if-passes.false)
            c.index-items-i.is);
      }
    ]

pub returns : goal.returns
returns g c =
    (omega arith, λ p k. FiltersInPlace-all (c.loop-i.invariant.filters p k) (omega arith) ∙ sym (keep_filter p _))
