-- `links::change::keep_passing` meets its contract: after i turns what passes of the first i stands at the front.
use Rattle.std.proofs.Common.{◌≡◌, Bool, ◌≤◌}
use Rattle.std.specs.Fn.{FnReturnsAt}
use Rattle.std.proofs.lemmas.List.Filters.{FiltersInPlace}
use Rattle.links.proofs.change.keep_passing.Given as goal

abbrev pub invariant-loop-i : goal.invariant-loop-i
invariant-loop-i g l = record {
  few : l.kept ≤ l.i;
  filters : (p : g.row.T.Denot → Bool)
      → ((x : g.row.T.Denot) (b : Bool) → FnReturnsAt g.F.Fn l.passes x b → b ≡ p x)
      → FiltersInPlace p l.fn.items l.items l.kept l.i;
}
