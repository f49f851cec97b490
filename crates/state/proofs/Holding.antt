-- Question 3 from the test to the facts that proofs use, and back, part by part and for the whole state. For the
-- controller's calls.
use Rattle.std.proofs.Common.{◌≡◌, Bool, true, false, not, ◌&&◌, sym, ◌∙◌, rules, tests}
use mathlib.Core.Bool.{and-eq-true_iff}
use borrow.Author.Tests.{not-true, not-false}
use Rattle.profile.specs.declared.ControllerRow.{ControllerRow}
use Rattle.links.proofs.Holding.{holds_facts, facts_hold}
use Rattle.state.specs.declared.Controller.{Controller}
use Rattle.state.specs.Holding.{accept_holds, resolving_holds, advertising_holds, settings_hold}
use Rattle.state.specs.Holding.{own_parts_hold, state_holds, StateHolds}

-- two tests that both pass
pub both : (a b : Bool) → (a && b) ≡ true → (a ≡ true) × (b ≡ true)
both a b e = (and-eq-true_iff a b).0 e

-- what a call that answered a test told, where its answer was used with `!`
pub passed : {t s : Bool} → t ≡ s → not t ≡ false → s ≡ true
passed {t} e h = sym e ∙ not-false t h

pub failed : {t s : Bool} → t ≡ s → not t ≡ true → s ≡ false
failed {t} e h = sym e ∙ not-true t h

pub state_told : (s : Controller) (k : ControllerRow) → state_holds s k ≡ true → StateHolds s k
unfolding state_holds own_parts_hold accept_holds resolving_holds advertising_holds settings_hold
state_told s k e = record {
  settings = search (rules, tests);
  advertising = search (rules, tests);
  recent = search (rules, tests);
  links = holds_facts _ _ _ (search (rules, tests));
  accept = search (rules, tests);
  resolving = search (rules, tests);
}

pub state_tested : (s : Controller) (k : ControllerRow) → StateHolds s k → state_holds s k ≡ true
unfolding state_holds own_parts_hold accept_holds resolving_holds advertising_holds settings_hold
state_tested s k h = search (rules, tests, facts_hold)
