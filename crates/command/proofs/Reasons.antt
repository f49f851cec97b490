-- A command that is answered without being carried out: its answer fits the buffer, and the state with the counters and the
-- settings after it is the definition's. For `answered`.
use mathlib.Core.Path.{◌≡◌, refl, ap, ◌∙◌}
use Prim.Native.Nat.{ℕ}
use native.Mathlib.Omega.{arith}
use mathlib.Core.List.{List}
use lib.Dec.{eqb}
use Rattle.profile.specs.declared.ControllerRow.{ControllerRow}
use Rattle.answers.specs.Answers.{AnswerModel}
use Rattle.state.specs.State.{Model, view, count_command}
use Rattle.state.specs.Holding.{StateHolds}
use Rattle.state.specs.declared.Controller.{Controller}
use Rattle.state.specs.declared.Counters.{Counters}
use Rattle.state.specs.declared.Settings.{Settings}
use Rattle.commands.specs.Parts.{with_counters}
use Rattle.commands.specs.Put.{put_settings, put_counters}
use Rattle.commands.specs.Outcome.{outcome}
use Rattle.commands.specs.Command.{refused}
use Rattle.commands.specs.Leaves.{Modest}
use Rattle.commands.proofs.Leaving.{completes, one_done, one_status, modest_cond}
use Rattle.commands.proofs.Giving.{holds_counters}
use Rattle.command.specs.declared.course.Reason.{Reason}
use Rattle.command.specs.declared.course.Reason.TheVariants.{UnknownRow, NoRow, Vendor, OtherFamily, Unmodeled, BadParameters}
use Rattle.command.specs.Calling.{answer_for, state_for, answered_by, counters_for, settings_for}
use Rattle.command.proofs.Giving.{family_view, family_holds}

refused_modest : (op code : ℕ) → Modest (refused op code)
unfolding refused
refused_modest op code = search (modest_cond, one_status, one_done)

reason_modest : (reason : Reason) (k : ControllerRow) (op : ℕ) → Modest (answer_for reason k op)
reason_modest UnknownRow k op = one_done _
reason_modest NoRow k op = refused_modest op _
reason_modest Vendor k op = one_done _
reason_modest OtherFamily k op = modest_cond (eqb op 0x2007) (completes _ (omega arith)) (refused_modest op _)
reason_modest Unmodeled k op = refused_modest op _
reason_modest BadParameters k op = refused_modest op _

pub answer_modest : {a : AnswerModel} (reason : Reason) (k : ControllerRow) (op : ℕ) → a ≡ answer_for reason k op → Modest a
answer_modest reason k op same = rw same (reason_modest reason k op)

-- the state after it
state_view : (reason : Reason) (op : ℕ) (s : Controller) (size : ℕ) (pool : List ℕ)
    → view (put_settings (settings_for reason op s.settings) (put_counters (counters_for reason s.counters) s)) size pool
    ≡ state_for reason op (with_counters (count_command s.counters) (view s size pool))
state_view UnknownRow op s size pool = refl
state_view NoRow op s size pool = refl
state_view Vendor op s size pool = refl
state_view OtherFamily op s size pool = refl
state_view Unmodeled op s size pool = family_view op (with_counters (count_command s.counters) (view s size pool))
state_view BadParameters op s size pool = family_view op (with_counters (count_command s.counters) (view s size pool))

state_holds_lem : (reason : Reason) (op : ℕ) {s : Controller} {k : ControllerRow} → StateHolds s k
    → StateHolds (put_settings (settings_for reason op s.settings) (put_counters (counters_for reason s.counters) s)) k
state_holds_lem UnknownRow op {s} h = holds_counters h (counters_for UnknownRow s.counters)
state_holds_lem NoRow op {s} h = holds_counters h (counters_for NoRow s.counters)
state_holds_lem Vendor op {s} h = holds_counters h (counters_for Vendor s.counters)
state_holds_lem OtherFamily op {s} h = holds_counters h (counters_for OtherFamily s.counters)
state_holds_lem Unmodeled op {s} h = family_holds op (holds_counters h (counters_for Unmodeled s.counters))
state_holds_lem BadParameters op {s} h = family_holds op (holds_counters h (counters_for BadParameters s.counters))

-- the same of what the code gives: the answer, the counters and the settings
module _ (reason : Reason) (k : ControllerRow) (op : ℕ) (s : Controller) {counters : Counters} {settings : Settings}
    (counted : counters ≡ counters_for reason s.counters) (set : settings ≡ settings_for reason op s.settings) where
  pub reason_outcome : {a : AnswerModel} → a ≡ answer_for reason k op → (size : ℕ) (pool : List ℕ)
      → outcome a (view (put_settings settings (put_counters counters s)) size pool)
      ≡ answered_by reason k op (with_counters (count_command s.counters) (view s size pool))
  reason_outcome same size pool =
      let after = put_settings (settings_for reason op s.settings) (put_counters (counters_for reason s.counters) s) in
      rw (counted, set)
      (ap (λ (x : AnswerModel). outcome x (view after size pool)) same
      ∙ ap (λ (m : Model). outcome (answer_for reason k op) m) (state_view reason op s size pool))

  pub reason_holds : StateHolds s k → StateHolds (put_settings settings (put_counters counters s)) k
  reason_holds h = rw (counted, set) (state_holds_lem reason op h)
