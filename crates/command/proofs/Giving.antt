-- What a command gives in the end: its outcome, with the command counted, its family set and its answer remembered and written.
-- For the functions of `command`.
use mathlib.Core.Path.{◌≡◌, refl, sym, ap, ◌∙◌}
use Prim.Native.Nat.{ℕ, ◌≤◌}
use native.Mathlib.Omega.{arith}
use mathlib.Core.Bool.{Bool, true, false, cond, ◌||◌}
use mathlib.Core.List.{List, [], ◌∷◌}
use lib.Dec.{eqb}
use lib.ListN.{length}
use borrow.Table.Steps.{cases}
use Rattle.octets.specs.Octets.{Put}
use Rattle.profile.specs.declared.ControllerRow.{ControllerRow}
use Rattle.answers.specs.declared.Answer.{Answer}
use Rattle.answers.specs.Answers.{AnswerModel, Form, Complete, Status, Silent, answer_of, octets_of}
use Rattle.state.specs.State.{Model, view, answers_of, count_command}
use Rattle.state.specs.Holding.{StateHolds}
use Rattle.state.specs.declared.Controller.{Controller}
use Rattle.state.specs.declared.Counters.{Counters}
use Rattle.state.specs.declared.Settings.{Settings}
use Rattle.state.specs.declared.Recent.{Recent}
use Rattle.commands.specs.Checks.{within}
use Rattle.commands.specs.Parts.{with_settings, with_counters, with_recent}
use Rattle.commands.specs.Put.{put_settings, put_recent, noted_in}
use Rattle.commands.specs.Outcome.{Outcome, outcome, given, Gives, Ready}
use Rattle.commands.specs.Table.{find, sized, rows}
use Rattle.commands.specs.Command.{family_of, with_family, remembered, after_answer}
use Rattle.commands.specs.Leaves.{Shaped}
use Rattle.commands.proofs.TableLeaves.{rows_modest}
use Rattle.commands.proofs.Giving.{holds_counters, holds_settings, holds_recent}
use Rattle.dispatch.specs.declared.Part.{Part}
use Rattle.dispatch.specs.Parts.{rows_of}
use Rattle.dispatch.proofs.Halves.{row_fits, row_gives}
use Rattle.command.specs.declared.Noted.{Noted}
use Rattle.command.specs.declared.Told.{Told}
use Rattle.command.specs.Calling.{family_in, begun_from, remembered_in, carried_by, told_of}
use Rattle.command.specs.Calling.{ShapedProfile, CanCarry, CanFinish, Finished, FinishedFrom, Gave}

-- ---- the family

cond_most : (b : Bool) {x y n : ℕ} → x ≤ n → y ≤ n → cond b x y ≤ n
cond_most true h k = h
cond_most false h k = k

family_most : (op : ℕ) → family_of op ≤ 2
unfolding family_of
family_most op =
    cond_most (within 0x2006 0x200D op) (omega arith)
    (cond_most (within 0x2036 0x204A op || (eqb op 0x205C || eqb op 0x205D)) (omega arith) (omega arith))

-- the family set in the settings is the family set in the state
pub family_view : (op : ℕ) (m : Model) → with_settings (family_in op m.settings) m ≡ with_family op m
family_view op m = cases (eqb (family_of op) 0) (λ z. rw z) (λ z. rw z)

pub family_holds : (op : ℕ) {s : Controller} {k : ControllerRow} → StateHolds s k
    → StateHolds (put_settings (family_in op s.settings) s) k
family_holds op h =
    cases (eqb (family_of op) 0)
    (λ z. rw z h)
    (λ z. rw z (holds_settings h (record { family = family_most op; tested = h.settings.tested })))

-- ---- the state that a command begins with

module _ (op : ℕ) (s : Controller) {u : Controller} (begun : u ≡ begun_from op s) where
  begun_view : (size : ℕ) (pool : List ℕ)
      → view u size pool ≡ with_family op (with_counters (count_command s.counters) (view s size pool))
  begun_view size pool =
      ap (λ (x : Controller). view x size pool) begun
      ∙ family_view op (with_counters (count_command s.counters) (view s size pool))

  pub begun_ready : {k : ControllerRow} → Ready s k → Ready u k
  begun_ready r = record {
    limits = r.limits;
    holds = rw begun (family_holds op (holds_counters r.holds (count_command s.counters)));
  }

-- ---- the end of a command

recent_view : (form : Form) (op : ℕ) (octets : List ℕ) (x : Recent) (s : Controller)
    → answers_of x ≡ remembered_in form op octets (answers_of s.recent)
    → (size : ℕ) (pool : List ℕ) → view (put_recent x s) size pool ≡ remembered form op octets (view s size pool)
recent_view Complete op octets x s e size pool = ap (λ (l : List (List ℕ)). with_recent l (view s size pool)) e
recent_view Status op octets x s e size pool = ap (λ (l : List (List ℕ)). with_recent l (view s size pool)) e
recent_view Silent op octets x s e size pool = ap (λ (l : List (List ℕ)). with_recent l (view s size pool)) e

-- x are the last answers then
finishes : {num op : ℕ} (a : AnswerModel) (s : Controller) (x : Recent) {out after : List ℕ} {n : ℕ}
    → (answers_of x ≡ remembered_in a.form op a.octets (answers_of s.recent)) × (x.count ≤ 32)
    → Put out 0 (octets_of num op a) n after
    → Finished num op a s out (told_of s (record { counters = s.counters; settings = s.settings; recent = x; written = n })) after
finishes {op = op} a s x kept put = record {
  number = refl;
  viewed = recent_view a.form op a.octets x s kept.0;
  written = put;
  held = λ k h. holds_recent h kept.1;
}

pub finishes_from : {num op : ℕ} (a : AnswerModel) (counters : Counters) (settings : Settings) (recent x : Recent)
    {out after : List ℕ} {n : ℕ}
    → (answers_of x ≡ remembered_in a.form op a.octets (answers_of recent)) × (x.count ≤ 32)
    → Put out 0 (octets_of num op a) n after
    → FinishedFrom counters settings recent num op a out
    (record { counters = counters; settings = settings; recent = x; written = n }) after
finishes_from a counters settings recent x kept put = λ s c t r. rw (sym c, sym t) (finishes a s x (rw (sym r) at kept) put)

-- the outcome f, with v the state after it
pub gave : {f : Model → Outcome} {k : ControllerRow} {op : ℕ} {s v : Controller} {a : AnswerModel} {out after : List ℕ} {r : Told}
    → ((size : ℕ) (pool : List ℕ)
    → outcome a (view v size pool) ≡ f (with_counters (count_command s.counters) (view s size pool)))
    → StateHolds v k → Finished k.num_command_packets op a v out r after → Gave f k op s out r after
gave {k = k} {op = op} same held end = record {
  number = end.number;
  viewed = λ size pool. end.viewed size pool ∙ ap (λ (o : Outcome). (after_answer op o).state) (same size pool);
  written = λ size pool. rw (sym (ap (λ (o : Outcome). o.answer) (same size pool))) end.written;
  held = end.held k held;
}

-- ---- a command that is carried out, from the part of the state that its row changes

abbrev told_in : Controller → Noted → Told
told_in z n = record { number = 0; state = z; written = n.written }

pub shaped_given : {k : ControllerRow} {address : List ℕ} {random : ℕ} {p : List ℕ} → ShapedProfile k → length address ≡ 6
    → Shaped (given k address random p)
shaped_given shaped long = record {
  commands = shaped.commands;
  features = shaped.features;
  states = shaped.states;
  address = long;
}

module _ {k : ControllerRow} {op : ℕ} {s u : Controller} {part : Part} {p out : List ℕ} (can : CanCarry s k op part p out)
    (begun : u ≡ begun_from op s) where
  -- what the function of the part counts on
  pub can_dispatch : Ready u k × (sized op (rows_of part) (length p) ≡ true)
  can_dispatch = (begun_ready op s begun can.ready, row_fits (length p) can.listed can.sized)

  -- put is how the part that the row changes is put into the state
  module _ (address : List ℕ) (random : ℕ) (put : Controller → Controller) (a : Answer)
      (gives : Gives ((find op (rows_of part)).does (given k address random p)) k u (put u) a) where
    listed : Gives ((find op rows).does (given k address random p)) k u (put u) a
    listed = row_gives can.listed gives

    -- the answer is that of a row, so it fits
    pub can_finish : length address ≡ 6 → CanFinish (put u).recent a out
    can_finish long =
        let modest = rows_modest (given k address random p) (shaped_given can.shaped long) op (view u 0 []) in
        record {
          few = gives.held.recent;
          modest = rw (ap (λ (o : Outcome). o.answer) (listed.viewed 0 [])) modest;
          room = can.room;
        }

    -- all that the command began with is noted, so the part may as well be put into the state before it
    pub carried : (n : Noted)
        → noted_in n.counters n.settings n.recent (put (begun_from op s)) ≡ noted_in n.counters n.settings n.recent (put s)
        → {after : List ℕ}
        → FinishedFrom (put u).counters (put u).settings (put u).recent k.num_command_packets op (answer_of a) out n after
        → Gave (carried_by (given k address random p) op) k op s out (told_of (put s) n) after
    carried n same end =
        rw (ap (λ (z : Controller). told_of (put z) n) begun ∙ ap (λ (z : Controller). told_in z n) same)
        at (gave {f = carried_by (given k address random p) op} {s = s}
        (λ size pool.
        listed.viewed size pool ∙ ap ((find op rows).does (given k address random p)) (begun_view op s begun size pool))
        listed.held (end (put u) refl refl refl))

-- a command that changes no part puts none
abbrev pub no_part : Controller → Controller
no_part s = s

-- an address for the commands that tell none
abbrev pub no_address : List ℕ
no_address = 0 ∷ 0 ∷ 0 ∷ 0 ∷ 0 ∷ 0 ∷ []
