-- How a command is answered, and what the functions of `command` count on and give. `Rattle.commands.specs.Command` says what a
-- command gives as a whole; here the same is said by its course. For `on_packet`.
use Rattle.std.specs.Prelude.{◌≡◌, ℕ, ◌≤◌, List, [], ◌∷◌, ◌++◌, Result, Ok, Err, Bool, true, cond, not, ◌&&◌, eqb, length, get_or}
use Rattle.octets.specs.Octets.{le, Put}
use Rattle.signed.specs.Signed.{octet_of}
use Rattle.profile.specs.declared.ControllerRow.{ControllerRow}
use Rattle.answers.specs.declared.Answer.{Answer}
use Rattle.answers.specs.Answers.{AnswerModel, Form, Complete, Status, Silent, answer_of, complete, octets_of}
use Rattle.state.specs.State.{Model, view, remember, count_command, count_unknown}
use Rattle.state.specs.Holding.{StateHolds}
use Rattle.state.specs.declared.Controller.{Controller}
use Rattle.state.specs.declared.Counters.{Counters}
use Rattle.state.specs.declared.Recent.{Recent}
use Rattle.state.specs.declared.Settings.{Settings}
use Rattle.commands.specs.Status.{success, unknown_command, command_disallowed, unsupported_feature, invalid_parameters}
use Rattle.commands.specs.Parts.{with_counters, with_advertising_family}
use Rattle.commands.specs.Put.{put_settings, put_counters, put_recent}
use Rattle.commands.specs.Outcome.{Outcome, outcome, done, Given, Ready}
use Rattle.commands.specs.Table.{find, sized, rows}
use Rattle.commands.specs.Command.{family_of, with_family, refused, unknown_counted, by_row, remembered, after_answer}
use Rattle.commands.specs.Leaves.{Modest}
use Rattle.dispatch.specs.declared.Part.{Part}
use Rattle.dispatch.specs.Parts.{rows_of}
use Rattle.command.specs.declared.Noted.{Noted}
use Rattle.command.specs.declared.Told.{Told}
use Rattle.command.specs.declared.course.Reason.{Reason}
use Rattle.command.specs.declared.course.Reason.TheVariants.{UnknownRow, NoRow, Vendor, OtherFamily, Unmodeled, BadParameters}

-- ---- parts of the state

-- the test of `other_family`, of the command's family and the state's
abbrev pub differs : ℕ → ℕ → Bool
differs family now = not (eqb family 0) && (not (eqb now 0) && not (eqb now family))

-- the settings with a command's family set, where it has one
abbrev pub family_in : ℕ → Settings → Settings
family_in op settings = cond (eqb (family_of op) 0) settings (with_advertising_family (family_of op) settings)

-- one command more, and its family set
abbrev pub begun_from : ℕ → Controller → Controller
begun_from op s = put_settings (family_in op s.settings) (put_counters (count_command s.counters) s)

-- the last answers with one more, unless there was no acknowledgement
abbrev pub remembered_in : Form → ℕ → List ℕ → List (List ℕ) → List (List ℕ)
remembered_in Complete op octets recent = remember (le 2 op ++ (get_or octets 0 0 ∷ [])) recent
remembered_in Status op octets recent = remember (le 2 op ++ (get_or octets 0 0 ∷ [])) recent
remembered_in Silent op octets recent = recent

-- ---- a command that is answered without being carried out

abbrev pub answer_for : Reason → ControllerRow → ℕ → AnswerModel
answer_for UnknownRow k op = done unknown_command
answer_for NoRow k op = refused op unknown_command
answer_for Vendor k op = done success
answer_for OtherFamily k op =
    cond (eqb op 0x2007) (complete (command_disallowed ∷ octet_of k.adv_tx_power ∷ [])) (refused op command_disallowed)
answer_for Unmodeled k op = refused op unsupported_feature
answer_for BadParameters k op = refused op invalid_parameters

-- the state after it, from the state with the command counted
abbrev pub state_for : Reason → ℕ → Model → Model
state_for UnknownRow op m = unknown_counted m
state_for NoRow op m = unknown_counted m
state_for Vendor op m = m
state_for OtherFamily op m = m
state_for Unmodeled op m = with_family op m
state_for BadParameters op m = with_family op m

abbrev pub answered_by : Reason → ControllerRow → ℕ → Model → Outcome
answered_by reason k op m = outcome (answer_for reason k op) (state_for reason op m)

-- the counters and the settings after it
abbrev pub counters_for : Reason → Counters → Counters
counters_for UnknownRow counters = count_unknown (count_command counters)
counters_for NoRow counters = count_unknown (count_command counters)
counters_for Vendor counters = count_command counters
counters_for OtherFamily counters = count_command counters
counters_for Unmodeled counters = count_command counters
counters_for BadParameters counters = count_command counters

abbrev pub settings_for : Reason → ℕ → Settings → Settings
settings_for UnknownRow op settings = settings
settings_for NoRow op settings = settings
settings_for Vendor op settings = settings
settings_for OtherFamily op settings = settings
settings_for Unmodeled op settings = family_in op settings
settings_for BadParameters op settings = family_in op settings

-- ---- a command that is carried out

-- what its row does, with its family set
abbrev pub carried_by : Given → ℕ → Model → Outcome
carried_by g op m = (find op rows).does g (with_family op m)

-- ---- the course: what the row's answer, the family of the state and the number of parameters make of the command. It is carried
-- out and changes a part of the state, or is answered at once for a reason

abbrev pub Courses : ℕ → ℕ → ℕ → ℕ → Result Part Reason → Type 0
Courses answer op now n (Err reason) =
    (g : Given) (m : Model) → length g.params ≡ n → m.settings.advertising_family ≡ now
    → by_row g answer op m ≡ answered_by reason g.profile op m
Courses answer op now n (Ok part) =
    (find op rows ≡ find op (rows_of part))
    × (sized op rows n ≡ true)
    × ((g : Given) (m : Model) → length g.params ≡ n → m.settings.advertising_family ≡ now
    → by_row g answer op m ≡ carried_by g op m)

-- ---- what the functions count on and give

-- the arrays of a profile have their lengths
pub record ShapedProfile (k : ControllerRow) : Type 0 where
  pub commands : length k.supported_commands ≡ 64
  pub features : length k.lmp_features ≡ 8
  pub states : length k.supported_states ≡ 8

-- what a call tells whose state is s but for what was noted
abbrev pub told_of : Controller → Noted → Told
told_of s n = record {
  number = 0;
  state = put_recent n.recent (put_settings n.settings (put_counters n.counters s));
  written = n.written;
}

-- questions 1, 3 and 5 were answered, and the opcode's row is of this part, with as many parameters as it says
pub record CanCarry (s : Controller) (k : ControllerRow) (op : ℕ) (part : Part) (p out : List ℕ) : Type 0 where
  pub ready : Ready s k
  pub shaped : ShapedProfile k
  pub listed : find op rows ≡ find op (rows_of part)
  pub sized : sized op rows (length p) ≡ true
  pub room : 71 ≤ length out

-- an answer that fits the buffer, which question 5 was asked of
pub record CanFinish (recent : Recent) (a : Answer) (out : List ℕ) : Type 0 where
  pub few : recent.count ≤ 32
  pub modest : Modest (answer_of a)
  pub room : 71 ≤ length out

-- the answer a of a command is remembered, and written to the front of the buffer, which is `after` then
pub record Finished (num op : ℕ) (a : AnswerModel) (s : Controller) (out : List ℕ) (r : Told) (after : List ℕ) : Type 0 where
  pub number : r.number ≡ 0
  pub viewed : (size : ℕ) (pool : List ℕ) → view r.state size pool ≡ remembered a.form op a.octets (view s size pool)
  pub written : Put out 0 (octets_of num op a) r.written after
  pub held : (k : ControllerRow) → StateHolds s k → StateHolds r.state k

-- the same of any state with these counters, settings and last answers, where n is noted
abbrev pub FinishedFrom : Counters → Settings → Recent → ℕ → ℕ → AnswerModel → List ℕ → Noted → List ℕ → Type 0
FinishedFrom counters settings recent num op a out n after =
    (s : Controller) → s.counters ≡ counters → s.settings ≡ settings → s.recent ≡ recent
    → Finished num op a s out (told_of s n) after

-- the outcome f of a command, from the state with the command counted: the answer is remembered, and written
pub record Gave (f : Model → Outcome) (k : ControllerRow) (op : ℕ) (s : Controller) (out : List ℕ) (r : Told)
    (after : List ℕ) : Type 0 where
  pub number : r.number ≡ 0
  pub viewed : (size : ℕ) (pool : List ℕ)
      → view r.state size pool ≡ (after_answer op (f (with_counters (count_command s.counters) (view s size pool)))).state
  pub written : (size : ℕ) (pool : List ℕ)
      → Put out 0 (octets_of k.num_command_packets op (f (with_counters (count_command s.counters) (view s size pool))).answer)
      r.written after
  pub held : StateHolds r.state k
