-- A command from its opcode on: the row of the profile, the advertising family, the table of commands, the counters and the last
-- answers. Read beside the source's `command`. For callers of `command`, and for the theorem about lists of calls.
use Rattle.std.specs.Prelude.{◌≡◌, ℕ, ◌/◌, List, [], ◌∷◌, ◌++◌, Bool, cond, not, ◌&&◌, ◌||◌, eqb, length, get_or}
use Rattle.octets.specs.Octets.{le, Put}
use Rattle.hci.specs.Opcode.{is_async}
use Rattle.signed.specs.Signed.{octet_of}
use Rattle.profile.specs.Profile.{row_answer}
use Rattle.answers.specs.Answers.{AnswerModel, Form, Complete, Status, Silent, complete, status, octets_of}
use Rattle.state.specs.State.{Model, view, remember, count_command, count_unknown}
use Rattle.state.specs.Holding.{StateHolds}
use Rattle.state.specs.declared.Controller.{Controller}
use Rattle.commands.specs.Status.{success, unknown_command, command_disallowed, unsupported_feature, invalid_parameters}
use Rattle.commands.specs.Parts.{with_settings, with_counters, with_recent, with_advertising_family}
use Rattle.commands.specs.Outcome.{Outcome, outcome, done, Given}
use Rattle.commands.specs.Checks.{within}
use Rattle.commands.specs.Table.{rows, find, sized}

-- `advertising_family`, section 3.1.1 table 3.2: 1 legacy, 2 extended, 0 neither
unfoldable pub family_of : ℕ → ℕ
family_of op =
    cond (within 0x2006 0x200D op) 1
    (cond (within 0x2036 0x204A op || (eqb op 0x205C || eqb op 0x205D)) 2 0)

-- a command of one family after one of the other
unfoldable pub other_family : ℕ → Model → Bool
other_family op m =
    not (eqb (family_of op) 0)
    && (not (eqb m.settings.advertising_family 0)
    && not (eqb m.settings.advertising_family (family_of op)))

abbrev pub with_family : ℕ → Model → Model
with_family op m = cond (eqb (family_of op) 0) m (with_settings (with_advertising_family (family_of op) m.settings) m)

-- `refuse`, section 4.5: Command Status for an opcode that is acknowledged so, else Command Complete
unfoldable pub refused : ℕ → ℕ → AnswerModel
refused op code = cond (is_async op) (status code) (done code)

abbrev pub unknown_counted : Model → Model
unknown_counted m = with_counters (count_unknown m.counters) m

-- a modelled row: an opcode or a length that the table does not have is Invalid HCI Command Parameters
unfoldable pub modelled : Given → ℕ → Model → Outcome
modelled g op m =
    cond (sized op rows (length g.params)) ((find op rows).does g m) (outcome (refused op invalid_parameters) m)

-- a row that is modelled or not: the family is tested and set before anything of the command. 0x2007 adds the power
unfoldable pub listed_row : Given → ℕ → ℕ → Model → Outcome
listed_row g answer op m =
    cond (other_family op m)
    (outcome (cond (eqb op 0x2007) (complete (command_disallowed ∷ octet_of g.profile.adv_tx_power ∷ []))
    (refused op command_disallowed)) m)
    (cond (eqb answer 1) (outcome (refused op unsupported_feature) (with_family op m))
    (modelled g op (with_family op m)))

-- an opcode without a row: a vendor's succeeds
unfoldable pub rowless : ℕ → Model → Outcome
rowless op m =
    cond (eqb (op / 1024) 0x3F) (outcome (done success) m)
    (outcome (refused op unknown_command) (unknown_counted m))

-- by the row's answer: 0 modelled, 1 unmodelled, 2 unknown, 3 no row. An unknown row is always a Command Complete
unfoldable pub by_row : Given → ℕ → ℕ → Model → Outcome
by_row g answer op m =
    cond (eqb answer 2) (outcome (done unknown_command) (unknown_counted m))
    (cond (eqb answer 3) (rowless op m)
    (listed_row g answer op m))

-- opcode and status are remembered, unless there was no acknowledgement
abbrev pub remembered : Form → ℕ → List ℕ → Model → Model
remembered Complete op octets m = with_recent (remember (le 2 op ++ (get_or octets 0 0 ∷ [])) m.recent) m
remembered Status op octets m = with_recent (remember (le 2 op ++ (get_or octets 0 0 ∷ [])) m.recent) m
remembered Silent op octets m = m

abbrev pub after_answer : ℕ → Outcome → Outcome
after_answer op o = outcome o.answer (remembered o.answer.form op o.answer.octets o.state)

-- the answer of a row to an opcode, and the state after it
unfoldable pub command : Given → ℕ → ℕ → Model → Outcome
command g answer op m = after_answer op (by_row g answer op (with_counters (count_command m.counters) m))

-- the octets that it writes
abbrev pub command_octets : Given → ℕ → ℕ → Model → List ℕ
command_octets g answer op m = octets_of g.profile.num_command_packets op (command g answer op m).answer

-- what `command` gives: the state t, and n octets at the front of the buffer, which is `after` then
pub record Commands (g : Given) (opcodes answers : List ℕ) (op : ℕ) (s t : Controller)
    (out : List ℕ) (n : ℕ) (after : List ℕ) : Type 0 where
  pub viewed : (size : ℕ) (pool : List ℕ)
      → view t size pool ≡ (command g (row_answer opcodes answers op) op (view s size pool)).state
  pub written : (size : ℕ) (pool : List ℕ)
      → Put out 0 (command_octets g (row_answer opcodes answers op) op (view s size pool)) n after
  pub held : StateHolds t g.profile
