-- A command's answer as mathematics: the source's `Answer`, its four forms, and the octets that it becomes (Core Vol 4 Part E
-- sections 4.4, 7.7.14 and 7.7.15). For the definitions of the commands.
use Rattle.std.specs.Prelude.{◌≡◌, ℕ, ◌+◌, ◌≤◌, List, [], ◌∷◌, ◌++◌, Option, Some, None, length, get_or}
use Rattle.hci.specs.Packet.{event, complete_params, status_params}
use Rattle.lists.specs.Held.{held}
use Rattle.lists.specs.declared.held.Held.{Held}
use Rattle.answers.specs.declared.Acknowledgement.{Acknowledgement}
use Rattle.answers.specs.declared.Acknowledgement.TheVariants as by
use Rattle.answers.specs.declared.Answer.{Answer}

-- how a command is acknowledged: by Command Complete, by Command Status, or not at all
pub data Form : Type 0 where
  Complete : Form
  Status : Form
  Silent : Form

-- the form, the return parameters or the status, and the octets of the event that follows, [] where none does
pub record AnswerModel : Type 0 where
  pub form : Form
  pub octets : List ℕ
  pub then : List ℕ

-- of an acknowledgement, its form and its octets
abbrev pub form_of : Acknowledgement → Form
form_of (by.Complete returned) = Complete
form_of (by.Status code) = Status
form_of by.Silent = Silent

abbrev pub told_by : Acknowledgement → List ℕ
told_by (by.Complete returned) = held returned
told_by (by.Status code) = code ∷ []
told_by by.Silent = []

-- the octets of an event, where there is one
abbrev pub event_of : {N : ℕ} → Option (Held ℕ N) → List ℕ
event_of (Some event) = held event
event_of None = []

abbrev pub answer_of : Answer → AnswerModel
answer_of a = record { form = form_of a.acknowledgement; octets = told_by a.acknowledgement; then = event_of a.then }

-- no event behind it
abbrev pub alone : Form → List ℕ → AnswerModel
alone form octets = record { form = form; octets = octets; then = [] }

-- Command Complete: the return parameters begin with the status
abbrev pub complete : List ℕ → AnswerModel
complete returned = alone Complete returned

-- Command Status
abbrev pub status : ℕ → AnswerModel
status code = alone Status (code ∷ [])

-- no acknowledgement
abbrev pub silent : AnswerModel
silent = alone Silent []

-- with an event behind it
abbrev pub followed : List ℕ → AnswerModel → AnswerModel
followed octets a = record { form = a.form; octets = a.octets; then = octets }

-- the octets of the events: num is how many command packets the host may send, op the opcode
abbrev pub acknowledgement : Form → ℕ → ℕ → List ℕ → List ℕ
acknowledgement Complete num op octets = event 0x0E (complete_params num op octets)
acknowledgement Status num op octets = event 0x0F (status_params num (get_or octets 0 0) op)
acknowledgement Silent num op octets = []

abbrev pub octets_of : ℕ → ℕ → AnswerModel → List ℕ
octets_of num op a = acknowledgement a.form num op a.octets ++ a.then

-- what an acknowledgement needs at least: Command Status has a status
abbrev pub least : Form → ℕ
least Complete = 0
least Status = 1
least Silent = 0

-- b is the answer a with these octets behind it
abbrev pub Follows : List ℕ → Answer → Answer → Type 0
Follows octets a b = answer_of b ≡ followed octets (answer_of a)

-- what writing an answer asks: room for its octets, and for the six that stand before them at most
abbrev pub CanWrite : Answer → List ℕ → Type 0
CanWrite a out = 6 + length (told_by a.acknowledgement) + length (event_of a.then) ≤ length out
