-- What the book hears of a command's answer: of a Command Complete with status 0 of Reset or of Set Event Mask what it is, of any
-- other acknowledgement nothing, and nothing of the event behind it. For the proof of demand 3.
use Prim.Native.Nat.{ℕ, ◌+◌, ◌*◌, ◌/◌, ◌%◌, ◌<◌}
use mathlib.Core.Path.{◌≡◌, ap, ◌∙◌}
use mathlib.Core.List.{List, [], ◌∷◌, ◌++◌, append-nil}
use mathlib.Core.Logic.{inl, inr}
use mathlib.Core.Bool.{true, cond, ◌&&◌}
use native.Mathlib.Omega.{arith}
use lib.Dec.{eqb}
use borrow.Author.Tests.{eqb-true}
use borrow.Table.Steps.{cases}
use Rattle.octets.specs.Octets.{octet}
use Rattle.hci.specs.Packet.{event, complete_params, status_params}
use Rattle.answers.specs.Answers.{AnswerModel, Form, Complete, Status, Silent, acknowledgement, octets_of}
use Rattle.commands.specs.Leaves.{follows_code, Follows}
use Rattle.credits.specs.Credits as book
use Rattle.agreement.specs.Agreement.{event_fed, events_fed}
use Rattle.agreement.proofs.Splitting.{fed_nothing, fed_one, fed_two}

-- what the book hears of an acknowledgement
abbrev pub ack_fed : Form → ℕ → List ℕ → List book.Event
ack_fed Complete op octets =
    cond (eqb op 0x0C03 && eqb (octet octets 0) 0) (book.Event.reset_done ∷ [])
    (cond (eqb op 0x0C01 && eqb (octet octets 0) 0) (book.Event.event_mask_set ∷ []) [])
ack_fed Status op octets = []
ack_fed Silent op octets = []

complete_fed : (num op : ℕ) (octets : List ℕ) → op < 0x10000
    → event_fed (event 0x0E (complete_params num op octets)) ≡ ack_fed Complete op octets
complete_fed num op octets small =
    let e : op % 256 + 256 * (op / 256 % 256) ≡ op = omega arith in
    rw e

-- an event that may stand behind an acknowledgement
behind_fed : (code : ℕ) (params : List ℕ) → follows_code code ≡ true → event_fed (event code params) ≡ []
behind_fed code params h =
    cases (eqb code 0x08) (λ a. rw (eqb-true code 0x08 a))
    (λ a. cases (eqb code 0x0C) (λ b. rw (eqb-true code 0x0C b))
    (λ b. cases (eqb code 0x3E) (λ c. rw (eqb-true code 0x3E c))
    (λ c. rw (eqb-true code 0x59 (rw (a, b, c) at h)))))

-- an event with nothing behind it, or one that may stand there
first_fed : (code : ℕ) (params then : List ℕ) → Follows then
    → events_fed (event code params ++ then) ≡ event_fed (event code params)
first_fed code params then (inl e) = rw (e, append-nil params) (fed_one code params)
first_fed code params then (inr o) =
    rw o.same (fed_two code params o.code o.params)
    ∙ ap (λ (l : List book.Event). event_fed (event code params) ++ l) (behind_fed o.code o.params o.allowed)
    ∙ append-nil (event_fed (event code params))

-- what stands behind no acknowledgement
alone_fed : (then : List ℕ) → Follows then → events_fed then ≡ []
alone_fed then (inl e) = rw e fed_nothing
alone_fed then (inr o) = rw o.same (fed_one o.code o.params ∙ behind_fed o.code o.params o.allowed)

form_fed : (form : Form) (num op : ℕ) (octets then : List ℕ) → op < 0x10000 → Follows then
    → events_fed (acknowledgement form num op octets ++ then) ≡ ack_fed form op octets
form_fed Complete num op octets then small h =
    first_fed 0x0E (complete_params num op octets) then h ∙ complete_fed num op octets small
form_fed Status num op octets then small h = first_fed 0x0F (status_params num (octet octets 0) op) then h
form_fed Silent num op octets then small h = alone_fed then h

pub answer_fed_lem : (num op : ℕ) (a : AnswerModel) → op < 0x10000 → Follows a.then
    → events_fed (octets_of num op a) ≡ ack_fed a.form op a.octets
answer_fed_lem num op a small h = form_fed a.form num op a.octets a.then small h
