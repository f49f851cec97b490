-- The questions that several calls begin with, as numbers: 0, or the number of the first "no"; the refusals' numbers; and what
-- receiving a packet and writing a notice's event count on. For the inner functions of this crate; the contracts of the exported
-- calls are `Rattle.calls.specs.Gives`.
use Rattle.std.specs.Prelude.{◌≡◌, ℕ, ◌*◌, ◌≤◌, List, [], ◌∷◌, Bool, leb, length, Result, Ok, Err}
use Rattle.profile.specs.declared.ControllerRow.{ControllerRow}
use Rattle.profile.specs.Profile.{within_limits, rows_fit}
use Rattle.answers.specs.declared.Answer.{Answer}
use Rattle.answers.specs.Answers.{answer_of}
use Rattle.state.specs.Holding.{place_size}
use Rattle.state.specs.declared.Controller.{Controller}
use Rattle.calls.specs.Calls.{Question, first_no}
use Rattle.receive.specs.Receiving.{CanStore}
use Rattle.controller.specs.declared.refusal.Refusal.{Refusal}
use Rattle.controller.specs.declared.refusal.Refusal.TheVariants.{Profile, Rows, State, Pool, EventRoom, Handle, PacketRoom}

-- which question has a "no"
abbrev pub number_of : Refusal → ℕ
number_of Profile = 1
number_of Rows = 2
number_of State = 3
number_of Pool = 4
number_of EventRoom = 5
number_of Handle = 6
number_of PacketRoom = 7

-- of what a function gives that asks
abbrev pub refusal_number : {A : Type 0} → Result A Refusal → ℕ
refusal_number (Ok x) = 0
refusal_number (Err refusal) = number_of refusal

abbrev pub question : ℕ → Bool → Question
question n answer = record { number = n; yes = answer }

-- questions 1 and 3, where `holds` is the answer to the third, here and below
abbrev pub about_state : ControllerRow → Bool → ℕ
about_state k holds = first_no (question 1 (within_limits k) ∷ question 3 holds ∷ [])

-- 1, 3 and 5, with an event buffer of so many octets
abbrev pub about_events : ControllerRow → Bool → ℕ → ℕ
about_events k holds room = first_no (question 1 (within_limits k) ∷ question 3 holds ∷ question 5 (leb 71 room) ∷ [])

-- 1, 3 and 4, with a pool of so many octets
abbrev pub about_pool : ControllerRow → Bool → ℕ → ℕ
about_pool k holds pool =
    first_no (question 1 (within_limits k) ∷ question 3 holds ∷ question 4 (leb (k.acl_count * place_size k) pool) ∷ [])

-- 1 to 5
abbrev pub about_packet : ControllerRow → List ℕ → List ℕ → List ℕ → Bool → ℕ → ℕ → ℕ
about_packet k opcodes answers bits holds pool room =
    first_no (question 1 (within_limits k) ∷ question 2 (rows_fit opcodes answers bits) ∷ question 3 holds
    ∷ question 4 (leb (k.acl_count * place_size k) pool) ∷ question 5 (leb 71 room) ∷ [])

-- a notice's answer: its acknowledgement has no octets, the event behind it has at most 37 by its type, and the buffer is one
-- that question 5 was asked of
pub record CanTell (a : Answer) (out : List ℕ) : Type 0 where
  pub alone : (answer_of a).octets ≡ []
  pub room : 71 ≤ length out

-- what receiving a packet counts on: questions 1 to 5 were answered
pub record CanReceive (s : Controller) (profile : ControllerRow) (pool out : List ℕ) : Type 0 where
  pub store : CanStore s profile pool
  pub room : 71 ≤ length out
