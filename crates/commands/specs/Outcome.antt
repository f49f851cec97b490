-- What a command gives: its answer, and the state after it. A command's definition is a function of what it is given and of
-- the state; `Gives` and `Answers` say that the code gives what a definition does. For every crate that has commands.
use Rattle.std.specs.Prelude.{◌≡◌, ℕ, List, [], ◌∷◌, Option, Some, None}
use Rattle.octets.specs.Octets.{le}
use Rattle.profile.specs.declared.ControllerRow.{ControllerRow}
use Rattle.profile.specs.Profile.{Limits}
use Rattle.answers.specs.declared.Answer.{Answer}
use Rattle.answers.specs.Answers.{AnswerModel, answer_of, complete}
use Rattle.links.specs.declared.Connection.{Connection}
use Rattle.state.specs.State.{Model, view}
use Rattle.state.specs.Holding.{StateHolds}
use Rattle.state.specs.declared.Controller.{Controller}

pub record Outcome : Type 0 where
  pub answer : AnswerModel
  pub state : Model

abbrev pub outcome : AnswerModel → Model → Outcome
outcome answer m = record { answer = answer; state = m }

-- what a command is given: the profile, the public address, a random number, and its parameters
pub record Given : Type 0 where
  pub profile : ControllerRow
  pub address : List ℕ
  pub random : ℕ
  pub params : List ℕ

abbrev pub given : ControllerRow → List ℕ → ℕ → List ℕ → Given
given profile address random params = record { profile = profile; address = address; random = random; params = params }

-- Command Complete with a status alone, and with a status and a handle
abbrev pub done : ℕ → AnswerModel
done code = complete (code ∷ [])

abbrev pub done_handle : ℕ → ℕ → AnswerModel
done_handle code handle = complete (code ∷ le 2 handle)

-- by cases: no link has the handle, or the connection that has it
abbrev pub at_link : {A : Type 0} → Option Connection → A → (Connection → A) → A
at_link None none some = none
at_link (Some c) none some = some c

-- the code's answer is the definition's
abbrev pub Answers : AnswerModel → Answer → Type 0
Answers expected a = answer_of a ≡ expected

-- the code gives the answer a and the state t where the definition f says so of the state s, whatever the pool holds; the new
-- state holds together
pub record Gives (f : Model → Outcome) (profile : ControllerRow) (s t : Controller) (a : Answer) : Type 0 where
  pub viewed : (size : ℕ) (pool : List ℕ) → outcome (answer_of a) (view t size pool) ≡ f (view s size pool)
  pub held : StateHolds t profile

-- the same for every profile that the state holds together for
abbrev pub GivesAny : (Model → Outcome) → Controller → Controller → Answer → Type 0
GivesAny f s t a = (k : ControllerRow) → StateHolds s k → Gives f k s t a

-- what a command's function may count on: questions 1 and 3 were answered
pub record Ready (s : Controller) (profile : ControllerRow) : Type 0 where
  pub limits : Limits profile
  pub holds : StateHolds s profile
