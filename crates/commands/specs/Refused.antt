-- A command that may be refused: its function gives a part of the state as it is to be, or an error code. `YieldsAny` says that
-- this is what the command's definition gives. For the contracts of such functions.
use Rattle.std.specs.Prelude.{◌≡◌, ℕ, List, Result, Ok, Err}
use Rattle.std.specs.Result.{result_unwrap_or}
use Rattle.profile.specs.declared.ControllerRow.{ControllerRow}
use Rattle.answers.specs.Answers.{AnswerModel}
use Rattle.state.specs.State.{Model, view}
use Rattle.state.specs.Holding.{StateHolds}
use Rattle.state.specs.declared.Controller.{Controller}
use Rattle.commands.specs.Status.{success, unknown_connection, memory_capacity_exceeded, command_disallowed}
use Rattle.commands.specs.Status.{unsupported_feature, invalid_parameters}
use Rattle.commands.specs.Outcome.{Outcome, outcome}
use Rattle.commands.specs.declared.error.ErrorCode.{ErrorCode}
use Rattle.commands.specs.declared.error.ErrorCode.TheVariants as error

abbrev pub error_octet : ErrorCode → ℕ
error_octet error.UnknownConnection = unknown_connection
error_octet error.MemoryCapacityExceeded = memory_capacity_exceeded
error_octet error.CommandDisallowed = command_disallowed
error_octet error.UnsupportedFeature = unsupported_feature
error_octet error.InvalidParameters = invalid_parameters

-- the status of what a function gives
abbrev pub status_of : {P : Type 0} → Result P ErrorCode → ℕ
status_of (Ok x) = success
status_of (Err e) = error_octet e

-- the code gives a status, told in a form, and the state t where the definition f says so of the state s, whatever the pool
-- holds; the new state holds together
pub record GivesStatus (form : ℕ → AnswerModel) (f : Model → Outcome) (profile : ControllerRow) (s t : Controller) (code : ℕ)
    : Type 0 where
  pub viewed : (size : ℕ) (pool : List ℕ) → outcome (form code) (view t size pool) ≡ f (view s size pool)
  pub held : StateHolds t profile

-- what a command gives for a part of the state, which `put` puts back: refused, the part is as it was before
abbrev pub Yields : {P : Type 0} → (ℕ → AnswerModel) → (Model → Outcome) → ControllerRow → (P → Controller → Controller) → P
    → Controller → Result P ErrorCode → Type 0
Yields form f k put before s r = GivesStatus form f k s (put (result_unwrap_or r before) s) (status_of r)

abbrev pub YieldsAny : {P : Type 0} → (ℕ → AnswerModel) → (Model → Outcome) → (P → Controller → Controller) → P
    → Controller → Result P ErrorCode → Type 0
YieldsAny form f put before s r = (k : ControllerRow) → StateHolds s k → Yields form f k put before s r
