-- What a link is asked to have, and how the answers to commands about a link follow from it. For the contracts of this crate.
use Rattle.std.specs.Prelude.{◌≡◌, ℕ, List, Result, Ok, Err, ok_or, cond, eqb, not}
use Rattle.octets.specs.Octets.{word}
use Rattle.answers.specs.declared.Answer.{Answer}
use Rattle.answers.specs.Answers.{AnswerModel, answer_of, followed}
use Rattle.links.specs.declared.Connection.{Connection}
use Rattle.links.specs.declared.Links.{Links}
use Rattle.links.specs.declared.Timing.{Timing}
use Rattle.links.specs.Links.{has}
use Rattle.links.specs.Look.{connection_of}
use Rattle.links.specs.Change.{Changes}
use Rattle.links.specs.Fields.{with_parameters}
use Rattle.state.specs.declared.Controller.{Controller}
use Rattle.commands.specs.Status.{success}
use Rattle.commands.specs.Outcome.{done_handle}
use Rattle.commands.specs.Following.{update_complete}
use Rattle.commands.specs.Checks.{data_length_valid}
use Rattle.commands.specs.Link.{update_valid}
use Rattle.commands.specs.declared.error.ErrorCode.{ErrorCode}
use Rattle.commands.specs.declared.error.ErrorCode.TheVariants as error

-- the timing that the parameters p ask for, of the connections cs: the parameters are tested first, then the handle
abbrev pub asked : List ℕ → List Connection → Result Timing ErrorCode
asked p cs =
    cond (not (update_valid p)) (Err error.InvalidParameters)
    (cond (has (word p 0) cs) (Ok (record { interval = word p 2; latency = word p 6; timeout = word p 8 }))
    (Err error.UnknownConnection))

-- the link of a handle has a timing in r, and the event follows the answer a in b
pub record Applied (handle : ℕ) (timing : Timing) (s : Controller) (a : Answer) (r : Links) (b : Answer) : Type 0 where
  pub changed : Changes handle (with_parameters timing.interval timing.latency timing.timeout) s.links r
  pub same : answer_of b ≡ followed (update_complete s.masks handle timing.interval timing.latency timing.timeout) (answer_of a)

-- the connection of cs that the parameters p of Set Data Length ask for: the values are tested first, then the handle
abbrev pub data_length_asked : List ℕ → List Connection → Result Connection ErrorCode
data_length_asked p cs =
    cond (not (data_length_valid (word p 2) (word p 4))) (Err error.InvalidParameters)
    (ok_or (connection_of (word p 0) cs) error.UnknownConnection)

-- a reply to a request for a link's long term key with its status, and the event behind it where that is success
abbrev pub key_replied : ℕ → List ℕ → ℕ → AnswerModel
key_replied handle event code = cond (eqb code success) (followed event (done_handle code handle)) (done_handle code handle)
