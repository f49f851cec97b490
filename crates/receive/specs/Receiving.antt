-- What a packet asks for, what receiving it counts on and what it gives. `Rattle.calls.specs.Gives` says what `on_packet` gives.
-- For the controller's `on_packet`, which has asked the questions.
use Rattle.std.specs.Prelude.{◌≡◌, ℕ, ◌*◌, ◌≤◌, List, [], Result, Ok, Err, ◌⊎◌, length}
use Rattle.octets.specs.Octets.{octet, Put}
use Rattle.hci.specs.Read.{parse_command, parameters, parse_acl}
use Rattle.hci.specs.declared.read.Command.{Command}
use Rattle.hci.specs.declared.read.ReadError.{ReadError}
use Rattle.profile.specs.declared.ControllerRow.{ControllerRow}
use Rattle.profile.specs.Profile.{row_answer}
use Rattle.state.specs.State.{Model, view}
use Rattle.state.specs.Holding.{StateHolds, place_size}
use Rattle.state.specs.declared.Controller.{Controller}
use Rattle.commands.specs.Outcome.{Ready}
use Rattle.commands.specs.Put.{put_links, put_counters}
use Rattle.dispatch.specs.declared.Part.{Part}
use Rattle.command.specs.declared.course.Reason.{Reason}
use Rattle.command.specs.Calling.{Courses}
use Rattle.calls.specs.Packets.{Profile, reply, accepts, stored, data_packet, by_command}
use Rattle.calls.specs.Calls.{Held}
use Rattle.calls.specs.Gives.{PoolAfter}
use Rattle.receive.specs.declared.Delivered.{Delivered}
use Rattle.receive.specs.declared.Task.{Task}
use Rattle.receive.specs.declared.Task.TheVariants as task

-- ---- what a packet asks for

-- a command packet p that is read whole, with this opcode, and its course, where `family` is the advertising family of the state
pub record IsCommand (opcodes answers : List ℕ) (family : ℕ) (p : List ℕ) (op : ℕ) (course : Result Part Reason) : Type 0 where
  pub first : octet p 0 ≡ 1
  pub it : Command
  pub read : parse_command p ≡ Ok it
  pub opcode : it.opcode ≡ op
  pub courses : Courses (row_answer opcodes answers op) op family it.len course

-- the parameters of a command that is read whole; nothing is read of another packet
abbrev pub parameters_of : Result Command ReadError → List ℕ → List ℕ
parameters_of (Ok it) p = parameters p
parameters_of (Err e) p = []

-- a packet of another kind, or a command that is cut short
abbrev pub Quiet : List ℕ → Type 0
Quiet p =
    ((octet p 0 ≡ 1 → ⊥) × (octet p 0 ≡ 2 → ⊥))
    ⊎ ((octet p 0 ≡ 1)
    × ((g : Profile) (address : List ℕ) (random : ℕ) (m : Model)
    → by_command (parse_command p) g address random p m ≡ reply [] m))

abbrev pub Tasks : List ℕ → List ℕ → ℕ → List ℕ → Task → Type 0
Tasks opcodes answers family p task.Nothing = Quiet p
Tasks opcodes answers family p task.Data = octet p 0 ≡ 2
Tasks opcodes answers family p (task.Answered op reason) = IsCommand opcodes answers family p op (Err reason)
Tasks opcodes answers family p (task.Carried op part) = IsCommand opcodes answers family p op (Ok part)

-- the task of a command with this opcode and so many parameters
abbrev pub CommandTask : List ℕ → List ℕ → ℕ → ℕ → ℕ → Task → Type 0
CommandTask opcodes answers family op n task.Nothing = ⊥
CommandTask opcodes answers family op n task.Data = ⊥
CommandTask opcodes answers family op n (task.Answered o reason) =
    (o ≡ op) × Courses (row_answer opcodes answers op) op family n (Err reason)
CommandTask opcodes answers family op n (task.Carried o part) =
    (o ≡ op) × Courses (row_answer opcodes answers op) op family n (Ok part)

-- ---- what it counts on and gives

-- questions 1, 3 and 4 were answered
pub record CanStore (s : Controller) (profile : ControllerRow) (pool : List ℕ) : Type 0 where
  pub ready : Ready s profile
  pub places : profile.acl_count * place_size profile ≤ length pool

-- the state with what a data packet changed
abbrev pub put_delivered : Delivered → Controller → Controller
put_delivered r s = put_counters r.counters (put_links r.links s)

-- a data packet p was queued or dropped
pub record Delivers (k : ControllerRow) (p : List ℕ) (s t : Held) : Type 0 where
  pub viewed : view t.state (place_size k) t.pool ≡ data_packet k p (view s.state (place_size k) s.pool)
  pub together : StateHolds t.state k
  pub pool : PoolAfter (accepts k (parse_acl p) (view s.state (place_size k) s.pool)) k (stored p) s t

-- a command packet p was carried out, or was cut short and did nothing
pub record Carries (g : Profile) (address : List ℕ) (random : ℕ) (p : List ℕ) (s t : Controller) (out : List ℕ) (n : ℕ)
    (after : List ℕ) : Type 0 where
  pub viewed : (size : ℕ) (pool : List ℕ)
      → view t size pool ≡ (by_command (parse_command p) g address random p (view s size pool)).state
  pub written : (size : ℕ) (pool : List ℕ)
      → Put out 0 (by_command (parse_command p) g address random p (view s size pool)).octets n after
  pub together : StateHolds t g.controller
