-- The bench: the rows beside document 01's profile, and what is printed for each line of input. For readers of the program
-- `bench` and of the C calls.
use Rattle.std.specs.Prelude.{◌≡◌, ℕ, ◌-◌, ◌≤◌, Bool, true, false, cond, leb, eqb, length, Option, IfSome}
use Rattle.std.specs.Option.{is_some}
use mathlib.Core.List.{List, [], ◌∷◌, ◌++◌, map, flatten}
use Rattle.h4.specs.Framing.{packets}
use Rattle.links.specs.Links.{in_use}
use Rattle.state.specs.State.{Model, default_model}
use Rattle.state.specs.Holding.{StateHolds}
use Rattle.state.specs.declared.Controller.{Controller}
use Rattle.commands.specs.Table as table
use Rattle.calls.specs.Packets.{Profile, Reply, reply}
use Rattle.calls.specs.Calls.{Call, on_packet, take_transmit, open_connection, completed, drop_in_flight, accept_connection}
use Rattle.calls.specs.Calls.{peer_update, request_ltk, complete_disconnect, remote_disconnect, advertising_timeout, Held, held}
use Rattle.calls.specs.Calls.{model_of, first_no, questions_of, reply_to}
use Rattle.bench_profile.specs.Bench.{bench_controller}
use Rattle.records.specs.declared.print.Text.{Text}
use Rattle.records.specs.Text.{text_of}
use Rattle.records.specs.Lines.{Line, calls, no_record, before, record_of, hex_line, done_line}

-- ---- the profile: `bench_controller` in `bench_profile/specs/Bench.antt`, with its rows

-- rows: each opcode that `param_len` names, modelled; 0x2036 unmodelled; 0x0C05 unknown; no bit numbers
abbrev pub bench : Profile
bench = record {
  controller = bench_controller;
  opcodes = map (λ r. r.opcode) table.rows ++ 0x2036 ∷ 0x0C05 ∷ [];
  answers = map (λ r. 0) table.rows ++ 1 ∷ 2 ∷ [];
  bits = map (λ r. 0xFFFF) table.rows ++ 0xFFFF ∷ 0xFFFF ∷ [];
}

-- ---- one call

-- the number of the first question with a "no", 0 where there is none, with a buffer of so many octets. The pool has 64 octets,
-- and the state always holds together
abbrev pub refusal : Call → Model → ℕ → ℕ
refusal c m room = first_no (questions_of bench c true 64 m room)

-- `E` 69 for events, `X` 88 for taken packets
abbrev pub letter : Call → ℕ
letter (on_packet address random p) = 69
letter (take_transmit h most) = 88
letter (open_connection h interval latency timeout) = 69
letter (completed h count) = 69
letter (drop_in_flight count) = 69
letter (accept_connection h is_random peer interval latency timeout accuracy) = 69
letter (peer_update h interval latency timeout) = 69
letter (request_ltk h random diversifier) = 69
letter (complete_disconnect h) = 69
letter (remote_disconnect h reason) = 69
letter advertising_timeout = 69

-- the lines of an answer: one for each packet of its octets, and the line that ends it
abbrev pub answer_lines : ℕ → List ℕ → ℕ → ℕ → List ℕ
answer_lines letter octets number used = flatten (map (hex_line letter) (packets octets)) ++ done_line number used

abbrev pub reply_lines : Call → Reply → List ℕ
reply_lines c r = answer_lines (letter c) r.octets 0 (in_use r.state.links)

-- what is printed for a call with a buffer of so many octets, and the state after it
unfoldable pub printed_with : ℕ → Call → Model → Reply
printed_with room c m =
    cond (eqb (refusal c m room) 0)
    (reply (reply_lines c (reply_to bench c m)) (reply_to bench c m).state)
    (reply (done_line (refusal c m room) (in_use m.links)) m)

-- 71 octets for events, 64 for taken packets
abbrev pub printed : Call → Model → Reply
printed c m = printed_with (cond (eqb (letter c) 88) 64 71) c m

-- ---- all lines

abbrev pub is_newline : ℕ → Bool
is_newline x = eqb x 10

-- the lines of some octets: each ends at a newline (10); what follows the last newline is a line too, unless it is empty
unfoldable pub lines_of : List ℕ → List (List ℕ)
lines_of [] = []
lines_of (x ∷ l) = cond (is_newline x) ([] ∷ lines_of l) (before x (lines_of l))

-- by cases: no record, or the call that a line asks for
abbrev pub at_line : {A : Type 0} → Line → A → (Call → A) → A
at_line no_record none some = none
at_line (calls c) none some = some c

-- what is printed for lines, from a state on, into a buffer with so many octets left; the first line that is no record ends the
-- run, and so does a line for whose answer less than 512 octets are left
unfoldable pub answers : ℕ → Model → List (List ℕ) → List ℕ
answers room m [] = []
answers room m (l ∷ ls) =
    at_line (record_of l) []
    (λ c. cond (leb 512 room)
    ((printed c m).octets ++ answers (room - length (printed c m).octets) (printed c m).state ls) [])

-- `H` 72: the header, format 1
abbrev pub header : List ℕ
header = 72 ∷ 9 ∷ 49 ∷ 10 ∷ []

-- ---- contracts

-- between two lines: the state holds together, and the pool has its two places
pub record Running (s : Held) : Type 0 where
  pub together : StateHolds s.state bench_controller
  pub places : 64 ≤ length s.pool

-- the call c was made, and this text is its answer
pub record Prints (c : Call) (s t : Held) (text : List ℕ) : Type 0 where
  pub viewed : model_of bench t ≡ (printed c (model_of bench s)).state
  pub written : text ≡ (printed c (model_of bench s)).octets
  pub running : Running t

-- the same of a call that takes no pool, whatever the pool holds
abbrev pub PrintsAnyPool : Call → Controller → Controller → List ℕ → Type 0
PrintsAnyPool c s t text = (pool : List ℕ) → 64 ≤ length pool → Prints c (held s pool) (held t pool) text

abbrev pub is_record : Line → Bool
is_record (calls c) = true
is_record no_record = false

-- one line: a record's call is made and printed; a line that is none changes nothing
pub record Steps (line : List ℕ) (s t : Held) (answer : Option Text) : Type 0 where
  pub asked : is_some answer ≡ is_record (record_of line)
  pub printed : (c : Call) → record_of line ≡ calls c → IfSome answer (λ text. Prints c s t (text_of text))
  pub ended : record_of line ≡ no_record → t ≡ s

-- all lines, from the default state; a buffer of less than 4 octets stays as it is
abbrev pub run_octets : ℕ → List ℕ → List ℕ
run_octets room input = cond (leb 4 room) (header ++ answers (room - 4) default_model (lines_of input)) []
