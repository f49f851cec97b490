-- What a command packet gives, from what `command` gives: one that is read whole is answered by its course, one that is cut short
-- does nothing. For `on_packet`.
use Rattle.std.specs.Prelude.{Result, Ok}
use mathlib.Core.Path.{◌≡◌, refl, sym, ap, ◌∙◌}
use Prim.Native.Nat.{ℕ}
use mathlib.Core.List.{List, []}
use lib.ListN.{length, drop, length-drop}
use lib.Seq.{length-take-le}
use native.Mathlib.Omega.{arith}
use Rattle.octets.specs.Octets.{octet}
use Rattle.octets.proofs.Writing.{put_none}
use Rattle.hci.specs.Read.{parse_command, parameters}
use Rattle.hci.specs.declared.read.Command.{Command}
use Rattle.hci.proofs.Readers.{command_tells}
use Rattle.profile.specs.Profile.{row_answer}
use Rattle.state.specs.State.{Model, view, count_command}
use Rattle.state.specs.Holding.{StateHolds}
use Rattle.state.specs.declared.Controller.{Controller}
use Rattle.commands.specs.Parts.{with_counters}
use Rattle.commands.specs.Outcome.{Outcome, Given, given}
use Rattle.commands.specs.Command.{by_row}
use Rattle.commands.specs.Command as whole
use Rattle.command.specs.declared.Told.{Told}
use Rattle.dispatch.specs.declared.Part.{Part}
use Rattle.command.specs.declared.course.Reason.{Reason}
use Rattle.command.specs.Calling.{Gave}
use Rattle.calls.specs.Packets.{Profile, Reply, reply, by_command}
use Rattle.receive.specs.Receiving.{IsCommand, Carries}

-- as many parameters as the length says
pub params_long : (p : List ℕ) {it : Command} → parse_command p ≡ Ok it → length (parameters p) ≡ it.len
params_long p read =
    let tells = command_tells p read in
    simp (length-take-le (octet p 3) (drop 4 p) (simp length-drop (omega (arith, tells.long, tells.present)))) (sym tells.long)

module _ {g : Profile} {address : List ℕ} {random : ℕ} {p : List ℕ} {s t : Controller} {out : List ℕ} {n : ℕ} where
  -- the definition does nothing, and the code neither
  pub carries_none : ((m : Model) → by_command (parse_command p) g address random p m ≡ reply [] m) → (t ≡ s) × (n ≡ 0)
      → StateHolds s g.controller → Carries g address random p s t out n out
  carries_none quiet same held = record {
    viewed =
        λ size pool.
        ap (λ (x : Controller). view x size pool) same.0 ∙ sym (ap (λ (x : Reply). x.state) (quiet (view s size pool)));
    written = λ size pool. rw (quiet (view s size pool), same.1) (put_none (omega arith));
    together = rw same.0 held;
  }

-- the command's outcome f, by its course
module _ {g : Profile} {address : List ℕ} {random : ℕ} {p : List ℕ} {s : Controller} {out : List ℕ} where
  pub carries_course : {op : ℕ} {course : Result Part Reason} {r : Told} {after : List ℕ} (f : Given → Model → Outcome)
      → (c : IsCommand g.opcodes g.answers s.settings.advertising_family p op course)
      → ((h : Given) (m : Model) → length h.params ≡ c.it.len → m.settings.advertising_family ≡ s.settings.advertising_family
      → by_row h (row_answer g.opcodes g.answers op) op m ≡ f h m)
      → Gave (f (given g.controller address random (parameters p))) g.controller op s out r after
      → Carries g address random p s r.state out r.written after
  unfolding whole.command
  carries_course {op} f c by gave =
      let h = given g.controller address random (parameters p) in
      let same : (size : ℕ) (pool : List ℕ)
      → by_row h (row_answer g.opcodes g.answers op) op (with_counters (count_command s.counters) (view s size pool))
      ≡ f h (with_counters (count_command s.counters) (view s size pool)) =
      λ size pool. by h (with_counters (count_command s.counters) (view s size pool)) (params_long p c.read) refl in
      record {
        viewed = λ size pool. rw (c.read, c.opcode, same size pool) (gave.viewed size pool);
        written = λ size pool. rw (c.read, c.opcode, same size pool) (gave.written size pool);
        together = gave.held;
      }
