-- What `on_packet` promises where questions 1 to 5 have the answer "yes": what the functions that it calls count on, and the
-- call's contract by what the packet asks for. For `packets`.
use Rattle.std.specs.Prelude.{Result, Ok, Err}
use mathlib.Core.Path.{◌≡◌, sym, ap, ◌∙◌}
use Prim.Native.Nat.{ℕ, ◌*◌, ◌≤◌}
use mathlib.Core.Logic.{inl, inr}
use mathlib.Core.List.{List, [], ◌∷◌}
use native.Mathlib.Omega.{arith}
use lib.Dec.{leb}
use lib.ListN.{length}
use borrow.Author.Tests.{leb-true}
use Rattle.octets.specs.Octets.{octet}
use Rattle.hci.specs.Read.{parse_command, parameters}
use Rattle.profile.specs.declared.ControllerRow.{ControllerRow}
use Rattle.profile.specs.Profile.{within_limits, rows_fit}
use Rattle.profile.proofs.Limits.{within_limits_lem}
use Rattle.state.specs.Holding.{state_holds, place_size}
use Rattle.state.specs.declared.Controller.{Controller}
use Rattle.state.proofs.Holding.{state_told}
use Rattle.commands.specs.Outcome.{given, Ready}
use Rattle.dispatch.specs.declared.Part.{Part}
use Rattle.command.specs.declared.Told.{Told}
use Rattle.command.specs.declared.course.Reason.{Reason}
use Rattle.command.specs.Calling.{answered_by, carried_by, CanCarry, Gave}
use Rattle.calls.specs.Packets.{Profile}
use Rattle.calls.specs.Calls.{Call, on_packet, Held, held}
use Rattle.calls.specs.Gives.{Accepted, Gives, events, profile_of}
use Rattle.receive.specs.declared.Delivered.{Delivered}
use Rattle.receive.specs.Receiving.{IsCommand, parameters_of, Quiet, Delivers, put_delivered}
use Rattle.receive.proofs.Carrying.{params_long, carries_none, carries_course}
use Rattle.receive.proofs.Accepting.{accepted_command, accepted_data, accepted_nothing}
use Rattle.controller.specs.Answers.{told}
use Rattle.controller.specs.Asked.{question, about_packet, CanReceive}
use Rattle.controller.proofs.Asking.{first_yes}

-- questions 1 to 5 have the answer "yes"
pub can_receive : (k : ControllerRow) (opcodes answers bits : List ℕ) (s : Controller) (pool out : List ℕ)
    → 0 ≡ about_packet k opcodes answers bits (state_holds s k) (length pool) (length out) → CanReceive s k pool out
can_receive k opcodes answers bits s pool out e =
    let least = k.acl_count * place_size k in
    let five = question 5 (leb 71 (length out)) ∷ [] in
    let four = question 4 (leb least (length pool)) ∷ five in
    let three = question 3 (state_holds s k) ∷ four in
    let two = question 2 (rows_fit opcodes answers bits) ∷ three in
    let limits = first_yes 0 (within_limits k) two (sym e) in
    let rows = first_yes 1 (rows_fit opcodes answers bits) three limits.1 in
    let holds = first_yes 2 (state_holds s k) four rows.1 in
    let places = first_yes 3 (leb least (length pool)) five holds.1 in
    let room = first_yes 4 (leb 71 (length out)) [] places.1 in
    record {
      store = record {
        ready = record { limits = within_limits_lem k limits.0; holds = state_told s k holds.0 };
        places = leb-true least (length pool) places.0;
      };
      room = leb-true 71 (length out) room.0;
    }

-- the parameters of a command that was read whole
parameters_whole : {opcodes answers p q : List ℕ} {family op : ℕ} {c : Result Part Reason}
    → IsCommand opcodes answers family p op c → q ≡ parameters_of (parse_command p) p → q ≡ parameters p
parameters_whole c same = rw c.read at same

-- what a call gives that tells r, where the pool and the buffer are `left` and `after` then
abbrev pub GivesTold : Profile → Call → Held → List ℕ → Told → List ℕ → List ℕ → Type 0
GivesTold g c s out r left after = Gives g c s (held r.state left) (told r out after)

-- what the packet asks for decides
module _ {k : ControllerRow} {opcodes answers : List ℕ} (bits address : List ℕ) (random : ℕ) {p : List ℕ} {s : Controller}
    {pool out : List ℕ} (asked : 0 ≡ about_packet k opcodes answers bits (state_holds s k) (length pool) (length out)) where
  accepted : {t : Held} {number n : ℕ} {after : List ℕ} → number ≡ 0
      → Accepted (profile_of k opcodes answers bits) (on_packet address random p) (held s pool) t (events 0 n out after)
      → Gives (profile_of k opcodes answers bits) (on_packet address random p) (held s pool) t (events number n out after)
  accepted zero given = rw zero (record { number = asked; refused = λ h. absurd (omega arith); accepted = λ e. given })

  pub gives_nothing : {r : Told} → Quiet p → (r.number ≡ 0) × (r.state ≡ s) × (r.written ≡ 0)
      → GivesTold (profile_of k opcodes answers bits) (on_packet address random p) (held s pool) out r pool out
  gives_nothing quiet same =
      let together = (can_receive k opcodes answers bits s pool out asked).store.ready.holds in
      accepted same.0
      (elim quiet [
        | inl other ↦ accepted_nothing other.0 other.1 (same.1, same.2) together
        | inr short ↦
            accepted_command short.0
            (carries_none (short.1 (profile_of k opcodes answers bits) address random) (same.1, same.2) together)
      ])

  pub gives_data : {d : Delivered} {r : Told} {left : List ℕ} → octet p 0 ≡ 2
      → Delivers k p (held s pool) (held (put_delivered d s) left)
      → (r.number ≡ 0) × (r.written ≡ 0) × (r.state ≡ put_delivered d s)
      → GivesTold (profile_of k opcodes answers bits) (on_packet address random p) (held s pool) out r left out
  gives_data first does same = rw same.2 (accepted same.0 (accepted_data first same.1 does))

  module _ {op : ℕ} {r : Told} {after : List ℕ} where
    pub gives_answered : {reason : Reason} → IsCommand opcodes answers s.settings.advertising_family p op (Err reason)
        → Gave (answered_by reason k op) k op s out r after
        → GivesTold (profile_of k opcodes answers bits) (on_packet address random p) (held s pool) out r pool after
    gives_answered {reason} c does =
        accepted does.number (accepted_command c.first (carries_course (λ h. answered_by reason h.profile op) c c.courses does))

    pub gives_carried : {part : Part} {q : List ℕ} → IsCommand opcodes answers s.settings.advertising_family p op (Ok part)
        → q ≡ parameters_of (parse_command p) p → Gave (carried_by (given k address random q) op) k op s out r after
        → GivesTold (profile_of k opcodes answers bits) (on_packet address random p) (held s pool) out r pool after
    gives_carried c same does =
        accepted does.number
        (accepted_command c.first (carries_course (λ h. carried_by h op) c c.courses.2 (rw (parameters_whole c same) at does)))

-- what a command that is carried out counts on
pub can_carry : {k : ControllerRow} {opcodes answers p q out : List ℕ} {s : Controller} {op : ℕ} {part : Part} → Ready s k
    → length k.supported_commands ≡ 64 → length k.lmp_features ≡ 8 → length k.supported_states ≡ 8
    → 71 ≤ length out → IsCommand opcodes answers s.settings.advertising_family p op (Ok part)
    → q ≡ parameters_of (parse_command p) p → CanCarry s k op part q out
can_carry {p = p} ready commands features states room c same = record {
  ready = ready;
  shaped = record { commands = commands; features = features; states = states };
  listed = c.courses.0;
  sized = rw (ap length (parameters_whole c same) ∙ params_long p c.read) c.courses.1;
  room = room;
}
