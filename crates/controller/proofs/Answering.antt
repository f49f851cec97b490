-- The contracts of the calls from their steps: a refused call changes nothing; a notice that was accepted gives what the notice's
-- function gives, and what it tells the host stands in the buffer. For the calls of `controller`.
use mathlib.Core.Path.{◌≡◌, refl, sym, ap, ◌∙◌}
use Prim.Native.Nat.{ℕ, ◌≤◌}
use native.Mathlib.Nat.{not-suc-le-zero}
use native.Mathlib.Omega.{arith}
use mathlib.Core.Bool.{Bool}
use mathlib.Core.List.{List, []}
use lib.ListN.{length}
use Rattle.octets.specs.Octets.{splice, Put}
use Rattle.profile.specs.declared.ControllerRow.{ControllerRow}
use Rattle.answers.specs.declared.Answer.{Answer}
use Rattle.answers.specs.Answers.{AnswerModel, answer_of, octets_of, silent}
use Rattle.state.specs.State.{Model, view}
use Rattle.state.specs.Holding.{state_holds, StateHolds, place_size}
use Rattle.state.specs.declared.Controller.{Controller}
use Rattle.commands.specs.Outcome.{Outcome, GivesAny}
use Rattle.notices.specs.Tells.{Tells}
use Rattle.notices.proofs.Telling.{Alone}
use Rattle.calls.specs.Packets.{Reply}
use Rattle.calls.specs.Calls.{Call, held, first_no, questions, told, reply_to, taken_by}
use Rattle.calls.specs.Gives.{PoolLeft, GivesAnyPool, plain, events, profile_of}
use Rattle.controller.specs.declared.refusal.Refusal.{Refusal}
use Rattle.controller.specs.Asked.{number_of, about_events, CanTell}
use Rattle.controller.proofs.Asking.{some, events_asked, has_room}

-- n is what the call's questions give, whatever it does not take
abbrev pub Asks : ControllerRow → Call → Controller → List ℕ → ℕ → Type 0
Asks k c s out n =
    (pool opcodes answers bits : List ℕ) → n ≡ first_no (questions (profile_of k opcodes answers bits) c (held s pool) out)

-- a refused call changes nothing
pub gives_refused : {k : ControllerRow} {c : Call} {s t : Controller} {out : List ℕ} {number written : ℕ} (refusal : Refusal)
    → Asks k c s out (number_of refusal) → (number ≡ number_of refusal) × (t ≡ s) × (written ≡ 0)
    → GivesAnyPool k c s t (events number written out out)
gives_refused refusal asks same =
    rw (same.0, same.1, same.2)
    (λ pool opcodes answers bits. record {
      number = asks pool opcodes answers bits;
      refused = λ p. record { same = refl; buffer = refl; nothing = (refl, refl) };
      accepted = λ e. absurd (some refusal e);
    })

-- the call gives what the notice f tells, takes no packet and leaves the pool
abbrev pub Notices : (Model → Outcome) → ControllerRow → Call → Controller → Controller → Type 0
Notices f k c s t =
    (pool opcodes answers bits : List ℕ)
    → (reply_to (profile_of k opcodes answers bits) c (view s (place_size k) pool) ≡ told (f (view s (place_size k) pool)))
    × (taken_by c (view s (place_size k) pool) ≡ 0)
    × PoolLeft (profile_of k opcodes answers bits) c (held s pool) (held t pool)

-- events of one kind have no acknowledgement before them
pub alone : {code : ℕ} {f : Model → Outcome} → ((m : Model) → Tells code (f m)) → (m : Model) → Alone (f m)
alone told m = record { silent = (told m).silent }

module _ {f : Model → Outcome} {k : ControllerRow} {s t : Controller} {a : Answer} (gives : GivesAny f s t a)
    (holds : StateHolds s k) where
  answered : (size : ℕ) (pool : List ℕ) → answer_of a ≡ (f (view s size pool)).answer
  answered size pool = ap (λ (o : Outcome). o.answer) ((gives k holds).viewed size pool)

  pub can_tell : {out : List ℕ} → ((m : Model) → Alone (f m)) → 71 ≤ length out → CanTell a out
  can_tell quiet room = record {
    alone = ap (λ (x : AnswerModel). x.octets) (answered 0 [] ∙ (quiet (view s 0 [])).silent);
    room = room;
  }

  pub gives_told : {c : Call} {out after : List ℕ} {n : ℕ} → Notices f k c s t → Asks k c s out 0
      → Put out 0 (octets_of 0 0 (answer_of a)) n after → GivesAnyPool k c s t (events 0 n out after)
  gives_told notices asks put pool opcodes answers bits =
      let same = notices pool opcodes answers bits in
      let size = place_size k in
      record {
        number = asks pool opcodes answers bits;
        refused = λ p. absurd (not-suc-le-zero p);
        accepted = λ e. record {
          viewed = ap (λ (o : Outcome). o.state) ((gives k holds).viewed size pool) ∙ sym (ap (λ (r : Reply). r.state) same.0);
          written = rw (ap (λ (r : Reply). r.octets) same.0 ∙ sym (ap (octets_of 0 0) (answered size pool))) put;
          counted = sym same.1;
          together = (gives k holds).held;
          pool = same.2;
        };
      }

  -- a notice that tells the host nothing, without a buffer
  pub gives_silent : {c : Call} → Notices f k c s t → Asks k c s [] 0 → ((m : Model) → (f m).answer ≡ silent)
      → GivesAnyPool k c s t (plain 0)
  unfolding splice
  gives_silent notices asks nothing =
      let none : octets_of 0 0 (answer_of a) ≡ [] = ap (octets_of 0 0) (answered 0 [] ∙ nothing (view s 0 [])) in
      gives_told notices asks (rw none (record { room = omega arith; next = refl; leaves = refl }))

-- a notice that asks questions 1, 3 and 5, and whose call asks no others
module _ (k : ControllerRow) {f : Model → Outcome} {s t : Controller} {a : Answer} (gives : GivesAny f s t a) {holds : Bool}
    {out : List ℕ} (same : holds ≡ state_holds s k) (zero : 0 ≡ about_events k holds (length out)) where
  pub event_fits : ((m : Model) → Alone (f m)) → CanTell a out
  event_fits quiet =
      let yes = events_asked k s out same zero in
      can_tell gives yes.held quiet (has_room out yes.rest).1

  pub event_told : {c : Call} {u : Controller} {after : List ℕ} {number n : ℕ} → Notices f k c s t
      → Asks k c s out (about_events k (state_holds s k) (length out)) → number ≡ 0 → u ≡ t
      → Put out 0 (octets_of 0 0 (answer_of a)) n after → GivesAnyPool k c s u (events number n out after)
  event_told notices asks none state put =
      rw (none, state)
      (gives_told gives (events_asked k s out same zero).held notices
      (λ pool opcodes answers bits. rw same at zero ∙ asks pool opcodes answers bits) put)
