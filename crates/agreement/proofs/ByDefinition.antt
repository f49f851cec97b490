-- An accepted call as its definition gives it, without the code's arrays and buffers: what is to be shown of a definition so that
-- the call follows a rule of credits. For the proof of demand 3.
use Prim.Native.Nat.{ℕ}
use mathlib.Core.Path.{◌≡◌, sym, ap, subst, ◌∙◌}
use mathlib.Core.Bool.{true}
use mathlib.Core.List.{List}
use lib.Dec.{eqb}
use lib.ListN.{take}
use Rattle.octets.proofs.Writing.{put_front}
use Rattle.state.specs.State.{Model}
use Rattle.commands.specs.Following.{enabled_by}
use Rattle.calls.specs.Packets.{Profile}
use Rattle.calls.specs.Calls.{Call, Held, model_of, reply_to, taken_by}
use Rattle.calls.specs.Gives.{Answer, Gives}
use Rattle.credits.specs.Credits as book
use Rattle.credits.specs.Steps as steps
use Rattle.agreement.specs.Agreement.{call_fed, answer_fed, opens_link, event_octets, events_fed, buffers_of, limits_of}
use Rattle.agreement.proofs.Rules.{FollowsRule}

-- what the rules read of a state
abbrev pub seen : Model → steps.State
seen m = record { buffers = buffers_of m; unmasked = enabled_by m.masks.event 4 }

-- what the book is fed of an accepted call's answer, where its events are these octets
abbrev pub answered : Call → List ℕ → Model → book.Answer
answered c octets m = record { accepted = true; opened = opens_link c; events = events_fed octets; taken = taken_by c m }

-- what the contract says of an accepted call is what the definitions say
pub by_definition : (g : Profile) (c : Call) {s t : Held} {a : Answer} → Gives g c s t a → a.number ≡ 0 → (octets : List ℕ)
    → event_octets c a ≡ octets
    → steps.Step (limits_of g) (call_fed g c) (seen (model_of g s)) (seen (reply_to g c (model_of g s)).state)
    (answered c octets (model_of g s))
    → FollowsRule g c s t a
by_definition g c {s} {t} {a} x z octets e step =
    let y = x.accepted z in
    let m = model_of g s in
    let after : seen (model_of g t) ≡ seen (reply_to g c m).state = ap seen y.viewed in
    let fed : answer_fed c a ≡ answered c octets m =
    λ i. record { accepted = eqb (z i) 0; opened = opens_link c; events = events_fed (e i); taken = y.counted i } in
    subst (λ (u : steps.State). steps.Step (limits_of g) (call_fed g c) (seen m) u (answer_fed c a)) (sym after)
    (subst (λ (u : book.Answer). steps.Step (limits_of g) (call_fed g c) (seen m) (seen (reply_to g c m).state) u) (sym fed) step)

-- the same of a call that writes events: they are the octets of its definition
pub by_events : (g : Profile) (c : Call) {s t : Held} {a : Answer} → Gives g c s t a → a.number ≡ 0
    → event_octets c a ≡ take a.written a.after
    → steps.Step (limits_of g) (call_fed g c) (seen (model_of g s)) (seen (reply_to g c (model_of g s)).state)
    (answered c (reply_to g c (model_of g s)).octets (model_of g s))
    → FollowsRule g c s t a
by_events g c {s} x z e step =
    by_definition g c x z (reply_to g c (model_of g s)).octets (e ∙ put_front (x.accepted z).written) step
