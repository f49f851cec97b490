-- A packet of the host follows a rule: data and commands theirs, and any other packet does nothing. For the proof of demand 3.
use Prim.Native.Nat.{ℕ}
use mathlib.Core.Path.{◌≡◌, refl, sym, ap, ◌∙◌}
use mathlib.Core.List.{List}
use mathlib.Core.Bool.{true, false}
use native.Mathlib.Omega.{arith}
use lib.Dec.{eqb, ltb}
use lib.ListN.{length}
use borrow.Author.Tests.{eqb-true}
use borrow.Table.Steps.{cases}
use Rattle.octets.specs.Octets.{octet}
use Rattle.lists.specs.Lists.{all}
use Rattle.hci.specs.Read.{parse_command}
use Rattle.profile.specs.Profile.{answers_fit}
use Rattle.profile.proofs.Limits.{rows_fit_lem, rows_answer}
use Rattle.state.specs.State.{Model}
use Rattle.calls.specs.Packets.{Profile}
use Rattle.calls.specs.Packets as packets
use Rattle.calls.specs.Calls.{on_packet, Held, model_of, questions}
use Rattle.calls.specs.Gives.{Answer, Gives}
use Rattle.calls.proofs.Questions.{all_yes}
use Rattle.credits.specs.Credits as book
use Rattle.credits.specs.Steps as steps
use Rattle.agreement.specs.Agreement.{packet_fed, command_fed, Typed, TypedProfile}
use Rattle.agreement.proofs.Rules.{Good, FollowsRule}
use Rattle.agreement.proofs.Splitting.{fed_nothing}
use Rattle.agreement.proofs.ByDefinition.{by_events}
use Rattle.agreement.proofs.Replying.{ReplyFollows}
use Rattle.agreement.proofs.DataFollows.{data_follows}
use Rattle.agreement.proofs.CommandFollows.{command_follows}

-- no command begins with another octet than 1
no_command : (g : Profile) (p : List ℕ) → eqb (octet p 0) 0x01 ≡ false → command_fed (parse_command p) g p ≡ book.Packet.other
unfolding parse_command
no_command g p e = rw e (cases (ltb (length p) 4) (λ short. rw short) (λ short. rw short))

reply_follows : (g : Profile) → TypedProfile g.controller → answers_fit g.opcodes g.answers ≡ true
    → (address : List ℕ) → length address ≡ 6 → (random : ℕ) (p : List ℕ) → all (λ x. ltb x 256) p ≡ true → (m : Model)
    → ReplyFollows g (packet_fed g p) m (packets.on_packet g address random p m)
unfolding packets.on_packet
reply_follows g typed fit address six random p octets m =
    cases (eqb (octet p 0) 0x01)
    (λ one. rw (eqb-true (octet p 0) 0x01 one) (command_follows g typed fit address six random p m octets))
    (λ one. rw one (cases (eqb (octet p 0) 0x02)
    (λ two. rw two (data_follows g p m))
    (λ two. rw two (steps.Step.pass (ap (λ (q : book.Packet). steps.may_pass (book.Call.packet q)) (no_command g p one)) refl
    (rw fed_nothing)))))

-- the call, whose second question was about the rows
pub packet_follows : (g : Profile) → TypedProfile g.controller
    → (address : List ℕ) (random : ℕ) (p : List ℕ) {s t : Held} {a : Answer}
    → Typed (on_packet address random p) → Good g s → Gives g (on_packet address random p) s t a → a.number ≡ 0
    → FollowsRule g (on_packet address random p) s t a
packet_follows g typed address random p {s} {t} {a} args good gives zero =
    let asked = all_yes (questions g (on_packet address random p) s a.before) (sym gives.number ∙ zero) in
    let rows = ((asked (omega arith)).1 (omega arith)).0 in
    let fit = rows_answer (rows_fit_lem g.opcodes g.answers g.bits rows) in
    by_events g (on_packet address random p) gives zero refl
    (reply_follows g typed fit address args.0 random p args.1 (model_of g s))
