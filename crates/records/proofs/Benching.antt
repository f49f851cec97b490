-- One call of the controller with the bench's profile, and what is printed for it: its number is the refusal of the definitions,
-- the state after it still holds together, and its octets and number, printed, are what the definitions print. For the functions
-- that make a call.
use mathlib.Core.Path.{◌≡◌, refl, sym, ap, subst, ◌∙◌}
use mathlib.Core.List.{List, [], flatten}
use mathlib.Core.Bool.{Bool, true, cond}
use Prim.Native.Nat.{ℕ, ◌*◌, ◌≤◌}
use native.Mathlib.Omega.{arith}
use lib.Dec.{eqb, lit≤}
use lib.ListN.{length, take, replicate, length-map, length-take, length-append}
use borrow.Author.Tests.{le-leb, eq-eqb, ne_eqb, eqb-true, eqb-false}
use borrow.Table.Steps.{cases}
use Rattle.octets.proofs.Writing.{put_front, put_front_long}
use Rattle.h4.specs.Framing.{packets}
use Rattle.h4.proofs.Reading.{packet_size}
use Rattle.h4.proofs.Splitting.{packets_none, packets_front, by_packets, none_there}
use Rattle.profile.specs.declared.ControllerRow.{ControllerRow}
use Rattle.links.specs.declared.Links.{Links}
use Rattle.links.specs.Links.{view, in_use}
use Rattle.links.specs.Holding.{LinksHold}
use Rattle.state.specs.State.{Model}
use Rattle.state.specs.declared.Controller.{Controller}
use Rattle.state.specs.Holding.{StateHolds}
use Rattle.state.proofs.Holding.{state_tested}
use Rattle.calls.specs.Packets.{Reply, reply}
use Rattle.calls.specs.Calls.{Call, on_packet, take_transmit, open_connection, completed, drop_in_flight, accept_connection}
use Rattle.calls.specs.Calls.{peer_update, request_ltk, complete_disconnect, remote_disconnect, advertising_timeout, Held, held}
use Rattle.calls.specs.Calls.{model_of, first_no, questions_of, reply_to}
use Rattle.calls.specs.Gives.{Answer, Gives, GivesAnyRows, profile_of}
use Rattle.records.specs.Lines.{hex_line, done_line}
use Rattle.bench_profile.specs.Bench.{bench_controller}
use Rattle.records.specs.Bench.{bench, refusal, letter, answer_lines, reply_lines, printed_with, Running, Prints}
use Rattle.records.proofs.Printing.{length_line}
use Rattle.records.proofs.Printing.{lines_for}

-- ---- the questions

-- a pool of 64 octets or more has room, as one of 64 has
pool_asked : (c : Call) (pool : ℕ) (m : Model) (room : ℕ) → 64 ≤ pool
    → questions_of bench c true pool m room ≡ questions_of bench c true 64 m room
pool_asked (on_packet address random p) pool m room h = rw (le-leb 64 pool h)
pool_asked (take_transmit handle most) pool m room h = rw (le-leb 64 pool h)
pool_asked (open_connection handle interval latency timeout) pool m room h = refl
pool_asked (completed handle count) pool m room h = refl
pool_asked (drop_in_flight count) pool m room h = refl
pool_asked (accept_connection handle is_random peer interval latency timeout accuracy) pool m room h = refl
pool_asked (peer_update handle interval latency timeout) pool m room h = refl
pool_asked (request_ltk handle random diversifier) pool m room h = refl
pool_asked (complete_disconnect handle) pool m room h = refl
pool_asked (remote_disconnect handle reason) pool m room h = refl
pool_asked advertising_timeout pool m room h = refl

-- ---- what is printed

module _ (c : Call) (m : Model) (room : ℕ) where
  printed_accepted : refusal c m room ≡ 0 → printed_with room c m
      ≡ reply (reply_lines c (reply_to bench c m)) (reply_to bench c m).state
  unfolding printed_with
  printed_accepted e = rw (eq-eqb (refusal c m room) 0 e)

  printed_refused : (refusal c m room ≡ 0 → ⊥) → printed_with room c m ≡ reply (done_line (refusal c m room) (in_use m.links)) m
  unfolding printed_with
  printed_refused e = rw (ne_eqb (refusal c m room) 0 e)

-- the lines of packets take at most three characters for each octet
pub lines_long : (x : ℕ) (p : List ℕ) → length (lines_for x (packets p)) ≤ 3 * length p
unfolding flatten
lines_long x =
    by_packets (λ p. length (lines_for x (packets p)) ≤ 3 * length p) (λ p e. rw (packets_none p e) (omega arith))
    (λ p q e h.
    rw (packets_front p q e)
    (omega (
      arith,
      length-append p q,
      length-append (hex_line x p) (lines_for x (packets q)),
      length_line x p,
      packet_size p
          (length p) e,
      h,
    )))

-- an answer without octets is one line
pub no_packets : (x number used : ℕ) → answer_lines x [] number used ≡ done_line number used
unfolding flatten
no_packets x number used = rw (packets_none [] none_there)

-- ---- a call

-- the buffer that the bench lends, or any other where the call lends none, has room as the definitions say
abbrev pub Lends : Call → Model → List ℕ → Type 0
Lends c m buffer = questions_of bench c true 64 m (length buffer)
    ≡ questions_of bench c true 64 m (cond (eqb (letter c) 88) 64 71)

module _ {c : Call} {s t : Held} {a : Answer} (runs : Running s) (gives : Gives bench c s t a) where
  -- the number of the call is that of the definitions
  number_is : Lends c (model_of bench s) a.before → a.number ≡ refusal c (model_of bench s) (cond (eqb (letter c) 88) 64 71)
  number_is lends =
      let m = model_of bench s in
      gives.number
      ∙ ap (λ (holds : Bool). first_no (questions_of bench c holds (length s.pool) m (length a.before)))
      (state_tested s.state bench_controller runs.together)
      ∙ ap first_no (pool_asked c (length s.pool) m (length a.before) runs.places ∙ lends)

  -- the state after it holds together
  pub still_together : StateHolds t.state bench_controller
  still_together =
      cases (eqb a.number 0)
      (λ e. (gives.accepted (eqb-true a.number 0 e)).together)
      (λ e.
      let z : a.number ≡ 0 → ⊥ = eqb-false a.number 0 e in
      rw (gives.refused (omega arith)).same runs.together)

  -- what it wrote is in the buffer
  pub written_long : length (take a.written a.after) ≡ a.written
  written_long =
      cases (eqb a.number 0)
      (λ e. put_front_long (gives.accepted (eqb-true a.number 0 e)).written)
      (λ e.
      let z : a.number ≡ 0 → ⊥ = eqb-false a.number 0 e in
      let none = (gives.refused (omega arith)).nothing.0 in
      rw (none))

  pub written_fits : a.written ≤ length a.after
  written_fits = omega (arith, written_long, length-take a.written a.after)

  -- its octets and its number are printed as the definitions say
  pub call_prints : Lends c (model_of bench s) a.before → 64 ≤ length t.pool → {text : List ℕ}
      → text ≡ answer_lines (letter c) (take a.written a.after) a.number (in_use (model_of bench t).links) → Prints c s t text
  call_prints lends room {text} is =
      let m = model_of bench s in
      let n = model_of bench t in
      let x = letter c in
      let y : ℕ = cond (eqb x 88) 64 71 in
      let octets = take a.written a.after in
      let runs_on : Running t = record { together = still_together; places = room } in
      cases (eqb a.number 0)
      (λ e.
      let z : a.number ≡ 0 = eqb-true a.number 0 e in
      let given = gives.accepted z in
      let d = printed_accepted c m y (sym (number_is lends) ∙ z) in
      record {
        viewed = given.viewed ∙ sym (ap (λ (k : Reply). k.state) d);
        written =
            is
            ∙ ap (λ (k : ℕ). answer_lines x octets k (in_use n.links)) z
            ∙ ap (λ (l : List ℕ). answer_lines x l 0 (in_use n.links)) (put_front given.written)
            ∙ ap (λ (k : Model). answer_lines x (reply_to bench c m).octets 0 (in_use k.links)) given.viewed
            ∙ sym (ap (λ (k : Reply). k.octets) d);
        running = runs_on;
      })
      (λ e.
      let z : a.number ≡ 0 → ⊥ = eqb-false a.number 0 e in
      let given = gives.refused (omega arith) in
      let d = printed_refused c m y (λ k. z (number_is lends ∙ k)) in
      let none : octets ≡ [] = ap (λ (k : ℕ). take k a.after) given.nothing.0 in
      record {
        viewed = ap (model_of bench) given.same ∙ sym (ap (λ (k : Reply). k.state) d);
        written =
            is
            ∙ ap (λ (l : List ℕ). answer_lines x l a.number (in_use n.links)) none
            ∙ no_packets x a.number (in_use n.links)
            ∙ ap (λ (k : ℕ). done_line k (in_use n.links)) (number_is lends)
            ∙ ap (λ (k : Held). done_line (refusal c m y) (in_use (model_of bench k).links)) given.same
            ∙ sym (ap (λ (k : Reply). k.octets) d);
        running = runs_on;
      })

-- a call with the bench's profile and rows, and one that takes no rows
module _ {k : ControllerRow} {c : Call} {s t : Held} {a : Answer} (e : k ≡ bench_controller) where
  pub with_rows : Gives (profile_of k bench.opcodes bench.answers bench.bits) c s t a → Gives bench c s t a
  with_rows gives = subst (λ (l : ControllerRow). Gives (profile_of l bench.opcodes bench.answers bench.bits) c s t a) e gives

  pub any_rows : GivesAnyRows k c s t a → Gives bench c s t a
  any_rows gives = with_rows (gives bench.opcodes bench.answers bench.bits)

-- a pool for the questions about a call that takes none
abbrev pub zeros : List ℕ
zeros = replicate 64 0

pub runs_with : {s : Controller} (pool : List ℕ) → StateHolds s bench_controller → 64 ≤ length pool → Running (held s pool)
runs_with pool h room = record { together = h; places = room }

pub runs_zeros : {s : Controller} → StateHolds s bench_controller → Running (held s zeros)
runs_zeros h = runs_with zeros h (lit≤ tt)

-- ---- how many buffers are in use

pub used_few : {l : Links} {places size : ℕ} → LinksHold l places size → (n : ℕ) (pool : List ℕ) → in_use (view l n pool) ≤ places
used_few {l} {places} h n pool =
    rw (length-map, length-take) (omega (arith, h.room))
