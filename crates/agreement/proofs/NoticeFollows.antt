-- Each accepted call other than a packet from the host follows a rule of credits: the link's notices, and a take. For the proof
-- of demand 3.
use Prim.Native.Nat.{ℕ, ◌+◌, ◌-◌, ◌*◌, ◌/◌, ◌%◌}
use mathlib.Core.Path.{◌≡◌, refl, sym, ap, ◌∙◌}
use mathlib.Core.Bool.{Bool, true, false, cond}
use mathlib.Core.List.{List, [], ◌∷◌, ◌++◌}
use mathlib.Core.Logic.{inl, inr}
use native.Mathlib.Omega.{arith}
use lib.Dec.{eqb}
use lib.ListN.{length}
use borrow.Author.Tests.{eqb-true}
use borrow.Table.Steps.{cases}
use Rattle.octets.specs.Octets.{le}
use Rattle.hci.specs.Packet.{event, pairs, completed_params}
use Rattle.answers.specs.Answers.{AnswerModel, silent, octets_of}
use Rattle.links.specs.Links.{has, can_open, ended, after_taking, settled, new_connection}
use Rattle.state.specs.State.{Model}
use Rattle.commands.specs.Following.{event_if, enabled_by}
use Rattle.commands.specs.Outcome.{Outcome, outcome}
use Rattle.commands.specs.Parts.{with_links}
use Rattle.notices.specs.Notices.{tells, open_connection, accept_connection, peer_update, request_ltk, advertising_timeout}
use Rattle.notices.specs.Notices.{drop_in_flight, completed, disconnected, remote_disconnect, complete_disconnect}
use Rattle.notices.specs.Tells.{AtMostOne, Tells}
use Rattle.notices.proofs.Telling.{accept_connection_tells, peer_update_tells, request_ltk_tells, advertising_timeout_tells}
use Rattle.calls.specs.Packets.{Profile}
use Rattle.calls.specs.Calls.{Call, Held, model_of, questions}
use Rattle.calls.specs.Gives.{Answer, Gives}
use Rattle.calls.proofs.Questions.{all_yes}
use Rattle.credits.specs.Credits as book
use Rattle.credits.specs.Credits.{Buffers}
use Rattle.credits.specs.Steps as steps
use Rattle.agreement.specs.Agreement.{events_fed, reports, Word, Typed, buffers_of, limits_of}
use Rattle.agreement.proofs.Rules.{FollowsRule}
use Rattle.agreement.proofs.Splitting.{fed_nothing, fed_one}
use Rattle.agreement.proofs.Links.{has_handle_lem, can_open_lem, given_follows, ended_follows, opened_follows, taken_follows}
use Rattle.agreement.proofs.Links.{settled_follows, parameters_follow, requested_follows}
use Rattle.agreement.proofs.ByDefinition.{seen, answered, by_definition, by_events}

-- ---- what the book reads of a notice's events

-- the octets of an outcome's events
abbrev told : Outcome → List ℕ
told o = octets_of 0 0 o.answer

-- nothing of an LE Meta event
meta_fed : (octets : List ℕ) → AtMostOne 0x3E octets → events_fed octets ≡ []
meta_fed octets (inl e) = rw e fed_nothing
meta_fed octets (inr x) = rw x.same (fed_one 0x3E x.params)

quiet : (o : Outcome) → Tells 0x3E o → events_fed (told o) ≡ []
quiet o w = ap (λ (a : AnswerModel). events_fed (octets_of 0 0 a)) w.silent ∙ meta_fed o.answer.then w.event

-- two octets of a number below 65,536 are read back
read_back : (n : ℕ) → Word n → n % 256 + 256 * (n / 256 % 256) ≡ n
read_back n h = omega arith

-- of Number Of Completed Packets its handle and its count
report_fed : (h n : ℕ) → Word h → Word n
    → events_fed (event 0x13 (completed_params (h ∷ []) (n ∷ []))) ≡ book.Event.report h n ∷ []
unfolding pairs reports
report_fed h n p q =
    fed_one 0x13 (completed_params (h ∷ []) (n ∷ []))
    ∙ rw (read_back h p, read_back n q)

-- of Disconnection Complete its handle
end_fed : (h reason : ℕ) → Word h → events_fed (event 0x05 (0x00 ∷ le 2 h ++ reason ∷ [])) ≡ book.Event.disconnected h ∷ []
end_fed h reason p = fed_one 0x05 (0x00 ∷ le 2 h ++ reason ∷ []) ∙ rw (read_back h p)

-- where the mask lets it through
end_read : (h reason : ℕ) (enabled : Bool) → Word h
    → events_fed (event_if enabled 0x05 (0x00 ∷ le 2 h ++ reason ∷ [])) ≡ cond enabled (book.Event.disconnected h ∷ []) []
end_read h reason true p = end_fed h reason p
end_read h reason false p = fed_nothing

-- ---- the definitions, each by its rule

-- an outcome of a state m follows a rule; `opens` says whether it opens a link
abbrev Rule : Profile → book.Call → Bool → Model → Outcome → Type 0
Rule g c opens m o =
    steps.Step (limits_of g) c (seen m) (seen o.state)
    (record { accepted = true; opened = opens; events = events_fed (told o); taken = 0 })

-- the same answer, with the events read
heard : (opens : Bool) (o : Outcome) {es : List book.Event} → events_fed (told o) ≡ es
    → ◌≡◌ {A = book.Answer} (record { accepted = true; opened = opens; events = events_fed (told o); taken = 0 })
    (record { accepted = true; opened = opens; events = es; taken = 0 })
heard opens o e = ap (λ (x : List book.Event). record { accepted = true; opened = opens; events = x; taken = 0 }) e

-- other buffers, and the mask as it was
moved : (m : Model) {b c : Buffers} → b ≡ c → steps.at b (seen m) ≡ steps.at c (seen m)
moved m e = ap (λ (b : Buffers). steps.at b (seen m)) e

module _ (g : Profile) (m : Model) where
  -- open_connection, accept_connection: the handle is present, or a place is free
  open_rule : (h interval latency timeout : ℕ) → Word h → can_open h m.links.connections ≡ true
      → Rule g (book.Call.opening h) true m (open_connection h interval latency timeout m)
  unfolding open_connection
  open_rule h interval latency timeout w room =
      steps.Step.connect h refl w (can_open_lem h m.links ∙ room)
      (moved m (opened_follows (new_connection h interval latency timeout) m.links))
      (heard true (open_connection h interval latency timeout m) fed_nothing)

  accept_rule : (h kind : ℕ) (peer : List ℕ) (interval latency timeout accuracy : ℕ) → Word h → length peer ≡ 6
      → can_open h m.links.connections ≡ true
      → Rule g (book.Call.opening h) true m (accept_connection h kind peer interval latency timeout accuracy m)
  unfolding accept_connection
  accept_rule h kind peer interval latency timeout accuracy w six room =
      let o = accept_connection h kind peer interval latency timeout accuracy m in
      steps.Step.connect h refl w (can_open_lem h m.links ∙ room)
      (moved m (opened_follows (new_connection h interval latency timeout) m.links))
      (heard true o (quiet o (accept_connection_tells h kind peer interval latency timeout accuracy m six)))

  -- peer_update, request_ltk, advertising_timeout: no handle changes, and no event is one that the book reads
  quiet_rule : (o : Outcome) → seen o.state ≡ seen m → Tells 0x3E o → Rule g book.Call.other false m o
  quiet_rule o same w = steps.Step.pass refl same (heard false o (quiet o w))

  update_rule : (h interval latency timeout : ℕ) → Rule g book.Call.other false m (peer_update h interval latency timeout m)
  unfolding peer_update
  update_rule h interval latency timeout =
      quiet_rule (peer_update h interval latency timeout m)
      (cases (has h m.links.connections) (λ e. rw e (moved m (parameters_follow h interval latency timeout m.links))) (λ e. rw e))
      (peer_update_tells h interval latency timeout m)

  key_rule : (h : ℕ) (random : List ℕ) (diversifier : ℕ) → length random ≡ 8
      → Rule g book.Call.other false m (request_ltk h random diversifier m)
  unfolding request_ltk
  key_rule h random diversifier eight =
      quiet_rule (request_ltk h random diversifier m)
      (cases (has h m.links.connections) (λ e. rw e (moved m (requested_follows h 1 m.links))) (λ e. rw e))
      (request_ltk_tells h random diversifier m eight)

  timeout_rule : Rule g book.Call.other false m (advertising_timeout m)
  unfolding advertising_timeout
  timeout_rule = quiet_rule (advertising_timeout m) refl (advertising_timeout_tells m)

  -- completed, drop_in_flight: none leaves the number in flight
  complete_rule : (h n : ℕ) → Word h → Word n → Rule g (book.Call.completed h n) false m (completed h n m)
  unfolding completed
  complete_rule h n w v =
      let o = outcome (tells (event 0x13 (completed_params (h ∷ []) (n ∷ [])))) (with_links (settled n m.links) m) in
      cases (eqb n 0)
      (λ e.
      let none : m.links.in_flight ≡ m.links.in_flight - n = omega (arith, eqb-true n 0 e) in
      rw e
      (steps.Step.complete h n refl
      (ap (λ (k : ℕ). steps.at (record { handles = (buffers_of m).handles; waiting = (buffers_of m).waiting; in_flight = k })
      (seen m)) none)
      (rw e (heard false (outcome silent m) fed_nothing))))
      (λ e.
      rw e
      (steps.Step.complete h n refl (moved m (settled_follows n m.links)) (rw e (heard false o (report_fed h n w v)))))

  discard_rule : (n : ℕ) → Rule g (book.Call.dropping n) false m (drop_in_flight n m)
  unfolding drop_in_flight
  discard_rule n =
      steps.Step.discard n refl (moved m (settled_follows n m.links)) (heard false (drop_in_flight n m) fed_nothing)

  -- remote_disconnect, complete_disconnect: an unknown handle ends nothing
  end_rule : (h reason : ℕ) → Word h → Rule g book.Call.other false m (disconnected h reason m)
  end_rule h reason w =
      let enabled = enabled_by m.masks.event 4 in
      let o = outcome (tells (event_if enabled 0x05 (0x00 ∷ le 2 h ++ reason ∷ []))) (with_links (ended h m.links) m) in
      cases (has h m.links.connections)
      (λ e.
      rw e
      (steps.Step.disconnect h refl (has_handle_lem h m.links ∙ e) (moved m (ended_follows h m.links))
      (heard false o (end_read h reason enabled w))))
      (λ e. rw e (steps.Step.pass refl refl (heard false (outcome silent m) fed_nothing)))

-- ---- the calls

-- each accepted call c follows a rule
abbrev pub Follows : Profile → Call → Type 0
Follows g c = (s t : Held) (a : Answer) → Typed c → Gives g c s t a → a.number ≡ 0 → FollowsRule g c s t a

-- a take: its octets are packets
take_rule : (g : Profile) (m : Model) (h most : ℕ)
    → steps.Step (limits_of g) (book.Call.taking h) (seen m) (seen (with_links (after_taking h most m.links) m))
    (answered (Call.take_transmit h most) [] m)
take_rule g m h most =
    steps.Step.take h most refl (moved m (taken_follows h most m.links)) (rw (given_follows h most m.links, fed_nothing))

module _ (g : Profile) where
  pub take_follows : (h most : ℕ) → Follows g (Call.take_transmit h most)
  take_follows h most s t a w x z =
      by_definition g (Call.take_transmit h most) x z [] refl (take_rule g (model_of g s) h most)

  pub open_follows : (h interval latency timeout : ℕ) → Follows g (Call.open_connection h interval latency timeout)
  open_follows h interval latency timeout s t a w x z =
      let c = Call.open_connection h interval latency timeout in
      let asked = all_yes (questions g c s a.before) (sym x.number ∙ z) in
      by_events g c x z refl
      (open_rule g (model_of g s) h interval latency timeout w (((asked (omega arith)).1 (omega arith)).1 (omega arith)).0)

  pub accept_follows : (h : ℕ) (is_random : Bool) (peer : List ℕ) (interval latency timeout accuracy : ℕ)
      → Follows g (Call.accept_connection h is_random peer interval latency timeout accuracy)
  accept_follows h is_random peer interval latency timeout accuracy s t a w x z =
      let c = Call.accept_connection h is_random peer interval latency timeout accuracy in
      let asked = all_yes (questions g c s a.before) (sym x.number ∙ z) in
      by_events g c x z refl
      (accept_rule g (model_of g s) h (cond is_random 1 0) peer interval latency timeout accuracy w.0 w.1
      ((((asked (omega arith)).1 (omega arith)).1 (omega arith)).1 (omega arith)).0)

  pub update_follows : (h interval latency timeout : ℕ) → Follows g (Call.peer_update h interval latency timeout)
  update_follows h interval latency timeout s t a w x z =
      let c = Call.peer_update h interval latency timeout in
      by_events g c x z refl (update_rule g (model_of g s) h interval latency timeout)

  pub key_follows : (h : ℕ) (random : List ℕ) (diversifier : ℕ) → Follows g (Call.request_ltk h random diversifier)
  key_follows h random diversifier s t a w x z =
      let c = Call.request_ltk h random diversifier in
      by_events g c x z refl (key_rule g (model_of g s) h random diversifier w.1)

  pub timeout_follows : Follows g Call.advertising_timeout
  timeout_follows s t a w x z =
      by_events g Call.advertising_timeout x z refl (timeout_rule g (model_of g s))

  pub complete_follows : (h n : ℕ) → Follows g (Call.completed h n)
  complete_follows h n s t a w x z =
      let c = Call.completed h n in
      by_events g c x z refl (complete_rule g (model_of g s) h n w.0 w.1)

  pub discard_follows : (n : ℕ) → Follows g (Call.drop_in_flight n)
  discard_follows n s t a w x z =
      by_events g (Call.drop_in_flight n) x z refl (discard_rule g (model_of g s) n)

  pub acknowledged_follows : (h : ℕ) → Follows g (Call.complete_disconnect h)
  unfolding complete_disconnect
  acknowledged_follows h s t a w x z =
      by_events g (Call.complete_disconnect h) x z refl
      (end_rule g (model_of g s) h 0x16 w)

  pub remote_follows : (h reason : ℕ) → Follows g (Call.remote_disconnect h reason)
  unfolding remote_disconnect
  remote_follows h reason s t a w x z =
      let c = Call.remote_disconnect h reason in
      by_events g c x z refl (end_rule g (model_of g s) h reason w)
