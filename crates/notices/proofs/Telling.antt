-- What the host hears of each notice: nothing, or one event of at most 37 octets. Disconnection Complete (0x05) comes of the
-- disconnects alone, Number Of Completed Packets (0x13) of `completed` alone; the others tell LE Meta events (0x3E). For the
-- controller's calls, and for the theorem about lists of calls.
use mathlib.Core.Path.{◌≡◌, refl}
use Prim.Native.Nat.{ℕ, ◌≤◌}
use native.Mathlib.Omega.{arith}
use mathlib.Core.Bool.{Bool, true, false, cond}
use mathlib.Core.List.{List, [], ◌∷◌, ◌++◌}
use mathlib.Core.Logic.{inl, inr}
use lib.Dec.{eqb, lit≤}
use lib.ListN.{length, replicate, length-append}
use Rattle.octets.specs.Octets.{le}
use Rattle.hci.specs.Packet.{event, meta_params, completed_params, pairs}
use Rattle.answers.specs.Answers.{silent}
use Rattle.links.specs.Links.{has}
use Rattle.state.specs.State.{Model, le_event_enabled}
use Rattle.state.specs.declared.Masks.{Masks}
use Rattle.commands.specs.Outcome.{Outcome, outcome}
use Rattle.commands.specs.Following.{enabled_by, le_meta_event, connection_complete, connection_failed}
use Rattle.notices.specs.Notices.{tells, open_connection, accept_connection, peer_update, request_ltk}
use Rattle.notices.specs.Notices.{advertising_timeout, drop_in_flight, completed, disconnected, remote_disconnect}
use Rattle.notices.specs.Notices.{complete_disconnect}
use Rattle.notices.specs.Tells.{AtMostOne, Tells}

-- ---- events

module _ {code : ℕ} where
  no_event : AtMostOne code []
  no_event = inl refl

  one_event : (params : List ℕ) → length params ≤ 34 → AtMostOne code (event code params)
  one_event params h = inr (record { params = params; short = h; same = refl })

  event_cond : (b : Bool) {x y : List ℕ} → AtMostOne code x → AtMostOne code y → AtMostOne code (cond b x y)
  event_cond true h k = h
  event_cond false h k = k

le_one : (masks : Masks) (subevent : ℕ) (params : List ℕ) → length params ≤ 33
    → AtMostOne 0x3E (le_meta_event masks subevent params)
unfolding le_meta_event
le_one masks subevent params h =
    event_cond (le_event_enabled masks subevent) (one_event (meta_params subevent params) (omega arith)) no_event

failed_one : (masks : Masks) (code : ℕ) → AtMostOne 0x3E (connection_failed masks code)
unfolding connection_failed connection_complete
failed_one masks code = search (event_cond, one_event, le_one, lit≤, tt)

connection_one : (masks : Masks) (head tail sets : List ℕ) → length head ≡ 11 → length tail ≡ 7 → length sets ≡ 3
    → AtMostOne 0x3E (connection_complete masks head tail sets)
unfolding connection_complete
connection_one masks head tail sets h t three =
    event_cond (le_event_enabled masks 0x29)
    (one_event (meta_params 0x29 (head ++ replicate 12 0 ++ tail ++ sets)) (simp (length-append, h, t, three) (omega arith)))
    (event_cond (le_event_enabled masks 0x0A)
    (one_event (meta_params 0x0A (head ++ replicate 12 0 ++ tail)) (simp (length-append, h, t) (omega arith)))
    (le_one masks 0x01 _ (simp (length-append, h, t) (omega arith))))

-- ---- answers

module _ {code : ℕ} {m : Model} where
  told : {octets : List ℕ} → AtMostOne code octets → Tells code (outcome (tells octets) m)
  told (inl e) = record { silent = refl; short = rw e (omega arith); event = inl e }
  told (inr x) = record { silent = refl; short = rw x.same (omega (arith, x.short)); event = inr x }

  nothing_told : Tells code (outcome silent m)
  nothing_told = told no_event

told_cond : {code : ℕ} (b : Bool) {x y : Outcome} → Tells code x → Tells code y → Tells code (cond b x y)
told_cond true h k = h
told_cond false h k = k

-- no acknowledgement, whatever event is behind it
pub record Alone (o : Outcome) : Type 0 where
  pub silent : o.answer ≡ tells o.answer.then

alone_cond : (b : Bool) {x y : Outcome} → Alone x → Alone y → Alone (cond b x y)
alone_cond true h k = h
alone_cond false h k = k

-- ---- the notices

pub open_connection_silent : (handle interval latency timeout : ℕ) (m : Model)
    → (open_connection handle interval latency timeout m).answer ≡ silent
unfolding open_connection
open_connection_silent handle interval latency timeout m = refl

pub accept_connection_tells : (handle kind : ℕ) (peer : List ℕ) (interval latency timeout accuracy : ℕ) (m : Model)
    → length peer ≡ 6
    → Tells 0x3E (accept_connection handle kind peer interval latency timeout accuracy m)
unfolding accept_connection
accept_connection_tells handle kind peer interval latency timeout accuracy m six =
    told (connection_one m.masks _ _ _ (omega arith) refl refl)

-- without an acknowledgement, however many octets the address has
pub accept_connection_alone : (handle kind : ℕ) (peer : List ℕ) (interval latency timeout accuracy : ℕ) (m : Model)
    → Alone (accept_connection handle kind peer interval latency timeout accuracy m)
unfolding accept_connection
accept_connection_alone handle kind peer interval latency timeout accuracy m = record { silent = refl }

pub peer_update_tells : (handle interval latency timeout : ℕ) (m : Model)
    → Tells 0x3E (peer_update handle interval latency timeout m)
unfolding peer_update
peer_update_tells handle interval latency timeout m =
    told_cond (has handle m.links.connections) (told (le_one m.masks 0x03 _ (omega arith))) nothing_told

pub request_ltk_tells : (handle : ℕ) (random : List ℕ) (diversifier : ℕ) (m : Model) → length random ≡ 8
    → Tells 0x3E (request_ltk handle random diversifier m)
unfolding request_ltk
request_ltk_tells handle random diversifier m eight =
    told_cond (has handle m.links.connections) (told (le_one m.masks 0x05 _ (simp (length-append, eight) (omega arith))))
    nothing_told

-- without an acknowledgement, however many octets the random number has
pub request_ltk_alone : (handle : ℕ) (random : List ℕ) (diversifier : ℕ) (m : Model)
    → Alone (request_ltk handle random diversifier m)
unfolding request_ltk
request_ltk_alone handle random diversifier m =
    alone_cond (has handle m.links.connections) (record { silent = refl }) (record { silent = refl })

pub advertising_timeout_tells : (m : Model) → Tells 0x3E (advertising_timeout m)
unfolding advertising_timeout
advertising_timeout_tells m = told (failed_one m.masks 0x3C)

pub drop_in_flight_silent : (count : ℕ) (m : Model) → (drop_in_flight count m).answer ≡ silent
unfolding drop_in_flight
drop_in_flight_silent count m = refl

pub completed_tells : (handle count : ℕ) (m : Model) → Tells 0x13 (completed handle count m)
unfolding completed pairs
completed_tells handle count m = told_cond (eqb count 0) nothing_told
    (told (one_event (completed_params (handle ∷ []) (count ∷ [])) (omega arith)))

disconnected_tells : (handle reason : ℕ) (m : Model) → Tells 0x05 (disconnected handle reason m)
disconnected_tells handle reason m =
    told_cond (has handle m.links.connections)
    (told (event_cond (enabled_by m.masks.event 4) (one_event (0x00 ∷ le 2 handle ++ reason ∷ []) (omega arith)) no_event))
    nothing_told

pub remote_disconnect_tells : (handle reason : ℕ) (m : Model) → Tells 0x05 (remote_disconnect handle reason m)
unfolding remote_disconnect
remote_disconnect_tells = disconnected_tells

pub complete_disconnect_tells : (handle : ℕ) (m : Model) → Tells 0x05 (complete_disconnect handle m)
unfolding complete_disconnect
complete_disconnect_tells handle = disconnected_tells handle 0x16
