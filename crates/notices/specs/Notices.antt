-- What the link tells the controller, and what the host hears of it (Core Vol 4 Part E section 7.7): each notice as a function of
-- the state, in the order of the source's functions. A notice has no acknowledgement; `tells` is its event, [] where the host has
-- masked it or there is none. For the controller's calls, and for the theorem about lists of calls.
use Rattle.std.specs.Prelude.{ℕ, List, [], ◌∷◌, ◌++◌, cond, eqb}
use Rattle.octets.specs.Octets.{le}
use Rattle.hci.specs.Packet.{event, completed_params}
use Rattle.answers.specs.Answers.{AnswerModel, silent, followed}
use Rattle.links.specs.Links.{new_connection, opened_last, ended, settled, changed, has}
use Rattle.links.specs.Fields.{with_parameters, with_ltk_requested}
use Rattle.state.specs.State.{Model}
use Rattle.commands.specs.Parts.{with_advertising, with_links, with_enabled}
use Rattle.commands.specs.Outcome.{Outcome, outcome}
use Rattle.commands.specs.Following.{event_if, enabled_by, le_meta_event, update_complete}
use Rattle.commands.specs.Following.{connection_tail, connection_complete, connection_failed}

abbrev pub tells : List ℕ → AnswerModel
tells octets = followed octets silent

-- a link opens with the defaults of a new LE connection; one with the handle ends first
unfoldable pub open_connection : ℕ → ℕ → ℕ → ℕ → Model → Outcome
open_connection handle interval latency timeout m =
    outcome silent (with_links (opened_last (new_connection handle interval latency timeout) m.links) m)

-- 7.7.65.5 LE Long Term Key Request: the request waits for a reply also where its event is masked
unfoldable pub request_ltk : ℕ → List ℕ → ℕ → Model → Outcome
request_ltk handle random diversifier m =
    cond (has handle m.links.connections)
    (outcome (tells (le_meta_event m.masks 0x05 (le 2 handle ++ random ++ le 2 diversifier)))
    (with_links (changed handle (with_ltk_requested 1) m.links) m))
    (outcome silent m)

-- 7.7.65.1 LE Connection Complete and 7.7.65.10 LE Enhanced Connection Complete begin with status, handle, role (0x01
-- peripheral) and the peer
abbrev pub connection_head : ℕ → ℕ → List ℕ → List ℕ
connection_head handle kind peer = 0x00 ∷ le 2 handle ++ 0x01 ∷ kind ∷ peer

-- a central's request to connect: advertising ends and the link opens, also where its event is masked, which has no advertising
-- set and no periodic sync
unfoldable pub accept_connection : ℕ → ℕ → List ℕ → ℕ → ℕ → ℕ → ℕ → Model → Outcome
accept_connection handle kind peer interval latency timeout accuracy m =
    outcome
    (tells (connection_complete m.masks (connection_head handle kind peer) (connection_tail interval latency timeout accuracy)
    (0xFF ∷ 0xFF ∷ 0xFF ∷ [])))
    (with_links (opened_last (new_connection handle interval latency timeout) m.links)
    (with_advertising (with_enabled 0 m.advertising) m))

-- 7.7.65.3 LE Connection Update Complete: the central changed a link's parameters; an unknown handle changes and tells nothing
unfoldable pub peer_update : ℕ → ℕ → ℕ → ℕ → Model → Outcome
peer_update handle interval latency timeout m =
    cond (has handle m.links.connections)
    (outcome (tells (update_complete m.masks handle interval latency timeout))
    (with_links (changed handle (with_parameters interval latency timeout) m.links) m))
    (outcome silent m)

-- 7.8.9: high duty cycle directed advertising ended unanswered, Advertising Timeout (0x3C)
unfoldable pub advertising_timeout : Model → Outcome
advertising_timeout m =
    outcome (tells (connection_failed m.masks 0x3C)) (with_advertising (with_enabled 0 m.advertising) m)

-- packets that the air took are gone with their link: their buffers are free, and the host is told nothing, since it takes the
-- buffers of an ended link for free (4.3)
unfoldable pub drop_in_flight : ℕ → Model → Outcome
drop_in_flight count m = outcome silent (with_links (settled count m.links) m)

-- 7.7.19 Number Of Completed Packets, of one link: the count as it was handed in, for any handle; none, nothing
unfoldable pub completed : ℕ → ℕ → Model → Outcome
completed handle count m =
    cond (eqb count 0) (outcome silent m)
    (outcome (tells (event 0x13 (completed_params (handle ∷ []) (count ∷ [])))) (with_links (settled count m.links) m))

-- 7.7.5 Disconnection Complete, Event_Mask bit 4: the link and what waits in it are gone (4.3)
abbrev pub disconnected : ℕ → ℕ → Model → Outcome
disconnected handle reason m =
    cond (has handle m.links.connections)
    (outcome (tells (event_if (enabled_by m.masks.event 4) 0x05 (0x00 ∷ le 2 handle ++ reason ∷ [])))
    (with_links (ended handle m.links) m))
    (outcome silent m)

-- the peer ended the link
unfoldable pub remote_disconnect : ℕ → ℕ → Model → Outcome
remote_disconnect handle reason m = disconnected handle reason m

-- the peer acknowledged the host's Disconnect: Connection Terminated By Local Host (0x16)
unfoldable pub complete_disconnect : ℕ → Model → Outcome
complete_disconnect handle m = disconnected handle 0x16 m
