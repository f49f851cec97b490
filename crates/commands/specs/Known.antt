-- The commands of `known`: link control, controller and baseband, informational and status parameters (Core Vol 4 Part E
-- sections 7.1, 7.3, 7.4 and 7.5). p are a command's parameter octets, cs the connections; tests stand in the order of the
-- source.
use Rattle.std.specs.Prelude.{ℕ, ◌+◌, ◌*◌, List, [], ◌∷◌, ◌++◌, Bool, cond, not, ◌||◌, eqb, ltb, pos, length}
use Rattle.octets.specs.Octets.{octet, word, le, number_at}
use Rattle.lists.specs.Lists.{any}
use Rattle.signed.specs.Signed.{octet_of, lesser_signed}
use Rattle.profile.specs.declared.ControllerRow.{ControllerRow}
use Rattle.answers.specs.Answers.{AnswerModel, complete, status, silent, followed}
use Rattle.links.specs.declared.Connection.{Connection}
use Rattle.links.specs.Links.{has, changed}
use Rattle.links.specs.Look.{connection_of}
use Rattle.links.specs.Fields.{with_terminating, with_auth_payload_timeout}
use Rattle.state.specs.State.{Model, reset_model}
use Rattle.state.specs.declared.Masks.{Masks}
use Rattle.commands.specs.Status.{success, unknown_connection, command_disallowed, invalid_parameters}
use Rattle.commands.specs.Parts.{with_masks, with_settings, with_links}
use Rattle.commands.specs.Parts.{with_event_mask, with_event_mask_page2, with_host_flow_control}
use Rattle.commands.specs.Outcome.{Outcome, outcome, done, done_handle, at_link}
use Rattle.commands.specs.Following.{remote_version_complete}

-- 7.1.6: the reasons that a host may give
abbrev pub disconnect_reasons : List ℕ
disconnect_reasons = 0x05 ∷ 0x13 ∷ 0x14 ∷ 0x15 ∷ 0x1A ∷ 0x29 ∷ 0x3B ∷ []

unfoldable pub reason_allowed : ℕ → Bool
reason_allowed reason = any (λ x. eqb x reason) disconnect_reasons

-- 7.1.6 Disconnect (0x0406): the reason, the handle, and no Disconnect of the link that waits already. The link ends when the
-- peer has acknowledged, by a notice
unfoldable pub disconnect : List ℕ → Model → Outcome
disconnect p m =
    cond (not (reason_allowed (octet p 2))) (outcome (status invalid_parameters) m)
    (at_link (connection_of (word p 0) m.links.connections) (outcome (status unknown_connection) m)
    (λ c. cond (not (eqb c.terminating 0)) (outcome (status command_disallowed) m)
    (outcome (status success) (with_links (changed (word p 0) (with_terminating (octet p 2)) m.links) m))))

-- 7.1.23 Read Remote Version Information (0x041D): the peer reports the controller's own identity
unfoldable pub read_remote_version : ControllerRow → List ℕ → Masks → List Connection → AnswerModel
read_remote_version k p masks cs =
    cond (has (word p 0) cs)
    (followed (remote_version_complete masks
    (success ∷ le 2 (word p 0) ++ k.lmp_version ∷ le 2 k.company ++ le 2 k.lmp_subversion)) (status success))
    (status unknown_connection)

-- 7.3.1 Set Event Mask (0x0C01)
unfoldable pub set_event_mask : List ℕ → Model → Outcome
set_event_mask p m = outcome (done success) (with_masks (with_event_mask (number_at 8 p 0) m.masks) m)

-- 7.3.2 Reset (0x0C03): links end without events; the counters and the last answers are the controller's own and stay
unfoldable pub reset : Model → Outcome
reset m = outcome (done success) (reset_model m)

-- 7.3.35 Read Transmit Power Level (0x0C2D): the type, then the handle. Type 0, the current level, is the profile's advertising
-- power; type 1 the greatest, at most 20 dBm
abbrev pub power_level : ControllerRow → ℕ → ℕ
power_level k type = cond (eqb type 0) (octet_of k.adv_tx_power) (octet_of (lesser_signed k.tx_power_max (pos 20)))

unfoldable pub read_transmit_power : ControllerRow → List ℕ → List Connection → AnswerModel
read_transmit_power k p cs =
    cond (ltb 1 (octet p 2)) (complete (invalid_parameters ∷ le 2 (word p 0) ++ 0 ∷ []))
    (cond (has (word p 0) cs) (complete (success ∷ le 2 (word p 0) ++ power_level k (octet p 2) ∷ []))
    (complete (unknown_connection ∷ le 2 (word p 0) ++ 0 ∷ [])))

-- 7.3.38 Set Controller To Host Flow Control (0x0C31): kept, and nothing more
unfoldable pub set_host_flow_control : List ℕ → Model → Outcome
set_host_flow_control p m =
    cond (ltb 3 (octet p 0)) (outcome (done invalid_parameters) m)
    (outcome (done success) (with_settings (with_host_flow_control (octet p 0) m.settings) m))

-- 7.3.39 Host Buffer Size (0x0C33): accepted unread
unfoldable pub host_buffer_size : AnswerModel
host_buffer_size = done success

-- 7.3.40 Host Number Of Completed Packets (0x0C35): no event unless the parameters are wrong; no parameters, no event either
unfoldable pub host_completed_packets : List ℕ → AnswerModel
host_completed_packets p =
    cond (eqb (length p) 0) silent
    (cond (eqb (length p) (1 + 4 * octet p 0)) silent (done invalid_parameters))

-- 7.3.69 Set Event Mask Page 2 (0x0C63)
unfoldable pub set_event_mask_page2 : List ℕ → Model → Outcome
set_event_mask_page2 p m = outcome (done success) (with_masks (with_event_mask_page2 (number_at 8 p 0) m.masks) m)

-- 7.3.93 Read Authenticated Payload Timeout (0x0C7B)
unfoldable pub read_auth_payload_timeout : List ℕ → List Connection → AnswerModel
read_auth_payload_timeout p cs =
    at_link (connection_of (word p 0) cs) (complete (unknown_connection ∷ le 2 (word p 0) ++ 0 ∷ 0 ∷ []))
    (λ c. complete (success ∷ le 2 (word p 0) ++ le 2 c.auth_payload_timeout))

-- 7.3.94 Write Authenticated Payload Timeout (0x0C7C): the handle, then the value, which is nonzero and at least
-- connInterval * (1 + latency); in 10 ms and 1.25 ms units that is timeout * 8 against interval * (1 + latency)
unfoldable pub payload_timeout_short : ℕ → Connection → Bool
payload_timeout_short timeout c = eqb timeout 0 || ltb (timeout * 8) (c.interval * (1 + c.latency))

unfoldable pub write_auth_payload_timeout : List ℕ → Model → Outcome
write_auth_payload_timeout p m =
    at_link (connection_of (word p 0) m.links.connections) (outcome (done_handle unknown_connection (word p 0)) m)
    (λ c. cond (payload_timeout_short (word p 2) c) (outcome (done_handle invalid_parameters (word p 0)) m)
    (outcome (done_handle success (word p 0)) (with_links (changed (word p 0) (with_auth_payload_timeout (word p 2)) m.links) m)))

-- 7.4.1 Read Local Version Information (0x1001)
unfoldable pub read_local_version : ControllerRow → AnswerModel
read_local_version k =
    complete (success ∷ k.hci_version ∷ le 2 k.hci_subversion ++ k.lmp_version ∷ le 2 k.company ++ le 2 k.lmp_subversion)

-- 7.4.2 Read Local Supported Commands (0x1002): the longest answer
unfoldable pub read_supported_commands : ControllerRow → AnswerModel
read_supported_commands k = complete (success ∷ k.supported_commands)

-- 7.4.3 Read Local Supported Features (0x1003)
unfoldable pub read_supported_features : ControllerRow → AnswerModel
read_supported_features k = complete (success ∷ k.lmp_features)

-- 7.4.6 Read BD_ADDR (0x1009)
unfoldable pub read_public_address : List ℕ → AnswerModel
read_public_address address = complete (success ∷ address)

-- 7.5.4 Read RSSI (0x1405): -40 dBm, octet 0xD8, for every link; 127 is "not available"
unfoldable pub read_rssi : List ℕ → List Connection → AnswerModel
read_rssi p cs =
    cond (has (word p 0) cs) (complete (success ∷ le 2 (word p 0) ++ 0xD8 ∷ []))
    (complete (unknown_connection ∷ le 2 (word p 0) ++ 127 ∷ []))
