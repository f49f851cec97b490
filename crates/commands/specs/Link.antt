-- The second half of `le`: what concerns links, encryption and data length (Core Vol 4 Part E sections 7.8.18 to 7.8.35). p are
-- a command's parameter octets, cs the connections; tests stand in the order of the source.
use Rattle.std.specs.Prelude.{ℕ, min, List, [], ◌∷◌, ◌++◌, reverse, Bool, cond, not, ◌&&◌, eqb, take, drop, get_or, replicate}
use Rattle.octets.specs.Octets.{is_yes, word, le}
use Rattle.aes.specs.Aes.{aes128}
use Rattle.profile.specs.declared.ControllerRow.{ControllerRow}
use Rattle.answers.specs.Answers.{AnswerModel, complete, status, followed}
use Rattle.links.specs.declared.Connection.{Connection}
use Rattle.links.specs.Links.{has, changed}
use Rattle.links.specs.Look.{connection_of}
use Rattle.links.specs.Fields.{with_parameters, with_data_length, with_ltk_requested}
use Rattle.state.specs.State.{Model}
use Rattle.state.specs.declared.Masks.{Masks}
use Rattle.state.specs.declared.Settings.{Settings}
use Rattle.commands.specs.Status.{success, unknown_connection, command_disallowed, invalid_parameters}
use Rattle.commands.specs.Parts.{with_settings, with_links, with_suggested_data_length}
use Rattle.commands.specs.Outcome.{Outcome, outcome, done, done_handle, at_link}
use Rattle.commands.specs.Checks.{connection_params_valid, data_length_valid}
use Rattle.commands.specs.Following.{le_meta_event, update_complete, encryption_change}

-- the four connection parameters of 0x2013 and 0x2020: least and greatest interval, latency, timeout
abbrev pub update_valid : List ℕ → Bool
update_valid p = connection_params_valid (word p 2) (word p 4) (word p 6) (word p 8)

-- `apply_params`: the link takes the shortest interval that the host allows
abbrev pub updated : List ℕ → Model → Model
updated p m = with_links (changed (word p 0) (with_parameters (word p 2) (word p 6) (word p 8)) m.links) m

abbrev pub update_event : List ℕ → Masks → List ℕ
update_event p masks = update_complete masks (word p 0) (word p 2) (word p 6) (word p 8)

-- 7.8.18 LE Connection Update (0x2013): the parameters, then the handle
unfoldable pub connection_update : List ℕ → Model → Outcome
connection_update p m =
    cond (not (update_valid p)) (outcome (status invalid_parameters) m)
    (cond (has (word p 0) m.links.connections)
    (outcome (followed (update_event p m.masks) (status success)) (updated p m))
    (outcome (status unknown_connection) m))

-- 7.8.19 LE Set Host Channel Classification (0x2014): accepted unread
unfoldable pub set_host_channels : AnswerModel
set_host_channels = done success

-- 7.8.20 LE Read Channel Map (0x2015): all 37 channels
unfoldable pub read_channel_map : List ℕ → List Connection → AnswerModel
read_channel_map p cs =
    cond (has (word p 0) cs) (complete (success ∷ le 2 (word p 0) ++ 0xFF ∷ 0xFF ∷ 0xFF ∷ 0xFF ∷ 0x1F ∷ []))
    (complete (unknown_connection ∷ le 2 (word p 0) ++ replicate 5 0))

-- 7.8.21 LE Read Remote Features (0x2016): the peer reports the controller's own features; 7.7.65.4 LE Read Remote Features
-- Complete follows
unfoldable pub read_remote_features : ControllerRow → List ℕ → Masks → List Connection → AnswerModel
read_remote_features k p masks cs =
    cond (has (word p 0) cs)
    (followed (le_meta_event masks 0x04 (success ∷ le 2 (word p 0) ++ le 8 k.le_features)) (status success))
    (status unknown_connection)

-- 7.8.22 LE Encrypt (0x2017): key and block come with their last octet first, and the result goes back so
unfoldable pub encrypt : List ℕ → AnswerModel
encrypt p = complete (success ∷ reverse (aes128 (reverse (take 16 p)) (reverse (take 16 (drop 16 p)))))

-- 7.8.23 LE Rand (0x2018): the eight random octets handed in
unfoldable pub rand : ℕ → AnswerModel
rand random = complete (success ∷ le 8 random)

-- 7.8.24 LE Enable Encryption (0x2019): encryption is on at once
unfoldable pub enable_encryption : List ℕ → Masks → List Connection → AnswerModel
enable_encryption p masks cs =
    cond (has (word p 0) cs) (followed (encryption_change masks (word p 0)) (status success)) (status unknown_connection)

-- the replies to a request for a long term key: the handle, then that a request waits
abbrev pub key_reply : ℕ → List ℕ → Model → Outcome
key_reply handle event m =
    at_link (connection_of handle m.links.connections) (outcome (done_handle unknown_connection handle) m)
    (λ c. cond (not (is_yes c.ltk_requested)) (outcome (done_handle command_disallowed handle) m)
    (outcome (followed event (done_handle success handle)) (with_links (changed handle (with_ltk_requested 0) m.links) m)))

-- 7.8.25 LE Long Term Key Request Reply (0x201A): encryption is on at once
unfoldable pub long_term_key_reply : List ℕ → Model → Outcome
long_term_key_reply p m = key_reply (word p 0) (encryption_change m.masks (word p 0)) m

-- 7.8.26 LE Long Term Key Request Negative Reply (0x201B)
unfoldable pub long_term_key_negative_reply : List ℕ → Model → Outcome
long_term_key_negative_reply p m = key_reply (word p 0) [] m

-- 7.8.31 LE Remote Connection Parameter Request Reply (0x2020): the parameters, then the handle
unfoldable pub parameter_request_reply : List ℕ → Model → Outcome
parameter_request_reply p m =
    cond (not (update_valid p)) (outcome (done_handle invalid_parameters (word p 0)) m)
    (cond (has (word p 0) m.links.connections)
    (outcome (followed (update_event p m.masks) (done_handle success (word p 0))) (updated p m))
    (outcome (done_handle unknown_connection (word p 0)) m))

-- 7.8.32 LE Remote Connection Parameter Request Negative Reply (0x2021)
unfoldable pub parameter_request_negative_reply : List ℕ → List Connection → AnswerModel
parameter_request_negative_reply p cs =
    cond (has (word p 0) cs) (done_handle success (word p 0)) (done_handle unknown_connection (word p 0))

-- what 0x2022 asks for, cut to the profile's greatest
abbrev pub new_octets : ControllerRow → List ℕ → ℕ
new_octets k p = min (word p 2) k.max_tx_octets

abbrev pub new_time : ControllerRow → List ℕ → ℕ
new_time k p = min (word p 4) k.max_tx_time

-- 7.7.65.7 LE Data Length Change, where something changed
abbrev pub data_length_change : ControllerRow → List ℕ → Masks → Connection → List ℕ
data_length_change k p masks c =
    cond (eqb c.tx_octets (new_octets k p) && eqb c.tx_time (new_time k p)) []
    (le_meta_event masks 0x07
    (le 2 (word p 0) ++ le 2 (new_octets k p) ++ le 2 (new_time k p) ++ le 2 k.max_tx_octets ++ le 2 k.max_tx_time))

-- 7.8.33 LE Set Data Length (0x2022): the values, then the handle
unfoldable pub set_data_length : ControllerRow → List ℕ → Model → Outcome
set_data_length k p m =
    cond (not (data_length_valid (word p 2) (word p 4))) (outcome (done_handle invalid_parameters (word p 0)) m)
    (at_link (connection_of (word p 0) m.links.connections) (outcome (done_handle unknown_connection (word p 0)) m)
    (λ c. outcome (followed (data_length_change k p m.masks c) (done_handle success (word p 0)))
    (with_links (changed (word p 0) (with_data_length (new_octets k p) (new_time k p)) m.links) m)))

-- 7.8.34 LE Read Suggested Default Data Length (0x2023)
unfoldable pub read_suggested_data_length : Settings → AnswerModel
read_suggested_data_length s =
    complete (success ∷ le 2 (get_or s.suggested_data_length 0 0) ++ le 2 (get_or s.suggested_data_length 1 0))

-- 7.8.35 LE Write Suggested Default Data Length (0x2024)
unfoldable pub write_suggested_data_length : List ℕ → Model → Outcome
write_suggested_data_length p m =
    cond (not (data_length_valid (word p 0) (word p 2))) (outcome (done invalid_parameters) m)
    (outcome (done success) (with_settings (with_suggested_data_length (word p 0 ∷ word p 2 ∷ []) m.settings) m))
