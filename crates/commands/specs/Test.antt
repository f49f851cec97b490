-- The commands of `test_and_power`: Direct Test Mode, advertising sets and transmit power (Core Vol 4 Part E sections 7.8.27 to
-- 7.8.30, 7.8.57, 7.8.58 and 7.8.74 to 7.8.76). p are a command's parameter octets; tests stand in the order of the source.
use Rattle.std.specs.Prelude.{ℕ, List, [], ◌∷◌, ◌++◌, Bool, true, false, cond, not, ◌&&◌, ◌||◌, leb, ltb, eqb, length, get_or}
use Rattle.octets.specs.Octets.{octet, word, le}
use Rattle.signed.specs.Signed.{octet_of, compensation_allowed}
use Rattle.profile.specs.declared.ControllerRow.{ControllerRow}
use Rattle.answers.specs.Answers.{AnswerModel, complete}
use Rattle.state.specs.State.{Model, busy}
use Rattle.state.specs.declared.Settings.{Settings}
use Rattle.commands.specs.Status.{success, command_disallowed, unsupported_feature, invalid_parameters}
use Rattle.commands.specs.Parts.{with_settings, with_test, with_rf_path_compensation}
use Rattle.commands.specs.Outcome.{Outcome, outcome, done}
use Rattle.commands.specs.Checks.{has2_m, has_coded}

-- 7.8.27 LE Read Supported States (0x201C)
unfoldable pub read_supported_states : ControllerRow → AnswerModel
read_supported_states k = complete (success ∷ k.supported_states)

-- a test starts only from an idle link layer: no test, not busy, no link
unfoldable pub idle : Model → Bool
idle m = eqb m.settings.test 0 && (not (busy m) && eqb (length m.links.connections) 0)

-- 7.8.28, 7.8.29: PHY 1 LE 1M, 2 LE 2M, 3 LE Coded, and for sending 4 LE Coded S=2, each where the controller has it
unfoldable pub test_phy : ControllerRow → Bool → ℕ → Bool
test_phy k transmit phy =
    eqb phy 1 || ((eqb phy 2 && has2_m k) || ((eqb phy 3 || (transmit && eqb phy 4)) && has_coded k))

-- the tests of all four commands in their order: idle, channel to 0x27, PHY, then modulation or payload
unfoldable pub start_test : ControllerRow → Bool → ℕ → ℕ → Bool → Model → Outcome
start_test k transmit channel phy allowed m =
    cond (not (idle m)) (outcome (done command_disallowed) m)
    (cond (ltb 0x27 channel) (outcome (done invalid_parameters) m)
    (cond (not (test_phy k transmit phy)) (outcome (done unsupported_feature) m)
    (cond (not allowed) (outcome (done invalid_parameters) m)
    (outcome (done success) (with_settings (with_test (cond transmit 2 1) m.settings) m)))))

-- 7.8.28 LE Receiver Test v1 (0x201D): LE 1M
abbrev pub receiver_test : ControllerRow → List ℕ → Model → Outcome
receiver_test k p m = start_test k false (octet p 0) 1 true m

-- 7.8.29 LE Transmitter Test v1 (0x201E): LE 1M, payload to 7
abbrev pub transmitter_test : ControllerRow → List ℕ → Model → Outcome
transmitter_test k p m = start_test k true (octet p 0) 1 (leb (octet p 2) 0x07) m

-- 7.8.30 LE Test End (0x201F): no packets were counted
unfoldable pub test_end : Model → Outcome
test_end m =
    cond (eqb m.settings.test 0) (outcome (complete (command_disallowed ∷ 0 ∷ 0 ∷ [])) m)
    (outcome (complete (success ∷ 0 ∷ 0 ∷ [])) (with_settings (with_test 0 m.settings) m))

-- 7.8.28 LE Receiver Test v2 (0x2033): channel, PHY, modulation index to 1
abbrev pub receiver_test2 : ControllerRow → List ℕ → Model → Outcome
receiver_test2 k p m = start_test k false (octet p 0) (octet p 1) (leb (octet p 2) 1) m

-- 7.8.29 LE Transmitter Test v2 (0x2034): channel, length, payload to 7, PHY
abbrev pub transmitter_test2 : ControllerRow → List ℕ → Model → Outcome
transmitter_test2 k p m = start_test k true (octet p 0) (octet p 3) (leb (octet p 2) 0x07) m

-- 7.8.57 LE Read Maximum Advertising Data Length (0x203A)
unfoldable pub read_maximum_advertising_length : ControllerRow → AnswerModel
read_maximum_advertising_length k = complete (success ∷ le 2 k.max_adv_data_len)

-- 7.8.58 LE Read Number of Supported Advertising Sets (0x203B)
unfoldable pub read_advertising_sets : ControllerRow → AnswerModel
read_advertising_sets k = complete (success ∷ k.adv_sets ∷ [])

-- 7.8.74 LE Read Transmit Power (0x204B)
unfoldable pub read_power_range : ControllerRow → AnswerModel
read_power_range k = complete (success ∷ octet_of k.tx_power_min ∷ octet_of k.tx_power_max ∷ [])

-- 7.8.75 LE Read RF Path Compensation (0x204C)
unfoldable pub read_path_compensation : Settings → AnswerModel
read_path_compensation s =
    complete (success ∷ le 2 (get_or s.rf_path_compensation 0 0) ++ le 2 (get_or s.rf_path_compensation 1 0))

-- 7.8.76 LE Write RF Path Compensation (0x204D): signed, -128.0 dB to 128.0 dB in 0.1 dB
unfoldable pub write_path_compensation : List ℕ → Model → Outcome
write_path_compensation p m =
    cond (not (compensation_allowed (word p 0) && compensation_allowed (word p 2))) (outcome (done invalid_parameters) m)
    (outcome (done success) (with_settings (with_rf_path_compensation (word p 0 ∷ word p 2 ∷ []) m.settings) m))
