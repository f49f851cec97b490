-- The table of all commands: opcode, how many parameter octets, and what the command does. `param_len` of the source is its
-- second column, the four matches of the source its third; but 0x0C35 takes any number here and looks at it itself, where the
-- source tests for none before `param_len`. For readers who look for an opcode.
use Rattle.std.specs.Prelude.{ℕ, List, [], ◌∷◌, ◌++◌, map, Bool, true, false, cond, eqb}
use Rattle.state.specs.State.{Model}
use Rattle.commands.specs.Status.{unknown_command}
use Rattle.commands.specs.Outcome.{Outcome, outcome, done, Given}
use Rattle.commands.specs.Known as known
use Rattle.commands.specs.Air as air
use Rattle.commands.specs.Link as link
use Rattle.commands.specs.Privacy as privacy
use Rattle.commands.specs.Test as test

-- how many parameter octets: so many, as many as the command finds right itself, or none that would do
pub data Size : Type 0 where
  octets : ℕ → Size
  any : Size
  never : Size

abbrev pub fits : Size → ℕ → Bool
fits (octets n) m = eqb m n
fits any m = true
fits never m = false

pub record Row : Type 0 where
  pub opcode : ℕ
  pub size : Size
  pub does : Given → Model → Outcome

abbrev pub row : ℕ → ℕ → (Given → Model → Outcome) → Row
row opcode n does = record { opcode = opcode; size = octets n; does = does }

abbrev pub known_rows : List Row
known_rows =
    row 0x0406 3 (λ g m. known.disconnect g.params m)
    ∷ row 0x041D 2 (λ g m. outcome (known.read_remote_version g.profile g.params m.masks m.links.connections) m)
    ∷ row 0x0C01 8 (λ g m. known.set_event_mask g.params m)
    ∷ row 0x0C03 0 (λ g m. known.reset m)
    ∷ row 0x0C2D 3 (λ g m. outcome (known.read_transmit_power g.profile g.params m.links.connections) m)
    ∷ row 0x0C31 1 (λ g m. known.set_host_flow_control g.params m)
    ∷ row 0x0C33 7 (λ g m. outcome known.host_buffer_size m)
    ∷ record { opcode = 0x0C35; size = any; does = λ g m. outcome (known.host_completed_packets g.params) m }
    ∷ row 0x0C63 8 (λ g m. known.set_event_mask_page2 g.params m)
    ∷ row 0x0C7B 2 (λ g m. outcome (known.read_auth_payload_timeout g.params m.links.connections) m)
    ∷ row 0x0C7C 4 (λ g m. known.write_auth_payload_timeout g.params m)
    ∷ row 0x1001 0 (λ g m. outcome (known.read_local_version g.profile) m)
    ∷ row 0x1002 0 (λ g m. outcome (known.read_supported_commands g.profile) m)
    ∷ row 0x1003 0 (λ g m. outcome (known.read_supported_features g.profile) m)
    ∷ row 0x1009 0 (λ g m. outcome (known.read_public_address g.address) m)
    ∷ row 0x1405 2 (λ g m. outcome (known.read_rssi g.params m.links.connections) m)
    ∷ []

-- `le`, in two halves

abbrev pub air_rows : List Row
air_rows =
    row 0x2001 8 (λ g m. air.set_le_event_mask g.params m)
    ∷ row 0x2002 0 (λ g m. outcome (air.read_buffer_size g.profile) m)
    ∷ row 0x2003 0 (λ g m. outcome (air.read_local_features g.profile) m)
    ∷ row 0x2005 6 (λ g m. air.set_random_address g.params m)
    ∷ row 0x2006 15 (λ g m. air.set_advertising_parameters g.params m)
    ∷ row 0x2007 0 (λ g m. outcome (air.read_advertising_power g.profile) m)
    ∷ row 0x2008 32 (λ g m. air.set_advertising_data g.params m)
    ∷ row 0x2009 32 (λ g m. air.set_scan_response_data g.params m)
    ∷ row 0x200A 1 (λ g m. air.set_advertising_enable g.params m)
    ∷ row 0x200B 7 (λ g m. air.set_scan_parameters g.params m)
    ∷ row 0x200C 2 (λ g m. air.set_scan_enable g.params m)
    ∷ row 0x200D 25 (λ g m. air.create_connection g.params m)
    ∷ row 0x200E 0 (λ g m. air.create_connection_cancel m)
    ∷ row 0x200F 0 (λ g m. outcome (air.read_accept_list_size g.profile) m)
    ∷ row 0x2010 0 (λ g m. air.clear_accept_list m)
    ∷ row 0x2011 7 (λ g m. air.add_to_accept_list g.profile g.params m)
    ∷ row 0x2012 7 (λ g m. air.remove_from_accept_list g.params m)
    ∷ []

abbrev pub link_rows : List Row
link_rows =
    row 0x2013 14 (λ g m. link.connection_update g.params m)
    ∷ row 0x2014 5 (λ g m. outcome link.set_host_channels m)
    ∷ row 0x2015 2 (λ g m. outcome (link.read_channel_map g.params m.links.connections) m)
    ∷ row 0x2016 2 (λ g m. outcome (link.read_remote_features g.profile g.params m.masks m.links.connections) m)
    ∷ row 0x2017 32 (λ g m. outcome (link.encrypt g.params) m)
    ∷ row 0x2018 0 (λ g m. outcome (link.rand g.random) m)
    ∷ row 0x2019 28 (λ g m. outcome (link.enable_encryption g.params m.masks m.links.connections) m)
    ∷ row 0x201A 18 (λ g m. link.long_term_key_reply g.params m)
    ∷ row 0x201B 2 (λ g m. link.long_term_key_negative_reply g.params m)
    ∷ row 0x2020 14 (λ g m. link.parameter_request_reply g.params m)
    ∷ row 0x2021 3 (λ g m. outcome (link.parameter_request_negative_reply g.params m.links.connections) m)
    ∷ row 0x2022 6 (λ g m. link.set_data_length g.profile g.params m)
    ∷ row 0x2023 0 (λ g m. outcome (link.read_suggested_data_length m.settings) m)
    ∷ row 0x2024 4 (λ g m. link.write_suggested_data_length g.params m)
    ∷ []

abbrev pub privacy_rows : List Row
privacy_rows =
    row 0x2027 39 (λ g m. privacy.add_to_resolving_list g.profile g.params m)
    ∷ row 0x2028 7 (λ g m. privacy.remove_from_resolving_list g.params m)
    ∷ row 0x2029 0 (λ g m. privacy.clear_resolving_list m)
    ∷ row 0x202A 0 (λ g m. outcome (privacy.read_resolving_list_size g.profile) m)
    ∷ row 0x202B 7 (λ g m. outcome privacy.read_resolvable_address m)
    ∷ row 0x202C 7 (λ g m. outcome privacy.read_resolvable_address m)
    ∷ row 0x202D 1 (λ g m. privacy.set_address_resolution g.params m)
    ∷ row 0x202E 2 (λ g m. privacy.set_address_timeout g.params m)
    ∷ row 0x202F 0 (λ g m. outcome (privacy.read_maximum_data_length g.profile) m)
    ∷ row 0x2030 2 (λ g m. outcome (privacy.read_phy g.params m.links.connections) m)
    ∷ row 0x2031 3 (λ g m. privacy.set_default_phy g.profile g.params m)
    ∷ row 0x2032 7 (λ g m. privacy.set_phy g.profile g.params m)
    ∷ row 0x204E 8 (λ g m. privacy.set_privacy_mode g.params m)
    ∷ []

abbrev pub test_rows : List Row
test_rows =
    row 0x201C 0 (λ g m. outcome (test.read_supported_states g.profile) m)
    ∷ row 0x201D 1 (λ g m. test.receiver_test g.profile g.params m)
    ∷ row 0x201E 3 (λ g m. test.transmitter_test g.profile g.params m)
    ∷ row 0x201F 0 (λ g m. test.test_end m)
    ∷ row 0x2033 3 (λ g m. test.receiver_test2 g.profile g.params m)
    ∷ row 0x2034 4 (λ g m. test.transmitter_test2 g.profile g.params m)
    ∷ row 0x203A 0 (λ g m. outcome (test.read_maximum_advertising_length g.profile) m)
    ∷ row 0x203B 0 (λ g m. outcome (test.read_advertising_sets g.profile) m)
    ∷ row 0x204B 0 (λ g m. outcome (test.read_power_range g.profile) m)
    ∷ row 0x204C 0 (λ g m. outcome (test.read_path_compensation m.settings) m)
    ∷ row 0x204D 4 (λ g m. test.write_path_compensation g.params m)
    ∷ []

abbrev pub rows : List Row
rows = known_rows ++ air_rows ++ link_rows ++ privacy_rows ++ test_rows

abbrev pub opcode_of : Row → ℕ
opcode_of r = r.opcode

-- the first column
abbrev pub opcodes : List ℕ
opcodes = map opcode_of rows

-- the last arm of the source's `test_and_power`: no length fits it, so it is never reached
abbrev pub no_row : Row
no_row = record { opcode = 0; size = never; does = λ g m. outcome (done unknown_command) m }

-- the row of an opcode
unfoldable pub find : ℕ → List Row → Row
find op [] = no_row
find op (r ∷ l) = cond (eqb r.opcode op) r (find op l)

-- a command of a table with as many parameters as its row says
abbrev pub sized : ℕ → List Row → ℕ → Bool
sized op l n = fits (find op l).size n
