-- Document 01's marked cases about commands, as one proposition: `MarkedCases`. It is proved as `marked_cases` in
-- `proofs/Marked.antt`. g is what a command is given, of which each case names the parameter octets; its row is modelled (0).
use Rattle.std.specs.Prelude.{◌≡◌, ℕ, ◌+◌, ◌*◌, List, [], ◌∷◌, Some, Err, true, false, length}
use Rattle.hci.specs.Read.{parse_command}
use Rattle.hci.specs.declared.read.ReadError.TheVariants.{ShortBody}
use Rattle.links.specs.declared.Connection.{Connection}
use Rattle.links.specs.Look.{connection_of}
use Rattle.state.specs.State.{Model}
use Rattle.commands.specs.Status.{success, invalid_parameters}
use Rattle.commands.specs.Outcome.{Given, done, done_handle}
use Rattle.commands.specs.Checks.{connection_params_valid}
use Rattle.commands.specs.Command.{command}

pub record MarkedCases : Type 0 where
  -- timeout 10, latency 1, min 6, max 20: invalid (40 against 40)
  pub greatest_of20 : connection_params_valid 6 20 1 10 ≡ false
  -- max 19: valid
  pub greatest_of19 : connection_params_valid 6 19 1 10 ≡ true
  -- 0x0C7C on interval 24, latency 0: 3 accepted
  pub timeout_of3 : (g : Given) (low high : ℕ) (m : Model) (c : Connection) → g.params ≡ (low ∷ high ∷ 3 ∷ 0 ∷ [])
      → connection_of (low + 256 * high) m.links.connections ≡ Some c → c.interval ≡ 24 → c.latency ≡ 0
      → (command g 0 0x0C7C m).answer ≡ done_handle success (low + 256 * high)
  -- 2: 0x12
  pub timeout_of2 : (g : Given) (low high : ℕ) (m : Model) (c : Connection) → g.params ≡ (low ∷ high ∷ 2 ∷ 0 ∷ [])
      → connection_of (low + 256 * high) m.links.connections ≡ Some c → c.interval ≡ 24 → c.latency ≡ 0
      → (command g 0 0x0C7C m).answer ≡ done_handle invalid_parameters (low + 256 * high)
  -- 0x204D with 0xFB00: accepted
  pub compensation_fb00 : (g : Given) (m : Model) → g.params ≡ (0x00 ∷ 0xFB ∷ 0x00 ∷ 0xFB ∷ [])
      → (command g 0 0x204D m).answer ≡ done success
  -- 0xFAFF, in either place: 0x12
  pub compensation_faff : (g : Given) (m : Model) → g.params ≡ (0xFF ∷ 0xFA ∷ 0x00 ∷ 0xFB ∷ [])
      → (command g 0 0x204D m).answer ≡ done invalid_parameters
  pub second_faff : (g : Given) (m : Model) → g.params ≡ (0x00 ∷ 0xFB ∷ 0xFF ∷ 0xFA ∷ [])
      → (command g 0 0x204D m).answer ≡ done invalid_parameters
  -- advertising data length 31 accepted
  pub data_of31 : (g : Given) (m : Model) (load : List ℕ) → g.params ≡ (31 ∷ load) → length load ≡ 31
      → m.settings.advertising_family ≡ 0 → (command g 0 0x2008 m).answer ≡ done success
  -- 32: 0x12
  pub data_of32 : (g : Given) (m : Model) (load : List ℕ) → g.params ≡ (32 ∷ load) → length load ≡ 31
      → m.settings.advertising_family ≡ 0 → (command g 0 0x2008 m).answer ≡ done invalid_parameters
  -- length octet 3 with two octets: the packet is not read as a command, so there is no event
  pub short_of_parameters : (low high first second : ℕ)
      → parse_command (0x01 ∷ low ∷ high ∷ 3 ∷ first ∷ second ∷ []) ≡ Err ShortBody
