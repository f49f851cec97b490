-- What the rows of the table leave: every command but Reset (0x0C03) changes no link's handle, no queue and not what is in
-- flight; only 0x0C01 changes the event mask; and every answer is modest, Reset's too. For the laws of `command`.
use mathlib.Core.Path.{◌≡◌, refl, subst}
use Prim.Native.Nat.{ℕ}
use native.Mathlib.Omega.{arith}
use mathlib.Core.List.{List, [], ◌∷◌, ◌++◌, reverse}
use mathlib.Core.Bool.{true≢false}
use lib.Dec.{eqb}
use lib.ListN.{take, drop, length-reverse}
use borrow.Author.Tests.{eqb-true, eqb-false}
use borrow.Table.Steps.{cases}
use Rattle.aes.specs.Aes.{cipher, aes128}
use Rattle.state.specs.State.{Model}
use Rattle.commands.specs.Outcome.{Given}
use Rattle.commands.specs.Known.{disconnect, read_remote_version, set_event_mask, reset, read_transmit_power}
use Rattle.commands.specs.Known.{set_host_flow_control, host_buffer_size, host_completed_packets, set_event_mask_page2}
use Rattle.commands.specs.Known.{read_auth_payload_timeout}
use Rattle.commands.specs.Known.{write_auth_payload_timeout, read_local_version, read_supported_commands}
use Rattle.commands.specs.Known.{read_supported_features, read_public_address, read_rssi}
use Rattle.commands.specs.Air.{set_le_event_mask, read_buffer_size, read_local_features, set_random_address}
use Rattle.commands.specs.Air.{set_advertising_parameters, read_advertising_power, set_advertising_data, set_scan_response_data}
use Rattle.commands.specs.Air.{set_advertising_enable, set_scan_parameters, set_scan_enable, create_connection}
use Rattle.commands.specs.Air.{create_connection_cancel, read_accept_list_size, clear_accept_list, add_to_accept_list}
use Rattle.commands.specs.Air.{remove_from_accept_list}
use Rattle.commands.specs.Link.{connection_update, set_host_channels, read_channel_map, read_remote_features, encrypt, rand}
use Rattle.commands.specs.Link.{enable_encryption, long_term_key_reply, long_term_key_negative_reply, parameter_request_reply}
use Rattle.commands.specs.Link.{parameter_request_negative_reply, set_data_length, read_suggested_data_length}
use Rattle.commands.specs.Link.{write_suggested_data_length}
use Rattle.commands.specs.Privacy.{add_to_resolving_list, remove_from_resolving_list, clear_resolving_list}
use Rattle.commands.specs.Privacy.{read_resolving_list_size, read_resolvable_address, set_address_resolution, set_address_timeout}
use Rattle.commands.specs.Privacy.{read_maximum_data_length, read_phy, set_default_phy, set_phy, set_privacy_mode}
use Rattle.commands.specs.Test.{read_supported_states, start_test, test_end, read_maximum_advertising_length}
use Rattle.commands.specs.Test.{read_advertising_sets, read_power_range, read_path_compensation, write_path_compensation}
use Rattle.commands.specs.Table.{Row, no_row, find, known_rows, air_rows, link_rows, privacy_rows, test_rows, rows}
use Rattle.commands.specs.Leaves.{Shaped, Modest, Leaves}
use Rattle.commands.proofs.Leaving.{one_done, completes, same_state, leaving}

-- each row of a table has a property, P of its opcode and itself
infixr 5 ◌also◌
pub data EachRow (P : ℕ → Row → Type 0) : List Row → Type 0 where
  no_rows : EachRow P []
  ◌also◌ : {r : Row} {l : List Row} → P r.opcode r → EachRow P l → EachRow P (r ∷ l)

module _ {P : ℕ → Row → Type 0} where
  pub each_append : {k l : List Row} → EachRow P k → EachRow P l → EachRow P (k ++ l)
  each_append no_rows h = h
  each_append (x also rest) h = x also each_append rest h

  -- so has the row that an opcode finds, if it has where there is none
  pub each_find : {l : List Row} (op : ℕ) → EachRow P l → P op no_row → P op (find op l)
  unfolding find
  each_find op no_rows h = h
  each_find op (◌also◌ {r = r} x rest) h =
      cases (eqb r.opcode op) (λ e. rw e (subst (λ (n : ℕ). P n r) (eqb-true r.opcode op e) x)) (λ e. rw e (each_find op rest h))

-- the property here: every row but Reset's leaves what it should
abbrev pub RowLeaves : Given → ℕ → Row → Type 0
RowLeaves g op r = (op ≡ 0x0C03 → ⊥) → (m : Model) → Leaves (eqb op 0x0C01) m (r.does g m)

pub known_rows_lem : (g : Given) → Shaped g → EachRow (RowLeaves g) known_rows
unfolding disconnect read_remote_version set_event_mask read_transmit_power set_host_flow_control host_buffer_size
    host_completed_packets set_event_mask_page2 read_auth_payload_timeout write_auth_payload_timeout read_local_version
    read_supported_commands read_supported_features read_public_address read_rssi
known_rows_lem g shaped =
    (λ _ m. search leaving depth 8)
    also (λ _ m. search leaving)
    also (λ _ m. record { handles = refl; queue = refl; flying = refl; mask = λ e. absurd (true≢false e); answer = one_done _ })
    also (λ other m. absurd (other refl))
    also (λ _ m. search leaving)
    also (λ _ m. search leaving)
    also (λ _ m. search leaving)
    also (λ _ m. search leaving)
    also (λ _ m. search leaving)
    also (λ _ m. search leaving)
    also (λ _ m. search leaving depth 8)
    also (λ _ m. search leaving)
    also (λ _ m. same_state (completes _ (omega (arith, shaped.commands))))
    also (λ _ m. same_state (completes _ (omega (arith, shaped.features))))
    also (λ _ m. same_state (completes _ (omega (arith, shaped.address))))
    also (λ _ m. search leaving)
    also no_rows

pub air_rows_lem : (g : Given) → Shaped g → EachRow (RowLeaves g) air_rows
unfolding set_le_event_mask read_buffer_size read_local_features set_random_address set_advertising_parameters
    read_advertising_power set_advertising_data set_scan_response_data set_advertising_enable set_scan_parameters
    set_scan_enable create_connection create_connection_cancel read_accept_list_size clear_accept_list add_to_accept_list
    remove_from_accept_list
air_rows_lem g shaped =
    (λ _ m. search leaving)
    also (λ _ m. search leaving)
    also (λ _ m. search leaving)
    also (λ _ m. search leaving)
    also (λ _ m. search leaving)
    also (λ _ m. search leaving)
    also (λ _ m. search leaving)
    also (λ _ m. search leaving)
    also (λ _ m. search leaving)
    also (λ _ m. search leaving)
    also (λ _ m. search leaving)
    also (λ _ m. search leaving)
    also (λ _ m. search leaving)
    also (λ _ m. search leaving)
    also (λ _ m. search leaving)
    also (λ _ m. search leaving depth 8)
    also (λ _ m. search leaving)
    also no_rows

-- a block has sixteen octets, and as many when it is turned round
encrypt_modest : (p : List ℕ) → Modest (encrypt p)
unfolding encrypt aes128 cipher
encrypt_modest p = completes _ (omega (arith, length-reverse (aes128 (reverse (take 16 p)) (reverse (take 16 (drop 16 p))))))

pub link_rows_lem : (g : Given) → Shaped g → EachRow (RowLeaves g) link_rows
unfolding connection_update set_host_channels read_channel_map read_remote_features rand enable_encryption
    long_term_key_reply long_term_key_negative_reply parameter_request_reply parameter_request_negative_reply
    set_data_length read_suggested_data_length write_suggested_data_length
link_rows_lem g shaped =
    (λ _ m. search leaving depth 8)
    also (λ _ m. search leaving)
    also (λ _ m. search leaving)
    also (λ _ m. search leaving)
    also (λ _ m. same_state (encrypt_modest g.params))
    also (λ _ m. search leaving)
    also (λ _ m. search leaving)
    also (λ _ m. search leaving depth 8)
    also (λ _ m. search leaving depth 8)
    also (λ _ m. search leaving depth 8)
    also (λ _ m. search leaving)
    also (λ _ m. search leaving depth 8)
    also (λ _ m. search leaving)
    also (λ _ m. search leaving)
    also no_rows

pub privacy_rows_lem : (g : Given) → Shaped g → EachRow (RowLeaves g) privacy_rows
unfolding add_to_resolving_list remove_from_resolving_list clear_resolving_list read_resolving_list_size read_resolvable_address
    set_address_resolution set_address_timeout read_maximum_data_length read_phy set_default_phy set_phy set_privacy_mode
privacy_rows_lem g shaped =
    (λ _ m. search leaving depth 8)
    also (λ _ m. search leaving)
    also (λ _ m. search leaving)
    also (λ _ m. search leaving)
    also (λ _ m. search leaving)
    also (λ _ m. search leaving)
    also (λ _ m. search leaving)
    also (λ _ m. search leaving)
    also (λ _ m. search leaving)
    also (λ _ m. search leaving)
    also (λ _ m. search leaving)
    also (λ _ m. search leaving depth 8)
    also (λ _ m. search leaving depth 8)
    also no_rows

pub test_rows_lem : (g : Given) → Shaped g → EachRow (RowLeaves g) test_rows
unfolding read_supported_states start_test test_end read_maximum_advertising_length read_advertising_sets read_power_range
    read_path_compensation write_path_compensation
test_rows_lem g shaped =
    (λ _ m. same_state (completes _ (omega (arith, shaped.states))))
    also (λ _ m. search leaving depth 8)
    also (λ _ m. search leaving depth 8)
    also (λ _ m. search leaving)
    also (λ _ m. search leaving depth 8)
    also (λ _ m. search leaving depth 8)
    also (λ _ m. search leaving)
    also (λ _ m. search leaving)
    also (λ _ m. search leaving)
    also (λ _ m. search leaving)
    also (λ _ m. search leaving)
    also no_rows

pub rows_leave : (g : Given) → Shaped g → (op : ℕ) → (op ≡ 0x0C03 → ⊥) → (m : Model)
    → Leaves (eqb op 0x0C01) m ((find op rows).does g m)
rows_leave g shaped op =
    each_find op
    (each_append (known_rows_lem g shaped) (each_append (air_rows_lem g shaped)
    (each_append (link_rows_lem g shaped) (each_append (privacy_rows_lem g shaped) (test_rows_lem g shaped)))))
    (λ _ m. same_state (one_done _))

pub rows_modest : (g : Given) → Shaped g → (op : ℕ) (m : Model) → Modest ((find op rows).does g m).answer
unfolding find reset
rows_modest g shaped op m =
    cases (eqb op 0x0C03) (λ e. rw (eqb-true op 0x0C03 e) (one_done _))
    (λ e. (rows_leave g shaped op (eqb-false op 0x0C03 e) m).answer)
