-- The first half of `le`: masks and reads, the random address, legacy advertising, scanning, initiating and the accept list
-- (Core Vol 4 Part E sections 7.8.1 to 7.8.17). p are a command's parameter octets; tests stand in the order of the source.
use Rattle.std.specs.Prelude.{ℕ, List, [], ◌∷◌, ◌++◌, Bool, cond, not, ◌&&◌, ◌||◌, leb, ltb, eqb, take, drop, replicate}
use Rattle.octets.specs.Octets.{octet, is_yes, word, le, number_at}
use Rattle.lists.specs.Lists.{same_list}
use Rattle.signed.specs.Signed.{octet_of}
use Rattle.profile.specs.declared.ControllerRow.{ControllerRow}
use Rattle.answers.specs.Answers.{AnswerModel, complete, status, followed}
use Rattle.filters.specs.Filters.{accept_entry, added, is_full, removed}
use Rattle.state.specs.State.{Model, busy, accept_list_in_use, with_data, with_scan_response}
use Rattle.commands.specs.Status.{success, unknown_connection, memory_capacity_exceeded, command_disallowed, invalid_parameters}
use Rattle.commands.specs.Parts.{with_masks, with_settings, with_advertising, with_scanning, with_accept_list}
use Rattle.commands.specs.Parts.{with_le_event_mask, with_random_address, with_params, with_enabled}
use Rattle.commands.specs.Parts.{with_scan_params, with_scan_enable, with_initiating}
use Rattle.commands.specs.Outcome.{Outcome, outcome, done}
use Rattle.commands.specs.Checks.{within, connection_params_valid}
use Rattle.commands.specs.Following.{connection_failed}

-- 7.8.1 LE Set Event Mask (0x2001)
unfoldable pub set_le_event_mask : List ℕ → Model → Outcome
set_le_event_mask p m = outcome (done success) (with_masks (with_le_event_mask (number_at 8 p 0) m.masks) m)

-- 7.8.2 LE Read Buffer Size (0x2002)
unfoldable pub read_buffer_size : ControllerRow → AnswerModel
read_buffer_size k = complete (success ∷ le 2 k.acl_len ++ k.acl_count ∷ [])

-- 7.8.3 LE Read Local Supported Features (0x2003)
unfoldable pub read_local_features : ControllerRow → AnswerModel
read_local_features k = complete (success ∷ le 8 k.le_features)

-- 7.8.4 LE Set Random Address (0x2005): not while the link layer is busy
unfoldable pub set_random_address : List ℕ → Model → Outcome
set_random_address p m =
    cond (busy m) (outcome (done command_disallowed) m)
    (outcome (done success) (with_settings (with_random_address p m.settings) m))

-- 7.8.5: intervals 0x0020 to 0x4000, the least at most the greatest; high duty cycle directed advertising (type 1) has none
unfoldable pub advertising_intervals_valid : List ℕ → Bool
advertising_intervals_valid p =
    eqb (octet p 4) 1 || (within 0x0020 0x4000 (word p 0) && (within 0x0020 0x4000 (word p 2) && leb (word p 0) (word p 2)))

-- type to 4, own address type to 3, peer address type to 1, some of three channels, filter policy to 3
unfoldable pub advertising_parameters_valid : List ℕ → Bool
advertising_parameters_valid p =
    advertising_intervals_valid p
    && (leb (octet p 4) 4
    && (leb (octet p 5) 3
    && (leb (octet p 6) 1
    && (within 1 7 (octet p 13)
    && leb (octet p 14) 3))))

-- 7.8.5 LE Set Advertising Parameters (0x2006): not while advertising
unfoldable pub set_advertising_parameters : List ℕ → Model → Outcome
set_advertising_parameters p m =
    cond (is_yes m.advertising.enabled) (outcome (done command_disallowed) m)
    (cond (not (advertising_parameters_valid p)) (outcome (done invalid_parameters) m)
    (outcome (done success) (with_advertising (with_params p m.advertising) m)))

-- 7.8.6 LE Read Advertising Physical Channel Tx Power (0x2007)
unfoldable pub read_advertising_power : ControllerRow → AnswerModel
read_advertising_power k = complete (success ∷ octet_of k.adv_tx_power ∷ [])

-- 7.8.7 LE Set Advertising Data (0x2008): a length of at most 31, then that many octets and padding
unfoldable pub set_advertising_data : List ℕ → Model → Outcome
set_advertising_data p m =
    cond (ltb 31 (octet p 0)) (outcome (done invalid_parameters) m)
    (outcome (done success) (with_advertising (with_data (take (octet p 0) (drop 1 p)) m.advertising) m))

-- 7.8.8 LE Set Scan Response Data (0x2009)
unfoldable pub set_scan_response_data : List ℕ → Model → Outcome
set_scan_response_data p m =
    cond (ltb 31 (octet p 0)) (outcome (done invalid_parameters) m)
    (outcome (done success) (with_advertising (with_scan_response (take (octet p 0) (drop 1 p)) m.advertising) m))

-- 7.8.9: advertising under a random address that is all zero, as it is before one is set
abbrev pub no_random_address : Model → Bool
no_random_address m = eqb (octet m.advertising.params 5) 1 && same_list m.settings.random_address (replicate 6 0)

-- 7.8.9 LE Set Advertising Enable (0x200A)
unfoldable pub set_advertising_enable : List ℕ → Model → Outcome
set_advertising_enable p m =
    cond (ltb 1 (octet p 0)) (outcome (done invalid_parameters) m)
    (cond (eqb (octet p 0) 1 && no_random_address m) (outcome (done invalid_parameters) m)
    (outcome (done success) (with_advertising (with_enabled (octet p 0) m.advertising) m)))

-- 7.8.10: scan type to 1, interval and window 0x0004 to 0x4000, the window at most the interval, own address type and filter
-- policy to 3
unfoldable pub scan_parameters_valid : List ℕ → Bool
scan_parameters_valid p =
    leb (octet p 0) 1
    && (within 0x0004 0x4000 (word p 1)
    && (within 0x0004 0x4000 (word p 3)
    && (leb (word p 3) (word p 1)
    && (leb (octet p 5) 3
    && leb (octet p 6) 3))))

-- 7.8.10 LE Set Scan Parameters (0x200B): not while scanning
unfoldable pub set_scan_parameters : List ℕ → Model → Outcome
set_scan_parameters p m =
    cond (not (eqb (octet m.scanning.enable 0) 0)) (outcome (done command_disallowed) m)
    (cond (not (scan_parameters_valid p)) (outcome (done invalid_parameters) m)
    (outcome (done success) (with_scanning (with_scan_params p m.scanning) m)))

-- 7.8.11 LE Set Scan Enable (0x200C)
unfoldable pub set_scan_enable : List ℕ → Model → Outcome
set_scan_enable p m =
    cond (ltb 1 (octet p 0) || ltb 1 (octet p 1)) (outcome (done invalid_parameters) m)
    (outcome (done success) (with_scanning (with_scan_enable p m.scanning) m))

-- 7.8.12. E4: "Core gives 0x200D's scan interval and window as 0x0004 to 0x4000, window at most interval. Filter is 0 or 1, own
-- address type at most 3, peer address type at most 3 where filter is 0. Any other gives status 0x12, tested in this order after
-- "already initiating" and before the connection parameters." With filter policy 1 the accept list names the peers
unfoldable pub create_connection_valid : List ℕ → Bool
create_connection_valid p =
    within 0x0004 0x4000 (word p 0)
    && (within 0x0004 0x4000 (word p 2)
    && (leb (word p 2) (word p 0)
    && (leb (octet p 4) 1
    && (leb (octet p 12) 3
    && ((not (eqb (octet p 4) 0) || leb (octet p 5) 3)
    && connection_params_valid (word p 13) (word p 15) (word p 17) (word p 19))))))

-- 7.8.12 LE Create Connection (0x200D): not while initiating; then its parameters. The filter policy is kept
unfoldable pub create_connection : List ℕ → Model → Outcome
create_connection p m =
    cond (is_yes m.scanning.initiating) (outcome (status command_disallowed) m)
    (cond (not (create_connection_valid p)) (outcome (status invalid_parameters) m)
    (outcome (status success) (with_scanning (with_initiating 1 (octet p 4) m.scanning) m)))

-- 7.8.13 LE Create Connection Cancel (0x200E): a connection complete event with Unknown Connection Identifier follows
unfoldable pub create_connection_cancel : Model → Outcome
create_connection_cancel m =
    cond (not (is_yes m.scanning.initiating)) (outcome (done command_disallowed) m)
    (outcome (followed (connection_failed m.masks unknown_connection) (done success))
    (with_scanning (with_initiating 0 m.scanning.initiator_filter m.scanning) m))

-- 7.8.14 LE Read Filter Accept List Size (0x200F)
unfoldable pub read_accept_list_size : ControllerRow → AnswerModel
read_accept_list_size k = complete (success ∷ k.accept_list_size ∷ [])

-- 7.8.15 LE Clear Filter Accept List (0x2010): not while the list is in use
unfoldable pub clear_accept_list : Model → Outcome
clear_accept_list m =
    cond (accept_list_in_use m) (outcome (done command_disallowed) m)
    (outcome (done success) (with_accept_list [] m))

-- a public or a random device address, or an anonymous advertiser
abbrev pub accept_type_valid : ℕ → Bool
accept_type_valid type = leb type 1 || eqb type 0xFF

-- 7.8.16 LE Add Device To Filter Accept List (0x2011): in use, type, presence, size
unfoldable pub add_to_accept_list : ControllerRow → List ℕ → Model → Outcome
add_to_accept_list k p m =
    cond (accept_list_in_use m) (outcome (done command_disallowed) m)
    (cond (not (accept_type_valid (octet p 0))) (outcome (done invalid_parameters) m)
    (cond (is_full k.accept_list_size (accept_entry p) m.accept_list) (outcome (done memory_capacity_exceeded) m)
    (outcome (done success) (with_accept_list (added k.accept_list_size (accept_entry p) m.accept_list) m))))

-- 7.8.17 LE Remove Device From Filter Accept List (0x2012): an absent entry succeeds
unfoldable pub remove_from_accept_list : List ℕ → Model → Outcome
remove_from_accept_list p m =
    cond (accept_list_in_use m) (outcome (done command_disallowed) m)
    (cond (not (accept_type_valid (octet p 0))) (outcome (done invalid_parameters) m)
    (outcome (done success) (with_accept_list (removed (accept_entry p) m.accept_list) m)))
