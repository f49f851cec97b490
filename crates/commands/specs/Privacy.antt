-- The commands of `privacy`: the resolving list, address resolution and the PHYs (Core Vol 4 Part E sections 7.8.38 to 7.8.49
-- and 7.8.77). p are a command's parameter octets, cs the connections; tests stand in the order of the source.
use Rattle.std.specs.Prelude.{ℕ, List, [], ◌∷◌, ◌++◌, Bool, cond, not, ◌&&◌, ◌||◌, leb, ltb, eqb, length, take, replicate}
use Rattle.std.specs.Int.Bits.{bit_and}
use Rattle.octets.specs.Octets.{octet, is_yes, word, le}
use Rattle.lists.specs.Lists.{any, without, update_first}
use Rattle.hci.specs.Bits.{bit_of}
use Rattle.profile.specs.declared.ControllerRow.{ControllerRow}
use Rattle.answers.specs.Answers.{AnswerModel, complete, status, followed}
use Rattle.filters.specs.Filters.{has_identity, new_entry, with_mode}
use Rattle.links.specs.declared.Connection.{Connection}
use Rattle.links.specs.Links.{changed}
use Rattle.links.specs.Look.{connection_of}
use Rattle.links.specs.Fields.{with_phys}
use Rattle.state.specs.State.{Model, busy}
use Rattle.commands.specs.Status.{success, unknown_connection, memory_capacity_exceeded, command_disallowed}
use Rattle.commands.specs.Status.{unsupported_feature, invalid_parameters}
use Rattle.commands.specs.Parts.{with_settings, with_resolving_list, with_links}
use Rattle.commands.specs.Parts.{with_address_resolution, with_rpa_timeout, with_default_phy}
use Rattle.commands.specs.Outcome.{Outcome, outcome, done, at_link}
use Rattle.commands.specs.Checks.{within, phys}
use Rattle.commands.specs.Following.{le_meta_event}

-- the list may not change while address resolution is on and the link layer is busy (7.8.38 to 7.8.40, 7.8.77)
abbrev pub locked : Model → Bool
locked m = is_yes m.settings.address_resolution && busy m

-- the identity that the parameters begin with is on the list
abbrev pub listed : List ℕ → Model → Bool
listed p m = any (has_identity (take 7 p)) m.resolving_list

-- 7.8.38 LE Add Device To Resolving List (0x2027): locked, type and presence, size. The keys are not kept
unfoldable pub add_to_resolving_list : ControllerRow → List ℕ → Model → Outcome
add_to_resolving_list k p m =
    cond (locked m) (outcome (done command_disallowed) m)
    (cond (ltb 1 (octet p 0) || listed p m) (outcome (done invalid_parameters) m)
    (cond (leb k.resolving_list_size (length m.resolving_list)) (outcome (done memory_capacity_exceeded) m)
    (outcome (done success) (with_resolving_list (m.resolving_list ++ (new_entry (take 7 p) ∷ [])) m))))

-- 7.8.39 LE Remove Device From Resolving List (0x2028)
unfoldable pub remove_from_resolving_list : List ℕ → Model → Outcome
remove_from_resolving_list p m =
    cond (locked m) (outcome (done command_disallowed) m)
    (cond (not (listed p m)) (outcome (done unknown_connection) m)
    (outcome (done success) (with_resolving_list (without (has_identity (take 7 p)) m.resolving_list) m)))

-- 7.8.40 LE Clear Resolving List (0x2029)
unfoldable pub clear_resolving_list : Model → Outcome
clear_resolving_list m =
    cond (locked m) (outcome (done command_disallowed) m)
    (outcome (done success) (with_resolving_list [] m))

-- 7.8.41 LE Read Resolving List Size (0x202A)
unfoldable pub read_resolving_list_size : ControllerRow → AnswerModel
read_resolving_list_size k = complete (success ∷ k.resolving_list_size ∷ [])

-- 7.8.42 and 7.8.43 LE Read Peer and Local Resolvable Address (0x202B, 0x202C): the controller makes none
unfoldable pub read_resolvable_address : AnswerModel
read_resolvable_address = complete (unknown_connection ∷ replicate 6 0)

-- 7.8.44 LE Set Address Resolution Enable (0x202D): the value, then busy
unfoldable pub set_address_resolution : List ℕ → Model → Outcome
set_address_resolution p m =
    cond (ltb 1 (octet p 0)) (outcome (done invalid_parameters) m)
    (cond (busy m) (outcome (done command_disallowed) m)
    (outcome (done success) (with_settings (with_address_resolution (octet p 0) m.settings) m)))

-- 7.8.45 LE Set Resolvable Private Address Timeout (0x202E): 1 s to 1 hour
unfoldable pub set_address_timeout : List ℕ → Model → Outcome
set_address_timeout p m =
    cond (not (within 0x0001 0x0E10 (word p 0))) (outcome (done invalid_parameters) m)
    (outcome (done success) (with_settings (with_rpa_timeout (word p 0) m.settings) m))

-- 7.8.46 LE Read Maximum Data Length (0x202F): sending and receiving alike
unfoldable pub read_maximum_data_length : ControllerRow → AnswerModel
read_maximum_data_length k =
    complete (success ∷ le 2 k.max_tx_octets ++ le 2 k.max_tx_time ++ le 2 k.max_tx_octets ++ le 2 k.max_tx_time)

-- 7.8.47 LE Read PHY (0x2030)
unfoldable pub read_phy : List ℕ → List Connection → AnswerModel
read_phy p cs =
    at_link (connection_of (word p 0) cs) (complete (unknown_connection ∷ le 2 (word p 0) ++ 0 ∷ 0 ∷ []))
    (λ c. complete (success ∷ le 2 (word p 0) ++ c.tx_phy ∷ c.rx_phy ∷ []))

-- All_PHYs: bit 0 no preference for sending, bit 1 none for receiving
abbrev pub any_sending : ℕ → Bool
any_sending all = eqb (bit_of all 0) 1

abbrev pub any_receiving : ℕ → Bool
any_receiving all = eqb (bit_of all 1) 1

-- each PHY of a set is one that the controller has
abbrev pub all_supported : ControllerRow → ℕ → Bool
all_supported k set = eqb (bit_and set (phys k)) set

-- 7.8.48: reserved bits, or a preference for no PHY
unfoldable pub phy_preference_empty : ℕ → ℕ → ℕ → Bool
phy_preference_empty all tx rx = ltb 3 all || ((not (any_sending all) && eqb tx 0) || (not (any_receiving all) && eqb rx 0))

-- a PHY that the controller lacks, or different PHYs for the two directions
unfoldable pub phy_preference_unsupported : ControllerRow → ℕ → ℕ → ℕ → Bool
phy_preference_unsupported k all tx rx =
    (not (any_sending all) && not (all_supported k tx))
    || ((not (any_receiving all) && not (all_supported k rx))
    || (eqb all 0 && not (eqb tx rx)))

-- 7.8.48 LE Set Default PHY (0x2031)
unfoldable pub set_default_phy : ControllerRow → List ℕ → Model → Outcome
set_default_phy k p m =
    cond (phy_preference_empty (octet p 0) (octet p 1) (octet p 2)) (outcome (done invalid_parameters) m)
    (cond (phy_preference_unsupported k (octet p 0) (octet p 1) (octet p 2)) (outcome (done unsupported_feature) m)
    (outcome (done success) (with_settings (with_default_phy p m.settings) m)))

-- the PHY that a link takes: without a preference the one it has; else LE 2M (2), LE 1M (1), LE Coded (3), in this order, of
-- those that the host allows and the controller has, and LE 1M where there is none
unfoldable pub phy_picked : ControllerRow → Bool → ℕ → ℕ → ℕ
phy_picked k any allowed current =
    cond any current
    (cond (eqb (bit_of (bit_and allowed (phys k)) 1) 1) 2
    (cond (eqb (bit_of (bit_and allowed (phys k)) 0) 1 || eqb (bit_and allowed (phys k)) 0) 1 3))

abbrev pub sending_phy : ControllerRow → List ℕ → Connection → ℕ
sending_phy k p c = phy_picked k (any_sending (octet p 2)) (octet p 3) c.tx_phy

abbrev pub receiving_phy : ControllerRow → List ℕ → Connection → ℕ
receiving_phy k p c = phy_picked k (any_receiving (octet p 2)) (octet p 4) c.rx_phy

-- 7.8.49 LE Set PHY (0x2032): the handle alone is tested; 7.7.65.12 LE PHY Update Complete follows
unfoldable pub set_phy : ControllerRow → List ℕ → Model → Outcome
set_phy k p m =
    at_link (connection_of (word p 0) m.links.connections) (outcome (status unknown_connection) m)
    (λ c. outcome (followed (le_meta_event m.masks 0x0C
    (success ∷ le 2 (word p 0) ++ sending_phy k p c ∷ receiving_phy k p c ∷ [])) (status success))
    (with_links (changed (word p 0) (with_phys (sending_phy k p c) (receiving_phy k p c)) m.links) m))

-- 7.8.77 LE Set Privacy Mode (0x204E): locked, mode, presence
unfoldable pub set_privacy_mode : List ℕ → Model → Outcome
set_privacy_mode p m =
    cond (locked m) (outcome (done command_disallowed) m)
    (cond (ltb 1 (octet p 7)) (outcome (done invalid_parameters) m)
    (cond (not (listed p m)) (outcome (done unknown_connection) m)
    (outcome (done success)
    (with_resolving_list (update_first (has_identity (take 7 p)) (with_mode (octet p 7)) m.resolving_list) m))))
