-- The controller's state as mathematics: arrays beside their counts become lists, waiting packets become the octets that
-- the pool holds; the other groups stand for themselves. Read beside the source's `Controller` and its `Default`.
use Rattle.std.specs.Prelude.{ℕ, ◌+◌, ◌-◌, ◌%◌, ◌^◌, ◌==◌, nat_lt, Bool, cond, not, ◌&&◌, ◌||◌}
use Rattle.std.specs.Prelude.{List, [], ◌∷◌, ◌++◌, length, take, drop, replicate, slice_index}
use Rattle.octets.specs.Octets.{le, is_yes}
use Rattle.lists.specs.Lists.{chunks}
use Rattle.hci.specs.Bits.{bit_of}
use Rattle.filters.specs.Filters.{accept_entries, resolving_entries}
use Rattle.links.specs.Links as links
use Rattle.state.specs.declared.Masks.{Masks}
use Rattle.state.specs.declared.Settings.{Settings}
use Rattle.state.specs.declared.Advertising.{Advertising}
use Rattle.state.specs.declared.Scanning.{Scanning}
use Rattle.state.specs.declared.Counters.{Counters}
use Rattle.state.specs.declared.Recent.{Recent}
use Rattle.state.specs.declared.Controller.{Controller}

pub record AdvertisingModel : Type 0 where
  pub params : List ℕ
  pub «data» : List ℕ
  pub scan_response : List ℕ
  pub enabled : ℕ

pub record Model : Type 0 where
  pub masks : Masks
  pub settings : Settings
  pub advertising : AdvertisingModel
  pub scanning : Scanning
  pub accept_list : List (List ℕ)
  pub resolving_list : List (List ℕ)
  pub links : links.Model
  pub counters : Counters
  pub recent : List (List ℕ)

-- What the state holds, with a pool of places of `size` octets

abbrev pub advertising_of : Advertising → AdvertisingModel
advertising_of a = record {
  params = a.params;
  «data» = take a.data_len a.«data»;
  scan_response = take a.scan_response_len a.scan_response;
  enabled = a.enabled;
}

-- opcode and status of each answer
abbrev pub answers_of : Recent → List (List ℕ)
answers_of r = chunks 3 r.count r.octets

abbrev pub view : Controller → ℕ → List ℕ → Model
view s size pool = record {
  masks = s.masks;
  settings = s.settings;
  advertising = advertising_of s.advertising;
  scanning = s.scanning;
  accept_list = accept_entries s.accept_list;
  resolving_list = resolving_entries s.resolving_list;
  links = links.view s.links size pool;
  counters = s.counters;
  recent = answers_of s.recent;
}

-- `Controller::default()`

-- Event_Mask bits 0 to 44 (section 7.3.1), LE_Event_Mask bits 0 to 4 (section 7.8.1)
abbrev pub default_masks : Masks
default_masks = record { event = 0x1FFFFFFFFFFF; event_page2 = 0; le_event = 0x1F }

-- 900 s (section 7.8.45), 27 octets and 328 us (section 7.8.34), the rest 0
abbrev pub default_settings : Settings
default_settings = record {
  random_address = replicate 6 0;
  address_resolution = 0;
  rpa_timeout = 900;
  suggested_data_length = 27 ∷ 328 ∷ [];
  default_phy = replicate 3 0;
  host_flow_control = 0;
  advertising_family = 0;
  test = 0;
  rf_path_compensation = replicate 2 0;
}

-- section 7.8.5: intervals 0x0800, ADV_IND, public own address, all channels, no filter
abbrev pub default_advertising : AdvertisingModel
default_advertising = record {
  params = le 2 0x0800 ++ le 2 0x0800 ++ replicate 9 0 ++ 0x07 ∷ 0 ∷ [];
  «data» = [];
  scan_response = [];
  enabled = 0;
}

-- section 7.8.10: passive, interval and window 0x0010
abbrev pub default_scanning : Scanning
default_scanning = record {
  params = 0x00 ∷ 0x10 ∷ 0x00 ∷ 0x10 ∷ 0x00 ∷ 0x00 ∷ 0x00 ∷ [];
  enable = replicate 2 0;
  initiating = 0;
  initiator_filter = 0;
}

abbrev pub no_counters : Counters
no_counters = record { commands = 0; unknown_commands = 0; acl_packets = 0; acl_dropped = 0 }

abbrev pub no_links : links.Model
no_links = record { connections = []; queue = []; in_flight = 0 }

-- with these counters and answers: the default state has none, a reset keeps them
abbrev pub fresh : Counters → List (List ℕ) → Model
fresh counters recent = record {
  masks = default_masks;
  settings = default_settings;
  advertising = default_advertising;
  scanning = default_scanning;
  accept_list = [];
  resolving_list = [];
  links = no_links;
  counters = counters;
  recent = recent;
}

abbrev pub default_model : Model
default_model = fresh no_counters []

-- Reset (section 7.3.2): the four counters and the answers are the controller's own and stay
abbrev pub reset_model : Model → Model
reset_model m = fresh m.counters m.recent

-- the advertising state with other data, and with another scan response
abbrev pub with_data : List ℕ → AdvertisingModel → AdvertisingModel
with_data octets a = record a { «data» = octets }

abbrev pub with_scan_response : List ℕ → AdvertisingModel → AdvertisingModel
with_scan_response octets a = record a { scan_response = octets }

-- `busy`: advertising enabled, scan enable nonzero or initiating
abbrev pub busy : Model → Bool
busy m = is_yes m.advertising.enabled || not (slice_index m.scanning.enable 0 == 0) || is_yes m.scanning.initiating

-- `accept_list_in_use`: the list may not change (sections 7.8.15 to 7.8.17)
abbrev pub advertiser_filters : AdvertisingModel → Bool
advertiser_filters a = is_yes a.enabled && not (slice_index a.params 14 == 0)

abbrev pub scanner_filters : Scanning → Bool
scanner_filters s = not (slice_index s.enable 0 == 0) && not (slice_index s.params 6 == 0)

abbrev pub initiator_filters : Scanning → Bool
initiator_filters s = is_yes s.initiating && not (s.initiator_filter == 0)

abbrev pub accept_list_in_use : Model → Bool
accept_list_in_use m = advertiser_filters m.advertising || (scanner_filters m.scanning || initiator_filters m.scanning)

-- `le_event_enabled`: the LE Meta event (bit 61) and the subevent, whose bit is its code less one
abbrev pub le_event_enabled : Masks → ℕ → Bool
le_event_enabled masks subevent = bit_of masks.event 61 == 1 && bit_of masks.le_event (subevent - 1) == 1

-- one answer more; the last 32 are kept
unfoldable pub remember : List ℕ → List (List ℕ) → List (List ℕ)
remember answer l = cond (nat_lt (length l) 32) (l ++ (answer ∷ [])) (drop 1 l ++ (answer ∷ []))

-- the four counters wrap to zero
abbrev pub wrapped : ℕ → ℕ
wrapped n = (n + 1) % 2 ^ 64

abbrev pub count_command : Counters → Counters
count_command c = record c { commands = wrapped c.commands }

abbrev pub count_unknown : Counters → Counters
count_unknown c = record c { unknown_commands = wrapped c.unknown_commands }

abbrev pub count_packet : Counters → Counters
count_packet c = record c { acl_packets = wrapped c.acl_packets }

abbrev pub count_dropped : Counters → Counters
count_dropped c = record c { acl_dropped = wrapped c.acl_dropped }
