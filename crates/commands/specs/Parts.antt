-- The model of the state with one of its parts, or one field of a part, replaced. For the definitions of the commands.
use Rattle.std.specs.Prelude.{ℕ, List}
use Rattle.links.specs.Links as links
use Rattle.state.specs.State.{Model, AdvertisingModel}
use Rattle.state.specs.declared.Masks.{Masks}
use Rattle.state.specs.declared.Settings.{Settings}
use Rattle.state.specs.declared.Scanning.{Scanning}
use Rattle.state.specs.declared.Counters.{Counters}

-- ---- the model's parts

abbrev pub with_masks : Masks → Model → Model
with_masks x m = record m { masks = x }

abbrev pub with_settings : Settings → Model → Model
with_settings x m = record m { settings = x }

abbrev pub with_advertising : AdvertisingModel → Model → Model
with_advertising x m = record m { advertising = x }

abbrev pub with_scanning : Scanning → Model → Model
with_scanning x m = record m { scanning = x }

abbrev pub with_accept_list : List (List ℕ) → Model → Model
with_accept_list x m = record m { accept_list = x }

abbrev pub with_resolving_list : List (List ℕ) → Model → Model
with_resolving_list x m = record m { resolving_list = x }

abbrev pub with_links : links.Model → Model → Model
with_links x m = record m { links = x }

abbrev pub with_counters : Counters → Model → Model
with_counters x m = record m { counters = x }

abbrev pub with_recent : List (List ℕ) → Model → Model
with_recent x m = record m { recent = x }

-- ---- fields of the masks: Event_Mask, Event_Mask_Page_2, LE_Event_Mask

abbrev pub with_event_mask : ℕ → Masks → Masks
with_event_mask x masks = record masks { event = x }

abbrev pub with_event_mask_page2 : ℕ → Masks → Masks
with_event_mask_page2 x masks = record masks { event_page2 = x }

abbrev pub with_le_event_mask : ℕ → Masks → Masks
with_le_event_mask x masks = record masks { le_event = x }

-- ---- fields of the settings

abbrev pub with_random_address : List ℕ → Settings → Settings
with_random_address x settings = record settings { random_address = x }

abbrev pub with_address_resolution : ℕ → Settings → Settings
with_address_resolution x settings = record settings { address_resolution = x }

abbrev pub with_rpa_timeout : ℕ → Settings → Settings
with_rpa_timeout x settings = record settings { rpa_timeout = x }

abbrev pub with_suggested_data_length : List ℕ → Settings → Settings
with_suggested_data_length x settings = record settings { suggested_data_length = x }

abbrev pub with_default_phy : List ℕ → Settings → Settings
with_default_phy x settings = record settings { default_phy = x }

abbrev pub with_host_flow_control : ℕ → Settings → Settings
with_host_flow_control x settings = record settings { host_flow_control = x }

abbrev pub with_advertising_family : ℕ → Settings → Settings
with_advertising_family x settings = record settings { advertising_family = x }

abbrev pub with_test : ℕ → Settings → Settings
with_test x settings = record settings { test = x }

abbrev pub with_rf_path_compensation : List ℕ → Settings → Settings
with_rf_path_compensation x settings = record settings { rf_path_compensation = x }

-- ---- fields of advertising and scanning

abbrev pub with_params : List ℕ → AdvertisingModel → AdvertisingModel
with_params x a = record a { params = x }

abbrev pub with_enabled : ℕ → AdvertisingModel → AdvertisingModel
with_enabled x a = record a { enabled = x }

abbrev pub with_scan_params : List ℕ → Scanning → Scanning
with_scan_params x scanning = record scanning { params = x }

abbrev pub with_scan_enable : List ℕ → Scanning → Scanning
with_scan_enable x scanning = record scanning { enable = x }

abbrev pub with_initiating : ℕ → ℕ → Scanning → Scanning
with_initiating initiating filter scanning = record scanning { initiating = initiating; initiator_filter = filter }
