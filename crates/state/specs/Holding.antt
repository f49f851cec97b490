-- Question 3: does the state hold together? Document 01's conditions, each as a test that computes, and the same as facts
-- that proofs use; `state_told` and `state_tested` in `proofs/Holding.antt` go from one to the other. For the controller's calls.
use Rattle.std.specs.Prelude.{◌≡◌, ℕ, ◌+◌, ◌≤◌, Bool, true, ◌&&◌, nat_le}
use Rattle.profile.specs.declared.ControllerRow.{ControllerRow}
use Rattle.filters.specs.declared.accept.AcceptList.{AcceptList}
use Rattle.filters.specs.declared.resolving.ResolvingList.{ResolvingList}
use Rattle.filters.specs.Filters.{accept_entries, resolving_entries, entries_differ, identities_differ}
use Rattle.links.specs.Holding.{links_hold, LinksHold}
use Rattle.state.specs.declared.Settings.{Settings}
use Rattle.state.specs.declared.Advertising.{Advertising}
use Rattle.state.specs.declared.Recent.{Recent}
use Rattle.state.specs.declared.Controller.{Controller}

-- the accept list's count fits its thirty-two entries and the profile, and its entries differ
unfoldable pub accept_holds : AcceptList → ℕ → Bool
accept_holds a size = nat_le a.count 32 && (nat_le a.count size && entries_differ (accept_entries a))

-- the resolving list's count fits its sixteen identities and the profile, and its identities differ
unfoldable pub resolving_holds : ResolvingList → ℕ → Bool
resolving_holds r size = nat_le r.count 16 && (nat_le r.count size && identities_differ (resolving_entries r))

-- advertising and scan data have at most 31 octets
unfoldable pub advertising_holds : Advertising → Bool
advertising_holds a = nat_le a.data_len 31 && nat_le a.scan_response_len 31

-- family and test are at most 2
unfoldable pub settings_hold : Settings → Bool
settings_hold s = nat_le s.advertising_family 2 && nat_le s.test 2

-- recent has at most 32 answers
abbrev pub recent_holds : Recent → Bool
recent_holds r = nat_le r.count 32

-- a place of the pool is acl_len + 5 octets
abbrev pub place_size : ControllerRow → ℕ
place_size k = k.acl_len + 5

-- the parts that no profile bounds
unfoldable pub own_parts_hold : Settings → Advertising → Recent → Bool
own_parts_hold settings advertising recent = settings_hold settings && (advertising_holds advertising && recent_holds recent)

unfoldable pub state_holds : Controller → ControllerRow → Bool
state_holds s k =
    own_parts_hold s.settings s.advertising s.recent
    && (links_hold s.links k.acl_count (place_size k)
    && (accept_holds s.accept_list k.accept_list_size
    && resolving_holds s.resolving_list k.resolving_list_size))

-- The same as facts

pub record AcceptHolds (a : AcceptList) (size : ℕ) : Type 0 where
  pub few : a.count ≤ 32
  pub sized : a.count ≤ size
  pub differ : entries_differ (accept_entries a) ≡ true

pub record ResolvingHolds (r : ResolvingList) (size : ℕ) : Type 0 where
  pub few : r.count ≤ 16
  pub sized : r.count ≤ size
  pub differ : identities_differ (resolving_entries r) ≡ true

pub record AdvertisingHolds (a : Advertising) : Type 0 where
  pub short_data : a.data_len ≤ 31
  pub short_response : a.scan_response_len ≤ 31

pub record SettingsHold (s : Settings) : Type 0 where
  pub family : s.advertising_family ≤ 2
  pub tested : s.test ≤ 2

pub record StateHolds (s : Controller) (k : ControllerRow) : Type 0 where
  pub settings : SettingsHold s.settings
  pub advertising : AdvertisingHolds s.advertising
  pub recent : s.recent.count ≤ 32
  pub links : LinksHold s.links k.acl_count (place_size k)
  pub accept : AcceptHolds s.accept_list k.accept_list_size
  pub resolving : ResolvingHolds s.resolving_list k.resolving_list_size
