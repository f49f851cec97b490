-- The code's state with one of its parts replaced: what the functions that put a part back give. For the contracts of the
-- commands.
use Rattle.links.specs.declared.Links.{Links}
use Rattle.filters.specs.declared.accept.AcceptList.{AcceptList}
use Rattle.filters.specs.declared.resolving.ResolvingList.{ResolvingList}
use Rattle.state.specs.declared.Masks.{Masks}
use Rattle.state.specs.declared.Settings.{Settings}
use Rattle.state.specs.declared.Scanning.{Scanning}
use Rattle.state.specs.declared.Advertising.{Advertising}
use Rattle.state.specs.declared.Counters.{Counters}
use Rattle.state.specs.declared.Recent.{Recent}
use Rattle.state.specs.declared.Controller.{Controller}

abbrev pub put_masks : Masks → Controller → Controller
put_masks x s = record s { masks = x }

abbrev pub put_settings : Settings → Controller → Controller
put_settings x s = record s { settings = x }

abbrev pub put_advertising : Advertising → Controller → Controller
put_advertising x s = record s { advertising = x }

abbrev pub put_scanning : Scanning → Controller → Controller
put_scanning x s = record s { scanning = x }

abbrev pub put_accept_list : AcceptList → Controller → Controller
put_accept_list x s = record s { accept_list = x }

abbrev pub put_resolving_list : ResolvingList → Controller → Controller
put_resolving_list x s = record s { resolving_list = x }

abbrev pub put_links : Links → Controller → Controller
put_links x s = record s { links = x }

abbrev pub put_counters : Counters → Controller → Controller
put_counters x s = record s { counters = x }

abbrev pub put_recent : Recent → Controller → Controller
put_recent x s = record s { recent = x }

-- what is noted of every command
abbrev pub noted_in : Counters → Settings → Recent → Controller → Controller
noted_in counters settings recent s = put_recent recent (put_settings settings (put_counters counters s))
