-- The parts of the state that a controller starts with: its settings hold together, and there are no links. For the proof of
-- `fresh_state`.
use Rattle.std.proofs.Common.{◌≡◌, ℕ, List, [], ap, arith}
use Rattle.links.specs.Links as links
use Rattle.links.specs.Change.{ListsOf}
use Rattle.links.specs.declared.Links.{Links}
use Rattle.state.specs.State.{default_settings, no_links}
use Rattle.state.specs.Holding.{SettingsHold}
use Rattle.state.specs.declared.Settings.{Settings}

pub settings_fresh : {s : Settings} → s ≡ default_settings → SettingsHold s
settings_fresh {s} e =
    let f : s.advertising_family ≡ 0 = ap (λ (x : Settings). x.advertising_family) e in
    let t : s.test ≡ 0 = ap (λ (x : Settings). x.test) e in
    record { family = omega arith; tested = omega arith }

pub links_fresh : {r : Links} (size : ℕ) (pool : List ℕ) → ListsOf r [] [] 0 → links.view r size pool ≡ no_links
links_fresh size pool l = rw (l.connections, l.waiting, l.flying)
