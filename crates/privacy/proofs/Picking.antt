-- The PHY that a link takes by what its host prefers for a direction. For the proof of Set PHY.
use Rattle.std.proofs.Common.{rules, ◌≡◌}
use Rattle.std.specs.Prelude.{ℕ, Bool, true, false, Option, Some, None, MatchOption}
use Rattle.profile.specs.declared.ControllerRow.{ControllerRow}
use Rattle.commands.specs.Privacy.{phy_picked}

-- picked by the preference p is picked by All_PHYs' bit (`any`) and the set
pub picked : (k : ControllerRow) (any : Bool) (set current : ℕ) (p : Option ℕ) {r : ℕ}
    → MatchOption p (any ≡ true) (λ allowed. (any ≡ false) × (allowed ≡ set))
    → MatchOption p (r ≡ current) (λ allowed. r ≡ phy_picked k false allowed current)
    → r ≡ phy_picked k any set current
unfolding phy_picked
picked k any set current None e h = search rules
picked k any set current (Some allowed) e h = search rules
