-- `air::advertising::is_zero` meets its contract: std's comparison of two lists is the definition's.
use mathlib.Core.Path.{◌≡◌, refl, ap, ◌∙◌}
use mathlib.Core.Bool.{◌&&◌}
use mathlib.Core.List.{List, [], ◌∷◌}
use Prim.Native.Nat.{ℕ}
use lib.Dec.{eqb}
use lib.Pointwise.{pointwise}
use Rattle.lists.specs.Lists.{same_list}
use Rattle.air.proofs.advertising.is_zero.Goals as goal

pointwise_same : (x y : List ℕ) → pointwise eqb x y ≡ same_list x y
unfolding same_list
pointwise_same [] [] = refl
pointwise_same [] (b ∷ y) = refl
pointwise_same (a ∷ x) [] = refl
pointwise_same (a ∷ x) (b ∷ y) = ap (◌&&◌ (eqb a b)) (pointwise_same x y)

pub returns : goal.returns
returns c = c.eq.ensures ∙ pointwise_same _ _
