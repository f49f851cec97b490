-- The questions of an accepted call: each has a "yes", as its number is not 0. For proofs that need one of these answers.
use mathlib.Core.Path.{◌≡◌}
use Prim.Native.Nat.{◌<◌}
use mathlib.Core.Bool.{true}
use mathlib.Core.List.{List, [], ◌∷◌}
use native.Mathlib.Omega.{arith}
use borrow.Table.Steps.{cases}
use Rattle.calls.specs.Calls.{Question, first_no}

abbrev pub AllYes : List Question → Type 0
AllYes [] = Unit {0}
AllYes (q ∷ l) = 0 < q.number → (q.yes ≡ true) × AllYes l

pub all_yes : (l : List Question) → first_no l ≡ 0 → AllYes l
unfolding first_no
all_yes [] e = tt
all_yes (q ∷ l) e = λ h.
    cases q.yes (λ y. (y, all_yes l (rw y at e))) (λ n. absurd (let z : q.number ≡ 0 = rw n at e in omega arith))
