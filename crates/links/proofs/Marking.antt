-- The lowest octets of the handles, which a loop marks, tell that the handles differ.
use Prim.Native.Nat.{ℕ, ◌%◌}
use native.Mathlib.Omega.{arith}
use mathlib.Core.Bool.{true}
use mathlib.Core.Path.{◌≡◌, ap}
use mathlib.Core.List.{List}
use Rattle.lists.specs.Lists.{distinct}
use Rattle.links.specs.Gather.{itself}
use Rattle.lists.proofs.Distinct.{keys_differ, keys_from_lem}

abbrev pub lowest_octet : ℕ → ℕ
lowest_octet x = x % 256

-- numbers differ where their lowest octets do
pub octets_differ : (l : List ℕ) → distinct lowest_octet l ≡ true → distinct itself l ≡ true
octets_differ l h =
    keys_from_lem itself l 0
    (λ i j k b e. keys_differ lowest_octet l i j 0 h (λ q. omega arith) (omega arith) b (ap lowest_octet e))
