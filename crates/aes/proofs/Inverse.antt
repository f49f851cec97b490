-- inverse is the inverse of the field: b times it is 1 for each octet b but 0. One test that is computed over all 256
-- octets, and the law.
use mathlib.Core.Path.{◌≡◌}
use mathlib.Core.Bool.{Bool, true}
use Prim.Native.Nat.{ℕ, zero, suc, ◌<◌}
use native.Mathlib.Nat.{not-suc-le-zero}
use lib.Dec.{T, eqb, eqb→eq}
use lib.ListN.{replicate, get_or}
use Rattle.lists.proofs.Table.{at}
use Rattle.aes.specs.Field.{mul, inverse, xtime}

-- the test at octet b; the list that it goes along has no part in it
right : ℕ → ℕ → Bool
right zero x = true
right (suc k) x = eqb (mul (suc k) (inverse (suc k))) 1

tested : (b : ℕ) → b < 256 → T (right b (get_or (replicate 256 0) b 0))
unfolding right inverse xtime
tested b h = at right (replicate 256 0) 0 tt b h

pub law : (b : ℕ) → 0 < b → b < 256 → mul b (inverse b) ≡ 1
unfolding right
law zero p h = absurd (not-suc-le-zero p)
law (suc k) p h = eqb→eq (mul (suc k) (inverse (suc k))) 1 (tested (suc k) h)
