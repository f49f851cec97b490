-- The laws of the pairs of handles and counts that Number Of Completed Packets lists: one pair more, all of them, and their
-- length. For the proof of its writer.
use mathlib.Core.Path.{◌≡◌, refl, ap}
use mathlib.Core.List.{List, [], ◌∷◌, ◌++◌}
use Prim.Native.Nat.{ℕ, zero, suc, ◌*◌, ◌<◌, min}
use native.Mathlib.Nat.{le_of_suc-le-suc, not-suc-le-zero}
use native.Mathlib.Omega.{arith}
use lib.ListN.{length, take, get_or}
use Rattle.octets.specs.Octets.{le}
use Rattle.hci.specs.Packet.{pairs}

-- one pair more
pub pairs_suc : (hs cs : List ℕ) (j : ℕ) → j < length hs → j < length cs
    → pairs (take (suc j) hs) (take (suc j) cs) ≡ pairs (take j hs) (take j cs) ++ (le 2 (get_or hs j 0) ++ le 2 (get_or cs j 0))
unfolding pairs
pairs_suc [] cs j h k = absurd (not-suc-le-zero h)
pairs_suc (x ∷ hs) [] j h k = absurd (not-suc-le-zero k)
pairs_suc (x ∷ hs) (y ∷ cs) zero h k = refl
pairs_suc (x ∷ hs) (y ∷ cs) (suc j) h k =
    ap (λ (l : List ℕ). le 2 x ++ le 2 y ++ l) (pairs_suc hs cs j (le_of_suc-le-suc h) (le_of_suc-le-suc k))

-- as many as the shorter list has are all
pub pairs_all : (hs cs : List ℕ) (k : ℕ) → k ≡ min (length hs) (length cs) → pairs (take k hs) (take k cs) ≡ pairs hs cs
unfolding pairs
pairs_all [] cs zero e = refl
pairs_all [] cs (suc k) e = refl
pairs_all (x ∷ hs) [] zero e = refl
pairs_all (x ∷ hs) [] (suc k) e = refl
pairs_all (x ∷ hs) (y ∷ cs) zero e = absurd (omega arith)
pairs_all (x ∷ hs) (y ∷ cs) (suc k) e = ap (λ (l : List ℕ). le 2 x ++ le 2 y ++ l) (pairs_all hs cs k (omega arith))

-- a pair is four octets
pub length_pairs : (hs cs : List ℕ) → length (pairs hs cs) ≡ 4 * min (length hs) (length cs)
unfolding pairs
length_pairs [] cs = omega arith
length_pairs (x ∷ hs) [] = omega arith
length_pairs (x ∷ hs) (y ∷ cs) =
    let e : length (pairs hs cs) ≡ 4 * min (length hs) (length cs) = length_pairs hs cs in omega arith
