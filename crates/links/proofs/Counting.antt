-- Numbers that stand in a list once each: for the loop that counts each handle over all sixteen places in place of a search.
use Prim.Native.Nat.{ℕ, zero, suc, ◌≤◌, ◌<◌}
use native.Mathlib.Nat.{le_of_suc-le-suc}
use native.Mathlib.Omega.{arith}
use mathlib.Core.Bool.{true, not, and-eq-true_iff}
use mathlib.Core.Path.{◌≡◌, refl, sym, ◌∙◌}
use mathlib.Core.List.{List, [], ◌∷◌}
use lib.ListN.{length, take, get_or}
use lib.Seq.{length-take-le, get_or-take}
use borrow.Author.Tests.{eq-eqb, not-true}
use Rattle.lists.specs.Lists.{any, keep, keyed, distinct_by, distinct}
use Rattle.lists.proofs.Tests.{none_at}
use Rattle.lists.proofs.Same.{eqb_sym}
use Rattle.lists.proofs.Filter.{keep_none}
use Rattle.lists.proofs.Distinct.{keys_from_lem}
use Rattle.lists.proofs.Counting.{count_two}
use Rattle.links.specs.Gather.{itself, times_in}

-- ---- numbers that differ stand once each, and back
pub distinct_once : (l : List ℕ) (i : ℕ) → distinct itself l ≡ true → i < length l → times_in (get_or l i 0) l ≡ 1
unfolding keep distinct_by
distinct_once [] i h b = absurd (omega arith)
distinct_once (a ∷ l) zero h b =
    let k = (and-eq-true_iff (not (any (keyed itself a) l)) (distinct itself l)).0 h in
    rw (eq-eqb a a refl, keep_none (keyed itself a) l (not-true _ k.0))
distinct_once (a ∷ l) (suc i) h b =
    let k = (and-eq-true_iff (not (any (keyed itself a) l)) (distinct itself l)).0 h in
    let other = none_at (keyed itself a) l i 0 (not-true _ k.0) (le_of_suc-le-suc b) in
    rw (eqb_sym a (get_or l i 0), other) (distinct_once l i k.1 (le_of_suc-le-suc b))

-- each of the first n stands once among all
pub once_first : (l : List ℕ) (n : ℕ) → ((i : ℕ) → i < n → times_in (get_or l i 0) l ≡ 1) → n ≤ length l
    → distinct itself (take n l) ≡ true
once_first l n h m =
    let len = length-take-le n l m in
    keys_from_lem itself (take n l) 0
    (λ i j k b e.
    let same : get_or l i 0 ≡ get_or l j 0 =
    sym (get_or-take n l i 0 (omega arith)) ∙ e ∙ get_or-take n l j 0 (omega arith) in
    let two : 2 ≤ times_in (get_or l j 0) l =
    count_two (keyed itself (get_or l j 0)) l i j 0 (eq-eqb _ _ same) (eq-eqb (get_or l j 0) (get_or l j 0) refl) k
    (omega arith) in
    let once = h j (omega arith) in
    omega arith)
