-- Lists of handles: which stand in a list and how many times, after one is added, taken or left out. For the proof that book and
-- state agree.
use mathlib.Core.Path.{◌≡◌, refl, sym, ◌∙◌, ap, subst}
use mathlib.Core.Bool.{Bool, true, false, cond, ◌||◌}
use mathlib.Core.List.{List, [], ◌∷◌, ◌++◌}
use Prim.Native.Nat.{ℕ, suc, ◌+◌, ◌-◌, ◌≤◌, ◌<◌, min}
use native.Mathlib.Omega.{arith}
use lib.Dec.{eqb}
use lib.ListN.{length, length-append, length-take, length-drop}
use borrow.Author.Tests.{eqb-true, eqb-false, eq-eqb, ne_eqb, not-true}
use borrow.Table.Steps.{cases}
use Rattle.lists.specs.Lists.{any, keep, taken, leaving}
use Rattle.lists.proofs.Tests.{any_append}
use Rattle.lists.proofs.Filter.{keep_append, keep_none, keep_both}
use Rattle.lists.proofs.Taking.{taken_keep, keep_leaving, keep_leaving_other, taken_leaving}
use Rattle.lists.proofs.Counting.{any_count}
use Rattle.credits.specs.Credits.{put, sum_below}
use Rattle.credits.specs.Steps.{has, others}
use Rattle.credits.proofs.Sums.{sum_cong, sum_zero, sum_put}

-- how many times the handle stands in the list
abbrev pub times : ℕ → List ℕ → ℕ
times h l = length (keep (λ x. eqb x h) l)

-- ---- none
pub times_none : (h : ℕ) (l : List ℕ) → has h l ≡ false → times h l ≡ 0
times_none h l e = ap length (keep_none (λ x. eqb x h) l e)

-- ---- the others
pub has_others_same : (h : ℕ) (l : List ℕ) → has h (others h l) ≡ false
unfolding any keep
has_others_same h [] = refl
has_others_same h (x ∷ l) = cases (eqb x h) (λ e. rw e (has_others_same h l)) (λ e. rw (e, e) (has_others_same h l))

pub has_others : (k h : ℕ) (l : List ℕ) → (k ≡ h → ⊥) → has k (others h l) ≡ has k l
unfolding any keep
has_others k h [] n = refl
has_others k h (x ∷ l) n =
    cases (eqb x h)
    (λ e. rw (e, ne_eqb x k (λ y. n (sym y ∙ eqb-true x h e))) (has_others k h l n))
    (λ e. rw e (rw (has_others k h l n)))

pub times_others_same : (h : ℕ) (l : List ℕ) → times h (others h l) ≡ 0
times_others_same h l = times_none h (others h l) (has_others_same h l)

pub times_others : (k h : ℕ) (l : List ℕ) → (k ≡ h → ⊥) → times k (others h l) ≡ times k l
unfolding keep
times_others k h [] n = refl
times_others k h (x ∷ l) n =
    cases (eqb x h)
    (λ e. rw (e, ne_eqb x k (λ y. n (sym y ∙ eqb-true x h e))) (times_others k h l n))
    (λ e. rw e (cases (eqb x k) (λ u. rw u (ap suc (times_others k h l n))) (λ u. rw u (times_others k h l n))))

pub others_none : (h : ℕ) (l : List ℕ) → has h l ≡ false → others h l ≡ l
unfolding any keep
others_none h [] e = refl
others_none h (x ∷ l) e =
    cases (eqb x h) (λ u. cc (rw u at e)) (λ u. rw u (ap (◌∷◌ x) (others_none h l (rw u at e))))

pub others_at_most : (h : ℕ) (l : List ℕ) → length (others h l) ≤ length l
others_at_most h l = omega (arith, keep_both (λ x. eqb x h) l)

pub others_fewer : (h : ℕ) (l : List ℕ) → has h l ≡ true → length (others h l) < length l
others_fewer h l e =
    let some : eqb (times h l) 0 ≡ false = not-true _ (sym (any_count (λ x. eqb x h) l) ∙ e) in
    omega (arith, keep_both (λ x. eqb x h) l, eqb-false (times h l) 0 some)

-- ---- one more at the end
pub has_last : (k h : ℕ) (l : List ℕ) → has k (l ++ (h ∷ [])) ≡ has k l || eqb h k
unfolding any
has_last k h l = any_append (λ x. eqb x k) l (h ∷ []) ∙ ap (◌||◌ (has k l)) (go (eqb h k))
  where
    go : (t : Bool) → cond t true false ≡ t
    go true = refl
    go false = refl

pub times_last_same : (h : ℕ) (l : List ℕ) → times h (l ++ (h ∷ [])) ≡ times h l + 1
unfolding keep
times_last_same h l =
    rw (keep_append (λ x. eqb x h) l (h ∷ []), eq-eqb h h refl) (length-append (keep (λ x. eqb x h) l) (h ∷ []))

pub times_last : (k h : ℕ) (l : List ℕ) → (k ≡ h → ⊥) → times k (l ++ (h ∷ [])) ≡ times k l
unfolding keep
times_last k h l n =
    rw (keep_append (λ x. eqb x k) l (h ∷ []), ne_eqb h k (λ e. n (sym e)))
    (omega (arith, length-append (keep (λ x. eqb x k) l) []))

-- ---- the first m taken
pub times_left_same : (h m : ℕ) (l : List ℕ) → times h (leaving (λ x. eqb x h) m l) ≡ times h l - m
times_left_same h m l = rw (keep_leaving (λ x. eqb x h) m l) (length-drop m (keep (λ x. eqb x h) l))

pub times_left : (k h m : ℕ) (l : List ℕ) → (k ≡ h → ⊥) → times k (leaving (λ x. eqb x h) m l) ≡ times k l
times_left k h m l n =
    ap length (keep_leaving_other (λ x. eqb x h) (λ x. eqb x k) m l (λ x e. ne_eqb x h (λ y. n (sym (eqb-true x k e) ∙ y))))

pub taken_times : (h m : ℕ) (l : List ℕ) → length (taken (λ x. eqb x h) m l) ≡ min m (times h l)
taken_times h m l = rw (taken_keep (λ x. eqb x h) m l) (length-take m (keep (λ x. eqb x h) l))

pub taken_left : (h m : ℕ) (l : List ℕ) → length (taken (λ x. eqb x h) m l) + length (leaving (λ x. eqb x h) m l) ≡ length l
taken_left h m l = taken_leaving (λ x. eqb x h) m l

-- ---- the length is the sum over the handles, where each is below the bound
times_more : (k x : ℕ) (l : List ℕ) → times k l ≤ times k (x ∷ l)
unfolding keep
times_more k x l = cases (eqb x k) (λ e. rw e (omega arith)) (λ e. rw e (omega arith))

pub length_sum : (n : ℕ) (l : List ℕ) → ((h : ℕ) → 0 < times h l → h < n) → length l ≡ sum_below n (λ k. times k l)
unfolding keep
length_sum n [] b = sym (sum_zero n)
length_sum n (x ∷ l) b = omega (
  arith,
  length_sum n l (λ h p. b h (omega (arith, times_more h x l))),
  sum_put n (λ k. times k l) x (times x l + 1) (b x (rw (eq-eqb x x refl) (omega arith))),
  sum_cong n (λ k. times k (x ∷ l)) (put (λ k. times k l) x (times x l + 1)) each,
)
  where
    here : times x (x ∷ l) ≡ put (λ k. times k l) x (times x l + 1) x
    here = rw (eq-eqb x x refl) (omega arith)

    each : (k : ℕ) → times k (x ∷ l) ≡ put (λ k. times k l) x (times x l + 1) k
    each k =
        cases (eqb k x)
        (λ e. subst (λ (z : ℕ). times z (x ∷ l) ≡ put (λ k. times k l) x (times x l + 1) z) (sym (eqb-true k x e)) here)
        (λ e. rw (e, ne_eqb x k (λ y. eqb-false k x e (sym y))))
