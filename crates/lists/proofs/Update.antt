-- The first element that passes, changed in place: `update_first`, for a search and a store, and what it keeps.
use Prim.Native.Nat.{ℕ, suc, ◌<◌, ◌≤◌}
use native.Mathlib.Nat.{le_of_suc-le-suc}
use native.Mathlib.Omega.{arith}
use mathlib.Core.Bool.{Bool, true}
use mathlib.Core.Path.{◌≡◌, refl, sym, ap, ◌∙◌}
use mathlib.Core.List.{List, [], ◌∷◌, map}
use lib.ListN.{length, take, get_or, set}
use lib.Seq.{get_or-take, take-set-lt, length-take-le}
use borrow.Table.Steps.{cases}
use Rattle.lists.specs.Lists.{first_at, update_first, any}

module _ {A : Type 0} (p : A → Bool) (f : A → A) where
  -- it is a store at the index that the search finds
  pub update_at : (l : List A) (d : A) → first_at p l < length l
      → update_first p f l ≡ set l (first_at p l) (f (get_or l (first_at p l) d))
  unfolding update_first first_at
  update_at [] d h = absurd (omega arith)
  update_at (a ∷ l) d h =
      cases (p a) (λ e. rw e) (λ e. rw e (ap (◌∷◌ a) (update_at l d (le_of_suc-le-suc (rw e at h)))))

  -- where the search finds nothing, nothing changes
  pub update_none : (l : List A) → length l ≤ first_at p l → update_first p f l ≡ l
  unfolding update_first first_at
  update_none [] h = refl
  update_none (a ∷ l) h =
      cases (p a) (λ e. absurd (let k = rw e at h in omega arith))
      (λ e. rw e (ap (◌∷◌ a) (update_none l (le_of_suc-le-suc (rw e at h)))))

  -- the same over the first n elements of an array
  pub update_prefix : (xs : List A) (n i : ℕ) (d : A) → i ≡ first_at p (take n xs) → i < n → n ≤ length xs
      → take n (set xs i (f (get_or xs i d))) ≡ update_first p f (take n xs)
  update_prefix xs n i d e h k =
      let len : length (take n xs) ≡ n = length-take-le n xs k in
      take-set-lt n xs i (f (get_or xs i d)) h
      ∙ rw (← get_or-take n xs i d h, e) (sym (update_at (take n xs) d (omega arith)))

  -- ---- what it keeps
  pub length_update : (l : List A) → length (update_first p f l) ≡ length l
  unfolding update_first
  length_update [] = refl
  length_update (a ∷ l) = cases (p a) (λ e. rw e) (λ e. rw e (ap suc (length_update l)))

  -- what g gives of each element, where the change leaves it as it was
  pub map_update : {B : Type 0} (g : A → B) (l : List A) → ((a : A) → p a ≡ true → g (f a) ≡ g a)
      → map g (update_first p f l) ≡ map g l
  unfolding update_first
  map_update g [] k = refl
  map_update g (a ∷ l) k = cases (p a) (λ e. rw (e, k a e)) (λ e. rw e (ap (◌∷◌ (g a)) (map_update g l k)))

  pub any_update : (q : A → Bool) (l : List A) → ((a : A) → p a ≡ true → q (f a) ≡ q a)
      → any q (update_first p f l) ≡ any q l
  unfolding update_first any
  any_update q [] k = refl
  any_update q (a ∷ l) k = cases (p a) (λ e. rw (e, k a e)) (λ e. rw (e, any_update q l k))
