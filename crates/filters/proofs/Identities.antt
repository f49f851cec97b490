-- An entry's type and address against the numbers that the code compares: octets below 256 are told apart by their number,
-- and equal ones have equal lowest octets. For the searches of this crate.
use Prim.Native.Nat.{ℕ, zero, suc, ◌+◌, ◌*◌, ◌≤◌, ◌<◌}
use native.Mathlib.Omega.{arith}
use mathlib.Core.Bool.{Bool, true, false, cond}
use mathlib.Core.Path.{◌≡◌, refl, sym, ap, ap₂, ◌∙◌}
use mathlib.Core.List.{List, [], ◌∷◌, map}
use lib.Dec.{eqb}
use lib.ListN.{length, take, drop, get_or, length-map, length-take, length-drop}
use lib.Seq.{get_or-take, take_all, length-take-le}
use borrow.Author.Tests.{eq-eqb, ne_eqb, eqb-true, eqb-false}
use borrow.Table.Steps.{cases}
use Rattle.std.specs.Prelude.{position}
use Rattle.lists.specs.Lists.{first_at, any, same_list, chunks}
use Rattle.lists.proofs.Search.{position_first}
use Rattle.lists.proofs.Same.{same_equal, same_self}
use Rattle.lists.proofs.Chunks.{length_chunks, get_d_chunks}
use Rattle.lists.proofs.Agree.{first_agree, any_agree_at, distinct_agree}
use Rattle.octets.specs.Octets.{le, number_at}
use Rattle.octets.proofs.Numbers.{le_number}
use Rattle.filters.specs.Filters.{has_identity, identities_differ, entries_differ}
use Rattle.filters.specs.Keys.{key_of, low_of, IsEntry}
use Rattle.filters.proofs.Flat.{within}

-- ---- a number that is read of the first n octets is read of the whole
number_take : (w n : ℕ) (x : List ℕ) (i : ℕ) → i + w ≤ n → number_at w (take n x) i ≡ number_at w x i
number_take zero n x i h = refl
number_take (suc zero) n x i h = get_or-take n x i 0 (omega arith)
number_take (suc (suc w)) n x i h =
    ap₂ (λ (a b : ℕ). a + 256 * b) (get_or-take n x i 0 (omega arith)) (number_take (suc w) n x (suc i) (omega arith))

-- entries with the same type and address have the same lowest octets
pub same_low : (x y : List ℕ) → same_list (take 7 x) (take 7 y) ≡ true → low_of x ≡ low_of y
unfolding low_of
same_low x y e =
    sym (number_take 4 7 x 1 (omega arith)) ∙ ap (λ (p : List ℕ). number_at 4 p 1) (same_equal _ _ e)
    ∙ number_take 4 7 y 1 (omega arith)

-- ---- a search of what f gives of each element
first_map : {A B : Type 0} (f : A → B) (p : B → Bool) (l : List A) → first_at p (map f l) ≡ first_at (λ a. p (f a)) l
unfolding first_at
first_map f p [] = refl
first_map f p (a ∷ l) = rw (first_map f p l)

-- ---- an entry with the key of `identity` is one with that identity
octets_of : (x : List ℕ) → IsEntry x → le 7 (key_of x) ≡ take 7 x
unfolding key_of
octets_of x h =
    let long = length-take-le 7 x h.0 in
    ap (le 7) (sym (number_take 7 7 x 0 (omega arith))) ∙ le_number 7 (take 7 x) 0 (omega (arith, long)) h.1
    ∙ take_all 7 (take 7 x) (omega (arith, long))

same_key : (identity x : List ℕ) → has_identity identity x ≡ true → key_of x ≡ key_of identity
unfolding key_of
same_key identity x e =
    sym (number_take 7 7 x 0 (omega arith)) ∙ ap (λ (p : List ℕ). number_at 7 p 0) (sym (same_equal _ _ e))

-- A search of the keys tells of a list that is an entry only where it has read it. Of any list, this number is the key of
-- `identity` exactly if the list has that identity.
pub told : List ℕ → List ℕ → ℕ
told identity x =
    cond (has_identity identity x) (key_of identity)
    (cond (eqb (key_of x) (key_of identity)) (suc (key_of identity)) (key_of x))

told_same : (identity x : List ℕ) → eqb (told identity x) (key_of identity) ≡ has_identity identity x
unfolding key_of told
told_same identity x =
    cases (has_identity identity x) (λ h. rw h (eq-eqb (key_of identity) (key_of identity) refl))
    (λ h.
    cases (eqb (key_of x) (key_of identity))
    (λ k. rw (h, k) (ne_eqb (suc (key_of identity)) (key_of identity) (λ q. omega arith))) (λ k. rw (h, k) k))

pub position_told : (identity : List ℕ) (key : ℕ) → key ≡ key_of identity → (xs : List (List ℕ))
    → position (λ k. eqb k key) (map (told identity) xs) ≡ position (has_identity identity) xs
position_told identity key is xs =
    let same = first_map (told identity) (λ k. eqb k key) xs
    ∙ first_agree (λ x. eqb (told identity x) key) (has_identity identity) xs []
    (λ i h. rw is (told_same identity (get_or xs i []))) in
    position_first (λ k. eqb k key) (map (told identity) xs)
    ∙ rw (same, length-map) (sym (position_first (has_identity identity) xs))

-- an entry with another key, or with other lowest octets, is none with that identity
module _ (identity x : List ℕ) where
  pub key_other : (key_of x ≡ key_of identity → ⊥) → has_identity identity x ≡ false
  key_other h = cases (has_identity identity x) (λ e. absurd (h (same_key identity x e))) (λ e. e)

  pub low_other : length identity ≡ 7 → (low_of x ≡ low_of identity → ⊥) → has_identity identity x ≡ false
  low_other seven h =
      let whole : take 7 identity ≡ identity = take_all 7 identity (omega arith) in
      cases (has_identity identity x)
      (λ e. absurd (h (sym (same_low identity x (ap (λ (p : List ℕ). same_list p (take 7 x)) whole ∙ e))))) (λ e. e)

module _ (identity : List ℕ) (seven : length identity ≡ 7) (i : IsEntry identity) where
  pub key_identity : (x : List ℕ) → IsEntry x → eqb (key_of x) (key_of identity) ≡ has_identity identity x
  key_identity x e =
      cases (eqb (key_of x) (key_of identity))
      (λ k.
      let equal : identity ≡ take 7 x =
      sym (take_all 7 identity (omega arith)) ∙ sym (octets_of identity i) ∙ ap (le 7) (sym (eqb-true _ _ k)) ∙ octets_of x e in
      k ∙ sym (ap (same_list identity) (sym equal) ∙ same_self identity))
      (λ k. k ∙ sym (key_other identity x (eqb-false _ _ k)))

  -- `told` is the key of an entry
  pub told_key : (x : List ℕ) → IsEntry x → key_of x ≡ told identity x
  unfolding key_of told
  told_key x e =
      let same = key_identity x e in
      cases (has_identity identity x) (λ h. rw h (eqb-true _ _ (same ∙ h))) (λ h. rw (h, same ∙ h) refl)

-- ---- the entries of a flat array
pub entry_length : (w n : ℕ) (l : List ℕ) → n * w ≤ length l → (i : ℕ) → i < n → length (get_or (chunks w n l) i []) ≡ w
entry_length w n l fits i h =
    rw (get_d_chunks w n l i [] h) (length-take-le w (drop (i * w) l) (simp length-drop (omega (arith, within w n i h))))

-- an entry of seven octets is its own type and address: with no mode behind them, identities are entries
module _ (n : ℕ) (l : List ℕ) where
  entry_whole : (i : ℕ) → i < length (chunks 7 n l) → take 7 (get_or (chunks 7 n l) i []) ≡ get_or (chunks 7 n l) i []
  entry_whole i h =
      let b : i < n = rw length_chunks at h in
      rw (get_d_chunks 7 n l i [] b) (take_all 7 (take 7 (drop (i * 7) l)) (omega (arith, length-take 7 (drop (i * 7) l))))

  pub first_entry : (entry : List ℕ) → first_at (has_identity entry) (chunks 7 n l) ≡ first_at (same_list entry) (chunks 7 n l)
  first_entry entry = first_agree _ _ (chunks 7 n l) [] (λ i h. ap (same_list entry) (entry_whole i h))

  pub any_entry : (entry : List ℕ) → any (has_identity entry) (chunks 7 n l) ≡ any (same_list entry) (chunks 7 n l)
  any_entry entry = any_agree_at _ _ (chunks 7 n l) [] (λ i h. ap (same_list entry) (entry_whole i h))

  pub differ_entry : identities_differ (chunks 7 n l) ≡ entries_differ (chunks 7 n l)
  differ_entry =
      distinct_agree _ _ (chunks 7 n l) []
      (λ i j h b. ap₂ same_list (entry_whole i (omega arith)) (entry_whole j b))
