-- The fields of a line: up to its first tab and from there on, and what the first two characters of a line say of it. For the
-- proofs of the reader.
use Prim.Native.Nat.{ℕ, suc, ◌-◌, ◌≤◌, ◌<◌}
use native.Mathlib.Nat.{le_of_suc-le-suc}
use native.Mathlib.Omega.{arith}
use mathlib.Core.Bool.{Bool, true, false, cond, ◌&&◌, true≢false, and-eq-true_iff, and-true, and-false}
use mathlib.Core.Path.{◌≡◌, refl, sym, ap, ◌∙◌}
use mathlib.Core.List.{List, [], ◌∷◌}
use lib.Dec.{eqb}
use lib.ListN.{length, take, drop, get_or}
use borrow.Author.Rules.{part_to_end}
use borrow.Author.Tests.{eq-eqb, ne_eqb, eqb-true, ltb-true}
use borrow.Table.Steps.{cases}
use Rattle.std.specs.Prelude.{Option, Some, None}
use Rattle.lists.specs.Lists.{first_at, any, all, same_list}
use Rattle.lists.proofs.Tests.{any_first}
use Rattle.calls.specs.Calls.{take_transmit, completed}
use Rattle.records.specs.Lines.{Line, calls, no_record, fields, is_number, read_fields, read_line}
use Rattle.records.specs.Reading.{is_tab, pair_of}

-- what stands from index i on, as the code lends it
abbrev pub behind : List ℕ → ℕ → List ℕ
behind l i = take (length l - i) (drop i l)

-- ---- tabs

-- a list whose elements pass a test that a tab fails has no tab
pub tabless : (p : ℕ → Bool) (l : List ℕ) → p 9 ≡ false → all p l ≡ true → any is_tab l ≡ false
unfolding all any
tabless p [] z h = refl
tabless p (x ∷ l) z h =
    let both = (and-eq-true_iff (p x) (all p l)).0 h in
    cases (eqb x 9) (λ e. absurd (true≢false (sym both.0 ∙ ap p (eqb-true x 9 e) ∙ z)))
    (λ e. rw e (tabless p l z both.1))

-- no tab: one field
pub fields_alone : (l : List ℕ) → any is_tab l ≡ false → fields l ≡ l ∷ []
unfolding fields any
fields_alone [] h = refl
fields_alone (x ∷ l) h =
    cases (eqb x 9) (λ e. absurd (true≢false (rw e at h))) (λ e. rw (e, fields_alone l (rw e at h)))

-- the first field ends at the first tab
pub fields_first : (l : List ℕ) → first_at is_tab l < length l
    → fields l ≡ take (first_at is_tab l) l ∷ fields (drop (suc (first_at is_tab l)) l)
unfolding fields first_at
fields_first [] h = absurd (omega arith)
fields_first (x ∷ l) h =
    cases (eqb x 9) (λ e. rw e) (λ e. rw (e, fields_first l (le_of_suc-le-suc (rw e at h))))

-- there is always a first field
pub record SomeField (fs : List (List ℕ)) : Type 0 where
  pub first : List ℕ
  pub more : List (List ℕ)
  pub is : fs ≡ first ∷ more

pub fields_some : (l : List ℕ) → SomeField (fields l)
fields_some l =
    cases (any is_tab l) (λ e. record { first = _; more = _; is = fields_first l (ltb-true _ _ (sym (any_first is_tab l) ∙ e)) })
    (λ e. record { first = _; more = _; is = fields_alone l e })

-- a tab: two fields or more
pub record Several (fs : List (List ℕ)) : Type 0 where
  pub first : List ℕ
  pub second : List ℕ
  pub more : List (List ℕ)
  pub is : fs ≡ first ∷ second ∷ more

pub fields_several : (l : List ℕ) → any is_tab l ≡ true → Several (fields l)
fields_several l e =
    let i = first_at is_tab l in
    let s = fields_some (drop (suc i) l) in
    record {
      first = take i l;
      second = s.first;
      more = s.more;
      is = fields_first l (ltb-true _ _ (sym (any_first is_tab l) ∙ e)) ∙ ap (λ (fs : List (List ℕ)). take i l ∷ fs) s.is;
    }

-- ---- the letter

-- what a line with a pair of numbers says: `T` 84, `C` 67
abbrev pub pair_line : ℕ → Option (ℕ × ℕ) → Line
pair_line x (Some (a, b)) = cond (eqb x 84) (calls (take_transmit a b)) (cond (eqb x 67) (calls (completed a b)) no_record)
pair_line x None = no_record

-- a choice of two that are the same
pub same : {A : Type 0} (b : Bool) (a : A) → cond b a a ≡ a
same true a = refl
same false a = refl

-- no such line has another letter, as a tab
no_letter : (x : ℕ) (p : Option (ℕ × ℕ)) → eqb x 84 ≡ false → eqb x 67 ≡ false → pair_line x p ≡ no_record
no_letter x (Some (a, b)) u v = rw (u, v)
no_letter x None u v = refl

-- an empty first field
letter_none : (fs : List (List ℕ)) → read_fields ([] ∷ fs) ≡ no_record
unfolding same_list
letter_none [] = refl
letter_none (a ∷ []) = refl
letter_none (a ∷ b ∷ []) = same (is_number a && is_number b) no_record
letter_none (a ∷ b ∷ c ∷ []) = refl
letter_none (a ∷ b ∷ c ∷ d ∷ []) = refl
letter_none (a ∷ b ∷ c ∷ d ∷ e ∷ fs) = refl

-- a first field of two characters or more
letter_many : (x y : ℕ) (l : List ℕ) (fs : List (List ℕ)) → read_fields ((x ∷ y ∷ l) ∷ fs) ≡ no_record
unfolding same_list
letter_many x y l [] = refl
letter_many x y l (a ∷ []) = rw (and-false (eqb x 80))
letter_many x y l (a ∷ b ∷ []) =
    rw (and-false (eqb x 84), and-false (eqb x 67)) (same (is_number a && is_number b) no_record)
letter_many x y l (a ∷ b ∷ c ∷ []) = refl
letter_many x y l (a ∷ b ∷ c ∷ d ∷ []) = rw (and-false (eqb x 79))
letter_many x y l (a ∷ b ∷ c ∷ d ∷ e ∷ fs) = refl

-- neither `P` nor `O`: a pair of numbers
letter_pair : (x : ℕ) (fs : List (List ℕ)) → eqb x 80 ≡ false → eqb x 79 ≡ false
    → read_fields ((x ∷ []) ∷ fs) ≡ pair_line x (pair_of fs)
unfolding same_list
letter_pair x [] p o = refl
letter_pair x (a ∷ []) p o = rw p
letter_pair x (a ∷ b ∷ []) p o =
    rw (and-true (eqb x 84), and-true (eqb x 67)) (cases (is_number a && is_number b) (λ e. rw e) (λ e. rw e))
letter_pair x (a ∷ b ∷ c ∷ []) p o = refl
letter_pair x (a ∷ b ∷ c ∷ d ∷ []) p o = rw o
letter_pair x (a ∷ b ∷ c ∷ d ∷ e ∷ fs) p o = refl

-- ---- the first two characters of a line

-- less than two
pub line_short : (line : List ℕ) → length line < 2 → no_record ≡ read_line line
unfolding read_line fields
line_short [] h = refl
line_short (x ∷ []) h = cases (eqb x 9) (λ e. rw e (sym (letter_none ([] ∷ [])))) (λ e. rw e)
line_short (x ∷ y ∷ l) h = absurd (omega arith)

-- no tab is the second
pub line_tabless : (line : List ℕ) → 2 ≤ length line → (get_or line 1 0 ≡ 9 → ⊥) → no_record ≡ read_line line
unfolding read_line fields
line_tabless [] h n = absurd (omega arith)
line_tabless (x ∷ []) h n = absurd (omega arith)
line_tabless (x ∷ y ∷ l) h n =
    let s = fields_some l in
    cases (eqb x 9) (λ e. rw e (sym (letter_none (fields (y ∷ l)))))
    (λ e. rw (e, ne_eqb y 9 n, s.is) (sym (letter_many x y s.first s.more)))

-- a tab in place of the letter
line_tab : (line : List ℕ) → 2 ≤ length line → get_or line 0 0 ≡ 9 → no_record ≡ read_line line
unfolding read_line fields
line_tab [] h e = absurd (omega arith)
line_tab (x ∷ l) h e = rw (eq-eqb x 9 e) (sym (letter_none (fields l)))

-- a letter and a tab
letter_tab : (line : List ℕ) (x : ℕ) → 2 ≤ length line → get_or line 1 0 ≡ 9 → get_or line 0 0 ≡ x → eqb x 9 ≡ false
    → read_fields ((x ∷ []) ∷ fields (drop 2 line)) ≡ read_line line
unfolding read_line fields
letter_tab [] x h t e n = absurd (omega arith)
letter_tab (z ∷ []) x h t e n = absurd (omega arith)
letter_tab (z ∷ y ∷ l) x h t e n = rw (eq-eqb y 9 t, e, n)

module _ (line : List ℕ) (x : ℕ) (h : 2 ≤ length line) (t : get_or line 1 0 ≡ 9) (e : get_or line 0 0 ≡ x) where
  pub line_letter : eqb x 9 ≡ false → read_fields ((x ∷ []) ∷ fields (behind line 2)) ≡ read_line line
  line_letter n = rw (part_to_end line 2) (letter_tab line x h t e n)

  -- neither `P` nor `O`
  pub line_pair : (p : Option (ℕ × ℕ)) → eqb x 80 ≡ false → eqb x 79 ≡ false → p ≡ pair_of (fields (behind line 2))
      → pair_line x p ≡ read_line line
  line_pair p n o q =
      cases (eqb x 9)
      (λ u. let z = eqb-true x 9 u in rw z (no_letter 9 p refl refl) ∙ line_tab line h (e ∙ z))
      (λ u. rw q (sym (letter_pair x (fields (behind line 2)) n o)) ∙ line_letter u)

  -- and neither `T` nor `C`
  pub line_other : eqb x 80 ≡ false → eqb x 79 ≡ false → eqb x 84 ≡ false → eqb x 67 ≡ false → no_record ≡ read_line line
  line_other n o u v = sym (no_letter x (pair_of (fields (behind line 2))) u v)
      ∙ line_pair (pair_of (fields (behind line 2))) n o refl
