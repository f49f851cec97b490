-- Numbers in a line: the loop that reads a field's digits, and what a field that is a number, or is none, says of the record. For
-- the proofs of the reader.
use Prim.Native.Nat.{ℕ, suc, ◌+◌, ◌-◌, ◌*◌, ◌≤◌, ◌<◌}
use native.Mathlib.Omega.{arith}
use native.Mathlib.Numerals.{add-one}
use mathlib.Core.Bool.{true, false, ◌&&◌, and-eq-true_iff, and-false}
use mathlib.Core.Path.{◌≡◌, refl, sym, ap, ◌∙◌}
use mathlib.Core.List.{List, [], ◌∷◌}
use lib.Dec.{leb, ltb}
use lib.ListN.{length, take, drop, get_or}
use lib.Seq.{drop-cons, drop-length}
use borrow.Author.Rules.{part_to_end}
use borrow.Author.Tests.{le-leb, lt-leb, lt-ltb, le-ltb, ltb-true}
use borrow.Table.Steps.{cases}
use Rattle.lists.specs.Lists.{first_at, any, all, same_list}
use Rattle.lists.proofs.Tests.{any_first}
use Rattle.calls.specs.Calls.{open_connection}
use Rattle.records.specs.Lines.{Line, calls, no_record, fields, is_digit, decimal, is_number, read_fields}
use Rattle.records.specs.Reading.{is_tab, number_of, followed, first_of, pair_of}
use Rattle.std.specs.Prelude.{Option, Some, None, position}
use Rattle.std.proofs.lemmas.Option.{none-some, same_Some, some_pair_parts}
use Rattle.lists.proofs.Search.{position_some, position_none}
use Rattle.records.proofs.Fields.{behind, tabless, fields_alone, fields_first, fields_some, fields_several, same}

-- ---- the digits of a field

-- a number does not get less by more digits
decimal_grows : (n : ℕ) (l : List ℕ) → n ≤ decimal n l
unfolding decimal
decimal_grows n [] = omega arith
decimal_grows n (x ∷ l) = let h = decimal_grows (10 * n + (x - 48)) l in omega arith

-- n is what the first i digits of a field say, which has one at least
pub record Counting (f : List ℕ) (n i : ℕ) : Type 0 where
  pub some : 1 ≤ length f
  pub within : i ≤ length f
  pub small : n ≤ 65535
  pub value : decimal 0 f ≡ decimal n (drop i f)
  pub digits : all is_digit f ≡ all is_digit (drop i f)

pub counting_next : {f : List ℕ} {n i m : ℕ} → Counting f n i → i < length f → is_digit (get_or f i 0) ≡ true
    → m ≡ 10 * n + (get_or f i 0 - 48)
    → m ≤ 65535 → Counting f m (i + 1)
unfolding decimal all
counting_next {f} {n} {i} {m} c h digit e most = record {
  some = c.some;
  within = omega arith;
  small = most;
  value = c.value ∙ rw (add-one, drop-cons f i 0 h, e);
  digits = c.digits ∙ rw (add-one, drop-cons f i 0 h, digit);
}

-- a character that is no digit
pub counting_other : {f : List ℕ} {n i : ℕ} → Counting f n i → i < length f → is_digit (get_or f i 0) ≡ false → None ≡ number_of f
unfolding number_of is_number all
counting_other {f} {n} {i} c h other =
    let e : all is_digit f ≡ false = c.digits ∙ rw (drop-cons f i 0 h, other) in
    rw (e, and-false (leb 1 (length f)))

-- the number is too large already
pub counting_past : {f : List ℕ} {n i : ℕ} → Counting f n i → i < length f → 65535 < 10 * n + (get_or f i 0 - 48)
    → None ≡ number_of f
unfolding number_of is_number decimal
counting_past {f} {n} {i} c h most =
    let m = 10 * n + (get_or f i 0 - 48) in
    let e : decimal 0 f ≡ decimal m (drop (suc i) f) = c.value ∙ rw (drop-cons f i 0 h) in
    let g = decimal_grows m (drop (suc i) f) in
    let z : leb (decimal 0 f) 65535 ≡ false = lt-leb (decimal 0 f) 65535 (omega arith) in
    rw (z, and-false (all is_digit f), and-false (leb 1 (length f)))

-- all digits are read
pub counting_all : {f : List ℕ} {n i : ℕ} → Counting f n i → length f ≤ i → Some n ≡ number_of f
unfolding number_of is_number decimal all
counting_all {f} {n} {i} c h =
    let l : i ≡ length f = omega arith in
    let e : decimal 0 f ≡ n = c.value ∙ rw (l, drop-length) in
    let d : all is_digit f ≡ true = c.digits ∙ rw (l, drop-length) in
    rw (le-leb 1 (length f) c.some, d, e, le-leb n 65535 c.small)

-- an empty field is no number
pub counting_empty : (f : List ℕ) → length f ≡ 0 → None ≡ number_of f
unfolding number_of is_number
counting_empty f e = rw (lt-leb 1 (length f) (omega arith))

-- ---- a number up to the end of the line

-- the last field is a number
pub record Last (l : List ℕ) (n : ℕ) : Type 0 where
  pub alone : fields l ≡ l ∷ []
  pub number : is_number l ≡ true
  pub value : decimal 0 l ≡ n

pub last_yes : (l : List ℕ) (n : ℕ) → Some n ≡ number_of l → Last l n
unfolding number_of is_number
last_yes l n h =
    cases (is_number l)
    (λ e.
    let v : Some n ≡ Some (decimal 0 l) = rw e at h in
    let d = ((and-eq-true_iff (all is_digit l) (leb (decimal 0 l) 65535)).0 ((and-eq-true_iff (leb 1 (length l)) _).0 e).1).0 in
    record { alone = fields_alone l (tabless is_digit l refl d); number = e; value = sym (same_Some _ _ v) })
    (λ e. absurd (none-some n (sym (rw e at h))))

-- a field that is no number
number_no : (l : List ℕ) → number_of l ≡ None → is_number l ≡ false
unfolding number_of
number_no l h =
    cases (is_number l)
    (λ y. absurd (none-some (decimal 0 l) (sym (rw y at h))))
    (λ n. n)

-- the field up to the end is no number, or there are several
pub data NotLast : List (List ℕ) → Type 0 where
  lone : (f : List ℕ) → is_number f ≡ false → NotLast (f ∷ [])
  several : (f g : List ℕ) (fs : List (List ℕ)) → NotLast (f ∷ g ∷ fs)

pub last_no : (l : List ℕ) → None ≡ number_of l → NotLast (fields l)
last_no l h =
    cases (any is_tab l) (λ e. let s = fields_several l e in rw s.is (several s.first s.second s.more))
    (λ e. rw (fields_alone l e) (lone l (number_no l (sym h))))

-- ---- a number and a tab

-- the first field is a number, and another follows
pub record Headed (l : List ℕ) (n : ℕ) (more : List ℕ) : Type 0 where
  pub field : List ℕ
  pub is : fields l ≡ field ∷ fields more
  pub number : is_number field ≡ true
  pub value : decimal 0 field ≡ n

-- by what the first field says: a number, or none
followed_yes : (m : Option ℕ) (k more : List ℕ) (n : ℕ) → followed m k ≡ Some (n, more) → (m ≡ Some n) × (k ≡ more)
followed_yes (Some x) k more n e = let same = some_pair_parts x n k more e in (ap Some same.0, same.1)
followed_yes None k more n e = absurd (none-some (n, more) e)

pub head_yes : (l : List ℕ) (n : ℕ) (more : List ℕ) → first_of l ≡ Some (n, more) → Headed l n more
unfolding first_of
head_yes l n more h =
    let k = first_at is_tab l in
    cases (ltb k (length l))
    (λ e.
    let t : k < length l = ltb-true k (length l) e in
    let m = followed_yes (number_of (take k l)) (drop (suc k) l) more n (rw e at h) in
    let w = last_yes (take k l) n (sym m.0) in
    record {
      field = take k l;
      is = rw (sym m.1) (fields_first l t);
      number = w.number;
      value = w.value;
    })
    (λ e. absurd (none-some (n, more) (rw e at h)))

-- the first field is no number, or no other follows
pub data Headless : List (List ℕ) → Type 0 where
  single : (f : List ℕ) → Headless (f ∷ [])
  wrong : (f g : List ℕ) (fs : List (List ℕ)) → is_number f ≡ false → Headless (f ∷ g ∷ fs)

followed_no : (m : Option ℕ) (k : List ℕ) → followed m k ≡ None → m ≡ None
followed_no (Some x) k e = absurd (none-some (x, k) (sym e))
followed_no None k e = refl

pub head_no : (l : List ℕ) → first_of l ≡ None → Headless (fields l)
unfolding first_of
head_no l h =
    let k = first_at is_tab l in
    cases (ltb k (length l))
    (λ e.
    let s = fields_some (drop (suc k) l) in
    let n = number_no (take k l) (followed_no (number_of (take k l)) (drop (suc k) l) (rw e at h)) in
    rw (fields_first l (ltb-true k (length l) e), s.is) (wrong (take k l) s.first s.more n))
    (λ e. rw (fields_alone l (any_first is_tab l ∙ e)) (single l))

-- how the code finds out
module _ (l : List ℕ) where
  pub first_tabless : None ≡ position is_tab l → first_of l ≡ None
  unfolding first_of
  first_tabless h = rw (le-ltb (first_at is_tab l) (length l) (position_none is_tab l (sym h)))

  module _ (i : ℕ) (found : Some i ≡ position is_tab l) where
    pub first_no_lem : None ≡ number_of (take i l) → first_of l ≡ None
    unfolding first_of
    first_no_lem n =
        let p = position_some is_tab l i (sym found) in
        rw (sym p.0, lt-ltb i (length l) p.1, sym n)

    pub first_yes : (n : ℕ) → Some n ≡ number_of (take i l) → first_of l ≡ Some (n, behind l (i + 1))
    unfolding first_of
    first_yes n v =
        let p = position_some is_tab l i (sym found) in
        rw (part_to_end l (i + 1), add-one i, sym p.0, lt-ltb i (length l) p.1, sym v)

    pub first_within : i < length l
    first_within = (position_some is_tab l i (sym found)).1

-- ---- a pair of numbers

pair_headless : {fs : List (List ℕ)} → Headless fs → None ≡ pair_of fs
pair_headless (single f) = refl
pair_headless (wrong f g [] n) = rw n
pair_headless (wrong f g (a ∷ fs) n) = refl

pair_unlike : {fs : List (List ℕ)} (a : List ℕ) → NotLast fs → None ≡ pair_of (a ∷ fs)
pair_unlike a (lone f n) = rw (n, and-false (is_number a))
pair_unlike a (several f g fs) = refl

pub pair_none : (l : List ℕ) → first_of l ≡ None → None ≡ pair_of (fields l)
pair_none l h = pair_headless (head_no l h)

pub pair_one : (l : List ℕ) (n : ℕ) (more : List ℕ) → first_of l ≡ Some (n, more) → None ≡ number_of more
    → None ≡ pair_of (fields l)
pair_one l n more h k =
    let a = head_yes l n more h in
    rw a.is (pair_unlike a.field (last_no more k))

pub pair_both : (l : List ℕ) (n m : ℕ) (more : List ℕ) → first_of l ≡ Some (n, more) → Some m ≡ number_of more
    → Some (n, m) ≡ pair_of (fields l)
pair_both l n m more h k =
    let a = head_yes l n more h in
    let b = last_yes more m k in
    rw (a.is, b.alone, a.number, b.number, a.value, b.value)

-- ---- the record of letter `O`

-- what two numbers and a pair after them say
abbrev pub open_line : ℕ → ℕ → Option (ℕ × ℕ) → Line
open_line n m (Some (a, b)) = calls (open_connection n m a b)
open_line n m None = no_record

opening_headless : {fs : List (List ℕ)} → Headless fs → no_record ≡ read_fields ((79 ∷ []) ∷ fs)
unfolding same_list
opening_headless (single f) = refl
opening_headless (wrong f g [] n) = rw n
opening_headless (wrong f g (a ∷ []) n) = refl
opening_headless (wrong f g (a ∷ b ∷ []) n) = rw n
opening_headless (wrong f g (a ∷ b ∷ c ∷ fs) n) = refl

opening_second : {fs : List (List ℕ)} (a : List ℕ) → Headless fs → no_record ≡ read_fields ((79 ∷ []) ∷ a ∷ fs)
unfolding same_list
opening_second a (single f) = sym (same (is_number a && is_number f) no_record)
opening_second a (wrong f g [] n) = refl
opening_second a (wrong f g (b ∷ []) n) = rw (n, and-false (is_number a))
opening_second a (wrong f g (b ∷ c ∷ fs) n) = refl

opening_pair : (a b : List ℕ) (fs : List (List ℕ)) (n m : ℕ) → is_number a ≡ true → is_number b ≡ true → decimal 0 a ≡ n
    → decimal 0 b ≡ m
    → open_line n m (pair_of fs) ≡ read_fields ((79 ∷ []) ∷ a ∷ b ∷ fs)
unfolding same_list
opening_pair a b [] n m y z v w = rw (y, z)
opening_pair a b (c ∷ []) n m y z v w = refl
opening_pair a b (c ∷ d ∷ []) n m y z v w = rw (y, z, v, w) (cases (is_number c && is_number d) (λ e. rw e) (λ e. rw e))
opening_pair a b (c ∷ d ∷ e ∷ fs) n m y z v w = refl

pub opening_none : (l : List ℕ) → first_of l ≡ None → no_record ≡ read_fields ((79 ∷ []) ∷ fields l)
opening_none l h = opening_headless (head_no l h)

pub opening_one : (l : List ℕ) (n : ℕ) (more : List ℕ) → first_of l ≡ Some (n, more) → first_of more ≡ None
    → no_record ≡ read_fields ((79 ∷ []) ∷ fields l)
opening_one l n more h k =
    let a = head_yes l n more h in
    rw a.is (opening_second a.field (head_no more k))

pub opening_two : (l : List ℕ) (n m : ℕ) (more last : List ℕ) (p : Option (ℕ × ℕ)) → first_of l ≡ Some (n, more)
    → first_of more ≡ Some (m, last) → p ≡ pair_of (fields last) → open_line n m p ≡ read_fields ((79 ∷ []) ∷ fields l)
opening_two l n m more last p h k e =
    let a = head_yes l n more h in
    let b = head_yes more m last k in
    rw (a.is, b.is, e) (opening_pair a.field b.field (fields last) n m a.number b.number a.value b.value)
