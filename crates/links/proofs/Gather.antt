-- The gathered handles: what looking through all sixteen numbers says of the links.
use Prim.Native.Nat.{ℕ, zero, suc, ◌+◌, ◌≤◌, ◌<◌}
use native.Mathlib.Nat.{zero-add, add-zero, add-suc, suc-add, le_of_suc-le-suc}
use native.Mathlib.Omega.{arith}
use mathlib.Core.Bool.{Bool, true, false, and-eq-true_iff, true≢false}
use mathlib.Core.Path.{◌≡◌, refl, sym, ap, ◌∙◌}
use mathlib.Core.List.{List, [], ◌∷◌, map}
use lib.Dec.{eqb, ltb}
use lib.ListN.{length, take, get_or, set, length-set}
use lib.Seq.{ext_get_or, get_or-set_same, get_or-set_other, get_or-take, length-take-le}
use borrow.Author.Tests.{lt-ltb, le-ltb, ltb-true, ltb-false, ne_eqb, eq-eqb, eqb-true, eqb-false}
use borrow.Table.Steps.{cases}
use Rattle.lists.specs.Lists.{any, all, keyed, distinct_by, distinct}
use Rattle.lists.proofs.Tests.{all_at, all_from}
use Rattle.lists.proofs.Distinct.{keys_map}
use Rattle.links.specs.declared.Connection.{Connection}
use Rattle.links.specs.Links.{has}
use Rattle.links.specs.Holding.{handle_of}
use Rattle.links.specs.Gather.{Gathers, key_at, keys_from, gathered, is_handle, itself, times_in}
use Rattle.links.proofs.Counting.{distinct_once, once_first}

module _ (n : ℕ) where
  pub length_keys : (i : ℕ) (cs : List Connection) → length (keys_from i n cs) ≡ length cs
  unfolding keys_from
  length_keys i [] = refl
  length_keys i (c ∷ cs) = ap suc (length_keys (suc i) cs)

  key_of_lem : (i k : ℕ) (cs : List Connection) (d : Connection) → k < length cs
      → get_or (keys_from i n cs) k 0 ≡ key_at (get_or cs k d).handle (i + k) n
  unfolding keys_from
  key_of_lem i k [] d h = absurd (omega arith)
  key_of_lem i zero (c ∷ cs) d h = rw add-zero
  key_of_lem i (suc k) (c ∷ cs) d h = rw (add-suc, ← suc-add) (key_of_lem (suc i) k cs d (le_of_suc-le-suc h))

  pub key_gathered : (k : ℕ) (cs : List Connection) (d : Connection) → k < length cs
      → get_or (gathered n cs) k 0 ≡ key_at (get_or cs k d).handle k n
  key_gathered k cs d h = rw zero-add at (key_of_lem 0 k cs d h)

  -- past the links each number is above the handles and those before it
  none_spare : (i x : ℕ) (cs : List Connection) → n ≤ i → x < 65536 + i → any (keyed itself x) (keys_from i n cs) ≡ false
  unfolding any keys_from
  none_spare i x [] h b = refl
  none_spare i x (c ∷ cs) h b =
      rw (le-ltb i n h, ne_eqb (65536 + i) x (λ e. omega arith)) (none_spare (suc i) x cs (omega arith) (omega arith))

  differ_spare : (i : ℕ) (cs : List Connection) → n ≤ i → distinct itself (keys_from i n cs) ≡ true
  unfolding distinct_by keys_from
  differ_spare i [] h = refl
  differ_spare i (c ∷ cs) h =
      rw (le-ltb i n h, none_spare (suc i) (65536 + i) cs (omega arith) (omega arith))
      (differ_spare (suc i) cs (omega arith))

  -- a handle stands among them exactly if a link has it, k links from index i on
  any_keys : (k i x : ℕ) (cs : List Connection) → n ≡ i + k → x < 65536
      → any (keyed itself x) (keys_from i n cs) ≡ has x (take k cs)
  unfolding any keys_from
  any_keys zero i x cs e b = none_spare i x cs (omega arith) (omega arith)
  any_keys (suc k) i x [] e b = refl
  any_keys (suc k) i x (c ∷ cs) e b =
      rw (lt-ltb i n (omega arith), any_keys k (suc i) x cs (omega arith) b)

  differ_keys : (k i : ℕ) (cs : List Connection) → n ≡ i + k → all is_handle (take k cs) ≡ true
      → distinct itself (keys_from i n cs) ≡ distinct handle_of (take k cs)
  unfolding all distinct_by keys_from
  differ_keys zero i cs e s = differ_spare i cs (omega arith)
  differ_keys (suc k) i [] e s = refl
  differ_keys (suc k) i (c ∷ cs) e s =
      let small = (and-eq-true_iff (is_handle c) (all is_handle (take k cs))).0 s in
      rw (
        lt-ltb i n (omega arith),
        any_keys k (suc i) c.handle cs (omega arith) (ltb-true _ _ small.0),
        differ_keys k (suc i) cs (omega arith) small.1,
      )

  -- a handle stands among the gathered numbers exactly if a link has it
  pub stands_has : (x : ℕ) (cs : List Connection) (t : Bool) {l : List ℕ} → l ≡ gathered n cs
      → t ≡ any (keyed itself x) l
      → x < 65536 → t ≡ has x (take n cs)
  stands_has x cs t e u b = u ∙ rw e (any_keys n 0 x cs (omega arith) b)

  differ_gathered : (cs : List Connection) → all is_handle (take n cs) ≡ true
      → distinct itself (gathered n cs) ≡ distinct handle_of (take n cs)
  differ_gathered cs s = differ_keys n 0 cs (omega arith) s

  take_keys : (k i : ℕ) (cs : List Connection) → n ≡ i + k → take k (keys_from i n cs) ≡ map handle_of (take k cs)
  unfolding keys_from
  take_keys zero i cs e = refl
  take_keys (suc k) i [] e = refl
  take_keys (suc k) i (c ∷ cs) e =
      rw (lt-ltb i n (omega arith)) (ap (◌∷◌ c.handle) (take_keys k (suc i) cs (omega arith)))

  -- the first n numbers are the handles, which differ where the numbers do
  pub handles_first : (cs : List Connection) (l : List ℕ) → l ≡ gathered n cs
      → distinct itself (take n l) ≡ true → distinct handle_of (take n cs) ≡ true
  handles_first cs l e differ = keys_map handle_of (take n cs) ∙ rw (← take_keys n 0 cs (omega arith), ← e) differ

  -- each of the first n stands once among all exactly if the handles differ
  pub handles_once : (cs : List Connection) (l : List ℕ) → Gathers n cs l → n ≤ length l
      → all (λ x. eqb (times_in x l) 1) (take n l) ≡ distinct handle_of (take n cs)
  handles_once cs l g m =
      let once = λ (x : ℕ). eqb (times_in x l) 1 in
      let len = length-take-le n l m in
      cases (distinct handle_of (take n cs))
      (λ u.
      let differ : distinct itself l ≡ true = rw g.keys (differ_gathered cs g.small ∙ u) in
      rw u
      (all_from once (take n l) 0
      (λ i b. rw (get_or-take n l i 0 (omega arith)) (eq-eqb _ _ (distinct_once l i differ (omega arith))))))
      (λ u.
      cases (all once (take n l))
      (λ e.
      let first = once_first l n
      (λ i b.
      eqb-true _ _ (ap once (sym (get_or-take n l i 0 b)) ∙ all_at once (take n l) i 0 e (omega arith)))
      m in
      absurd (true≢false (sym (handles_first cs l g.keys first) ∙ u)))
      (λ e. e ∙ sym u))

-- ---- the loop that gathers: no handle yet, and one more
abbrev numbers : ℕ → ℕ → List ℕ
numbers i zero = []
numbers i (suc k) = (65536 + i) ∷ numbers (suc i) k

spare_keys : (i : ℕ) (cs : List Connection) → keys_from i 0 cs ≡ numbers i (length cs)
unfolding keys_from
spare_keys i [] = refl
spare_keys i (c ∷ cs) = rw (le-ltb i 0 (omega arith)) (ap (◌∷◌ (65536 + i)) (spare_keys (suc i) cs))

pub gather_start : (cs : List Connection) → length cs ≡ 16
    → numbers 0 16 ≡ gathered 0 cs
gather_start cs e = sym (spare_keys 0 cs ∙ rw e)

pub gather_more : (i : ℕ) (cs : List Connection) (out : List ℕ) (d : Connection) → out ≡ gathered i cs → i < length cs
    → set out i (get_or cs i d).handle ≡ gathered (i + 1) cs
gather_more i cs out d e h =
    let x = (get_or cs i d).handle in
    let long : length out ≡ length cs = ap length e ∙ length_keys i 0 cs in
    ext_get_or 0 (set out i x) (gathered (i + 1) cs) (length-set out i x ∙ long ∙ sym (length_keys (i + 1) 0 cs))
    (λ p b.
    let within : p < length cs = omega (arith, length-set out i x) in
    cases (eqb p i)
    (λ u.
    let same = eqb-true p i u in
    rw same
    (get_or-set_same out i x 0 (omega arith) ∙ sym (key_gathered (i + 1) i cs d h ∙ rw (lt-ltb i (i + 1) (omega arith)))))
    (λ u.
    let other = eqb-false p i u in
    let kept : ltb p i ≡ ltb p (i + 1) =
    cases (ltb p i) (λ v. v ∙ sym (lt-ltb p (i + 1) (omega (arith, ltb-true p i v))))
    (λ v. v ∙ sym (le-ltb p (i + 1) (omega (arith, ltb-false p i v, other)))) in
    let before : get_or out p 0 ≡ key_at (get_or cs p d).handle p i = rw e (key_gathered i p cs d within) in
    get_or-set_other out i p x 0 other ∙ before ∙ rw kept (sym (key_gathered (i + 1) p cs d within))))
