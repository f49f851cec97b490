-- A flat array of entries of w octets each: where the entry at a place stands, and what the stores of this crate do to
-- the list of entries. For the loops and the stores of both lists.
use Rattle.std.specs.Prelude.{Option, Some, None, position, IfSome}
use Rattle.std.specs.Simd.{first_chunks}
use Prim.Native.Nat.{ℕ, zero, suc, ◌+◌, ◌-◌, ◌*◌, ◌≤◌, ◌<◌}
use native.Mathlib.Nat.{le_of_suc-le-suc, add_comm, add-zero, suc-mul, zero-mul, zero-add, mul-le-mul_right, add-mul}
use native.Mathlib.Omega.{arith}
use native.Mathlib.Numerals.{add-one}
use mathlib.Core.Bool.{Bool}
use mathlib.Core.Path.{◌≡◌, refl, sym, ap, ◌∙◌}
use mathlib.Core.List.{List, [], ◌∷◌, ◌++◌, append_assoc, append-nil}
use lib.ListN.{length, take, drop, set, length-drop, length-set}
use lib.Seq.{take_all, drop-append-add, drop-drop, length-take-le, take-set-le, take-set-lt, drop-set-lt}
use lib.Seq.{drop-set-add, take-suc-set}
use borrow.Rule.Slice.PartMut.{mid_of, put_mid}
use Rattle.lists.specs.Lists.{first_at, update_first, chunks}
use Rattle.lists.proofs.Search.{position_some, position_none}
use Rattle.lists.proofs.Update.{update_at}
use Rattle.lists.proofs.Chunks.{length_chunks, get_d_chunks, chunks_append, chunks_take, chunks_add, take_chunks, chunks_push}
use Rattle.octets.specs.Octets.{splice, Put}
use Rattle.octets.proofs.Writing.{put_part}
use Rattle.filters.specs.Filters.{with_mode}
use Rattle.filters.specs.Keys.{without_place}

-- the place that a search finds is one of the list
pub place_within : (p : List ℕ → Bool) (xs : List (List ℕ)) (o : Option ℕ) → o ≡ position p xs
    → IfSome o (λ place. place < length xs)
place_within p xs None e = tt
place_within p xs (Some i) e = (position_some p xs i (sym e)).1

module _ (w : ℕ) where
  -- ---- where entries stand: the one at i ends within the first n, and the next begins behind it
  pub within : (n i : ℕ) → i < n → i * w + w ≤ n * w
  within n i h = rw suc-mul at (mul-le-mul_right w h)

  -- the entries before the one at p, that one, and those behind it
  pub parts : (n p : ℕ) → p < n → n * w ≡ p * w + (w + (n - p - 1) * w)
  parts n p h =
      let m = n - p - 1 in
      let e : n ≡ p + suc m = omega arith in
      omega (arith, ap (λ (k : ℕ). k * w) e, add-mul p (suc m) w, suc-mul m w)

  -- the first n of the parts that the library cuts a list into
  pub first_entries : (n m : ℕ) (l : List ℕ) (xs : List (List ℕ)) → xs ≡ first_chunks w m l → n ≤ m → take n xs ≡ chunks w n l
  unfolding chunks
  first_entries zero m l xs e h = refl
  first_entries (suc n) zero l xs e h = absurd (omega arith)
  first_entries (suc n) (suc m) l xs e h =
      rw e (ap (◌∷◌ (take w l)) (first_entries n m (drop w l) _ refl (le_of_suc-le-suc h)))

  -- ---- a search of the entries
  module _ (n : ℕ) (l : List ℕ) (p : List ℕ → Bool) where
    -- what a search answers
    pub entry_place : (i : ℕ) → position p (chunks w n l) ≡ Some i → (i ≡ first_at p (chunks w n l)) × (i < n)
    entry_place i e = rw length_chunks at (position_some p (chunks w n l) i e)

    pub entry_none : position p (chunks w n l) ≡ None → length (chunks w n l) ≤ first_at p (chunks w n l)
    entry_none e = position_none p (chunks w n l) e

  -- ---- one entry more, written behind the first n
  pub splice_push : (n : ℕ) (l e : List ℕ) → length e ≡ w → (n + 1) * w ≤ length l
      → chunks w (n + 1) (splice l (n * w) e) ≡ chunks w n l ++ (e ∷ [])
  unfolding splice
  splice_push n l e len h = rw len (rw (take_all w e (omega arith)) at (chunks_push w n l e len h))

  -- ---- the entry at p is taken out: those behind it are written from its place on
  chunks_front : (m : ℕ) (a b : List ℕ) → length a ≡ m * w → chunks w m (a ++ b) ≡ chunks w m a
  unfolding chunks
  chunks_front m a b e = rw (add-zero, append-nil) at (chunks_append w m 0 a b e)

  pub splice_cut : (p m : ℕ) (l : List ℕ) → (p + suc m) * w ≤ length l
      → chunks w (p + m) (splice l (p * w) (take (m * w) (drop w (drop (p * w) l)))) ≡ without_place p (chunks w (p + suc m) l)
  unfolding splice chunks
  splice_cut p m l fits =
      let front = take (p * w) l in
      let rest = drop w (drop (p * w) l) in
      let room : p * w + (w + m * w) ≤ length l = omega (arith, add-mul p (suc m) w, suc-mul m w) in
      let fits-rest : m * w ≤ length rest = simp (drop-drop, length-drop) (omega arith) in
      let kept : take p (chunks w (p + suc m) l) ≡ chunks w p l = take_chunks w p (suc m) l in
      let follow : drop (suc p) (chunks w (p + suc m) l) ≡ chunks w m rest =
      rw (chunks_add w p (suc m) l, ← add-one p)
      (rw (length_chunks w p l) at (drop-append-add (chunks w p l) (take w (drop (p * w) l) ∷ chunks w m rest) 1)) in
      rw (append_assoc, chunks_append w p m front _ (length-take-le (p * w) l (omega arith)))
      (rw (chunks_take w p l (omega arith), kept, follow)
      (ap (◌++◌ (chunks w p l))
      (chunks_front m (take (m * w) rest) _ (length-take-le (m * w) rest fits-rest) ∙ chunks_take w m rest fits-rest)))

  -- the same of a part that begins with the entry at p and is lent to the one who moves them
  pub part_cut : (n p : ℕ) (l : List ℕ) (r : ℕ) (after : List ℕ) → p < n → n * w ≤ length l
      → Put (mid_of (p * w) (length l - p * w) l) 0 (take ((n - p - 1) * w) (drop w (mid_of (p * w) (length l - p * w) l)))
      r after
      → chunks w (n - 1) (put_mid (p * w) (length l - p * w) l after) ≡ without_place p (chunks w n l)
  part_cut n p l r after h fits put =
      let m = n - p - 1 in
      let less : n - 1 ≡ p + m = omega arith in
      let more : p + suc m ≡ n = omega arith in
      let room = parts n p h in
      let whole : mid_of (p * w) (length l - p * w) l ≡ drop (p * w) l =
      take_all (length l - p * w) (drop (p * w) l) (simp length-drop (omega arith)) in
      rw ((put_part l (p * w) (omega arith) put).leaves, whole, less) (rw more at (splice_cut p m l (rw more fits)))

  -- ---- one octet of the entry at i is written over
  pub chunks_store : (n : ℕ) (l : List ℕ) (i j v : ℕ) → j < w → i < n
      → chunks w n (set l (i * w + j) v) ≡ set (chunks w n l) i (set (take w (drop (i * w) l)) j v)
  unfolding chunks
  chunks_store zero l i j v b h = absurd (omega arith)
  chunks_store (suc n) l zero j v b h = rw (zero-mul, zero-add, take-set-lt w l j v b, drop-set-lt w l j v b)
  chunks_store (suc n) l (suc i) j v b h =
      let e : suc i * w + j ≡ w + (i * w + j) = omega (arith, suc-mul i w) in
      let d : drop (suc i * w) l ≡ drop (i * w) (drop w l) = rw (drop-drop, suc-mul, add_comm (i * w) w) in
      rw (e, take-set-le w l (w + (i * w + j)) v (omega arith), drop-set-add, d)
      (ap (◌∷◌ (take w l)) (chunks_store n (drop w l) i j v b (le_of_suc-le-suc h)))

-- the last element of a list
set_last : (k : ℕ) (e : List ℕ) (v : ℕ) → length e ≡ suc k → set e k v ≡ take k e ++ (v ∷ [])
set_last k e v len = sym (take_all (suc k) (set e k v) (simp length-set (omega arith))) ∙ take-suc-set e k v (omega arith)

-- the mode of the first entry that passes, behind its seven octets
pub store_mode : (p : List ℕ → Bool) (n : ℕ) (l : List ℕ) (i mode : ℕ) → i ≡ first_at p (chunks 8 n l) → i < n
    → n * 8 ≤ length l
    → chunks 8 n (set l (i * 8 + 7) mode) ≡ update_first p (with_mode mode) (chunks 8 n l)
store_mode p n l i mode e h fits =
    let entry = take 8 (drop (i * 8) l) in
    let long : length entry ≡ 8 =
    length-take-le 8 (drop (i * 8) l) (simp length-drop (omega (arith, within 8 n i h))) in
    chunks_store 8 n l i 7 mode (omega arith) h
    ∙ rw (set_last 7 entry mode long, ← get_d_chunks 8 n l i [] h, e)
    (sym (update_at p (with_mode mode) (chunks 8 n l) [] (omega (arith, length_chunks 8 n l))))
