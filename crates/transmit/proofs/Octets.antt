-- The octets of waiting packets, one after the other: how many they are, and the loop that copies them.
use Prim.Native.Nat.{ℕ, ◌+◌, ◌*◌, ◌≤◌, ◌<◌}
use native.Mathlib.Omega.{arith}
use native.Mathlib.Numerals.{add-one}
use mathlib.Core.Bool.{true, and-eq-true_iff}
use mathlib.Core.Path.{◌≡◌, refl, sym, ap, ◌∙◌}
use mathlib.Core.List.{List, [], ◌∷◌, ◌++◌, flatten, append_assoc, append-nil}
use lib.ListN.{length, take, drop, get_or, length-append, length-drop, take-append-drop}
use lib.Seq.{length-take-le, take-suc}
use borrow.Author.Tests.{leb-true}
use Rattle.lists.specs.Lists.{all, read_at}
use Rattle.lists.proofs.Tests.{all_at}
use Rattle.octets.specs.Octets.{Put}
use Rattle.octets.proofs.Writing.{put_then, put_none, put_long}
use Rattle.links.specs.declared.Waiting.{Waiting}
use Rattle.transmit.specs.Steps.{lengths, end_to_end, lies_in, CanCopy}

module _ (size : ℕ) (pool : List ℕ) where
  pub end_to_end_append : (l m : List Waiting) → end_to_end size pool (l ++ m) ≡ end_to_end size pool l ++ end_to_end size pool m
  unfolding end_to_end flatten
  end_to_end_append [] m = refl
  end_to_end_append (w ∷ l) m =
      rw (end_to_end_append l m)
      (sym (append_assoc (read_at size pool w.place w.len) (end_to_end size pool l) (end_to_end size pool m)))

  -- one packet more
  pub end_to_end_more : (xs : List Waiting) (i : ℕ) (d : Waiting) → i < length xs
      → end_to_end size pool (take (i + 1) xs)
      ≡ end_to_end size pool (take i xs) ++ read_at size pool (get_or xs i d).place (get_or xs i d).len
  unfolding end_to_end flatten
  end_to_end_more xs i d h =
      rw (add-one, take-suc xs i d h) (end_to_end_append (take i xs) (get_or xs i d ∷ []) ∙ rw append-nil)

  -- the first packets' octets are the first octets
  pub end_to_end_le : (l : List Waiting) (i : ℕ) → length (end_to_end size pool (take i l)) ≤ length (end_to_end size pool l)
  end_to_end_le l i =
      let e : length (end_to_end size pool l)
      ≡ length (end_to_end size pool (take i l)) + length (end_to_end size pool (drop i l)) =
      ap (λ (m : List Waiting). length (end_to_end size pool m)) (sym (take-append-drop i l))
      ∙ ap length (end_to_end_append (take i l) (drop i l))
      ∙ length-append (end_to_end size pool (take i l)) (end_to_end size pool (drop i l)) in
      omega arith

  -- packets that lie in the pool have as many octets as they say
  length_read : (w : Waiting) → lies_in size pool w ≡ true → length (read_at size pool w.place w.len) ≡ w.len
  length_read w e =
      let b : w.place * size + w.len ≤ length pool = leb-true _ _ e in
      length-take-le w.len (drop (w.place * size) pool) (simp length-drop (omega arith))

  pub length_end_to_end : (l : List Waiting) → all (lies_in size pool) l ≡ true → length (end_to_end size pool l) ≡ lengths l
  unfolding end_to_end flatten lengths all
  length_end_to_end [] h = refl
  length_end_to_end (w ∷ l) h =
      let k = (and-eq-true_iff (lies_in size pool w) (all (lies_in size pool) l)).0 h in
      length-append (read_at size pool w.place w.len) (end_to_end size pool l)
      ∙ rw (length_read w k.0, length_end_to_end l k.1)

-- the first i packets are copied
pub record Copying (packets : List Waiting) (size : ℕ) (pool out₀ out : List ℕ) (at i : ℕ) : Type 0 where
  pub can : CanCopy packets (length packets) size pool out₀
  pub copied : Put out₀ 0 (end_to_end size pool (take i packets)) at out

pub copy_none : {packets : List Waiting} {size : ℕ} {pool out₀ : List ℕ} → CanCopy packets (length packets) size pool out₀
    → Copying packets size pool out₀ out₀ 0 0
unfolding end_to_end flatten
copy_none can = record { can = can; copied = put_none (omega arith) }

module _ {packets : List Waiting} {size : ℕ} {pool out₀ out : List ℕ} {at i : ℕ} (d : Waiting)
    (c : Copying packets size pool out₀ out at i) (more : i < length packets)
  where
    lies : lies_in size pool (get_or packets i d) ≡ true
    lies = all_at (lies_in size pool) packets i d c.can.within more

    -- the next packet's octets, after those of the first i
    next : end_to_end size pool (take (i + 1) packets)
        ≡ end_to_end size pool (take i packets) ++ read_at size pool (get_or packets i d).place (get_or packets i d).len
    next = end_to_end_more size pool packets i d more

    -- the next packet lies in the pool, and the buffer has room for it
    pub copy_fits : ((get_or packets i d).place * size + (get_or packets i d).len ≤ length pool)
        × (at + (get_or packets i d).len ≤ length out)
    copy_fits =
        let w = get_or packets i d in
        let e : length (end_to_end size pool (take (i + 1) packets)) ≡ length (end_to_end size pool (take i packets)) + w.len =
        ap length next
        ∙ length-append (end_to_end size pool (take i packets)) (read_at size pool w.place w.len)
        ∙ rw (length_read size pool w lies) in
        let le = end_to_end_le size pool packets (i + 1) in
        (leb-true _ _ lies, omega (arith, c.can.room, c.copied.next, put_long c.copied))

    pub copy_more : {r : ℕ} {after : List ℕ}
        → Put out at (read_at size pool (get_or packets i d).place (get_or packets i d).len) r after
        → Copying packets size pool out₀ after r (i + 1)
    copy_more p = record { can = c.can; copied = rw next (put_then c.copied p) }
