-- The place that a packet is queued at: the marks of the places that waiting packets own, and that one of the first n + 1
-- places is free where n packets wait, by counting alone.
use Prim.Native.Nat.{ℕ, zero, suc, ◌+◌, ◌≤◌, ◌<◌}
use native.Mathlib.Decide.{dec_lt}
use native.Mathlib.Omega.{arith}
use mathlib.Core.Bool.{Bool, true, false}
use mathlib.Core.Path.{◌≡◌, refl, sym, ◌∙◌}
use mathlib.Core.List.{List, []}
use lib.ListN.{length, take, get_or, set, replicate, length-set}
use lib.Seq.{length-take-le, get_or-take}
use borrow.Author.Tests.{ltb-true, ne_eqb}
use borrow.Author.Count.{below_more}
use borrow.Table.Steps.{cases}
use Rattle.std.proofs.lemmas.Bool.{not-true, not-false}
use Rattle.std.proofs.lemmas.List.{get_or_past}
use Rattle.lists.specs.Lists.{any, keyed, first_at}
use Rattle.lists.proofs.Marking.{marks_more}
use Rattle.lists.proofs.Tests.{all_at, first_le, first_passes, first_before}
use Rattle.lists.proofs.Prefix.{any_more}
use Rattle.lists.proofs.Pigeonhole.{pigeonhole}
use Rattle.links.specs.declared.Waiting.{Waiting}
use Rattle.links.specs.Holding.{place_of}
use Rattle.transmit.specs.Steps.{CanMark, Marks, FreePlace, is_free, place_below}

-- no place has a mark where none is set
no_mark : (n place : ℕ) → get_or (replicate n false) place false ≡ false
no_mark zero place = refl
no_mark (suc n) zero = refl
no_mark (suc n) (suc place) = no_mark n place

-- no packet owns a place
pub owned_none : Marks [] (replicate 32 false)
unfolding any
owned_none = record { long = refl; marked = no_mark 32 }

-- the place of one packet more is marked
pub owned_more : (xs : List Waiting) (marks : List Bool) (i : ℕ) (d : Waiting) → Marks (take i xs) marks
    → (get_or xs i d).place < 32 → i < length xs → Marks (take (i + 1) xs) (set marks (get_or xs i d).place true)
owned_more xs marks i d m low h = record { long = simp length-set m.long; marked = λ place. go place (dec_lt place 32) }
  where
    go : (place : ℕ) → Dec (place < 32)
        → get_or (set marks (get_or xs i d).place true) place false ≡ any (keyed place_of place) (take (i + 1) xs)
    go place (yes b) = marks_more 32 place_of marks xs i d (λ k lt. m.marked k) m.long low h place b
    go place (no nb) =
        rw (
          get_or_past (set marks (get_or xs i d).place true) place false (simp length-set (omega (arith, m.long))),
          any_more (keyed place_of place) xs i d h,
          ← m.marked place,
          get_or_past marks place false (omega (arith, m.long)),
          ne_eqb (get_or xs i d).place place (λ e. omega arith),
        )

-- the place of a packet is one of the 32
pub marked_below : (xs : List Waiting) (i : ℕ) (d : Waiting) → CanMark xs (length xs) → i < length xs
    → (get_or xs i d).place < 32
marked_below xs i d can h = ltb-true _ _ (all_at (place_below 32) xs i d can.placed h)

module _ (l : List Waiting) (marks : List Bool) (m : Marks l marks) where
  -- a place without a mark is owned by no packet, and one with a mark by some packet
  unmarked : (place : ℕ) → is_free (get_or marks place false) ≡ true → any (keyed place_of place) l ≡ false
  unmarked place e = sym (m.marked place) ∙ not-true _ e

  owned : (place : ℕ) → is_free (get_or marks place false) ≡ false → any (keyed place_of place) l ≡ true
  owned place e = sym (m.marked place) ∙ not-false _ e

  -- the first place without a mark, or the number of the packets, is owned by none
  pub free_found : (n : ℕ) → length l ≡ n → n ≤ 32 → FreePlace l n (first_at is_free (take n marks))
  free_found n len h =
      let few = take n marks in
      let long : length few ≡ n = length-take-le n marks (omega (arith, m.long)) in
      let le = first_le is_free few in
      record { low = omega arith; free = go (dec_lt (first_at is_free few) n) long le }
    where
      go : Dec (first_at is_free (take n marks) < n) → length (take n marks) ≡ n
          → first_at is_free (take n marks) ≤ length (take n marks)
          → any (keyed place_of (first_at is_free (take n marks))) l ≡ false
      go (yes lt) long le =
          unmarked _ (rw (← get_or-take n marks _ false lt) (first_passes is_free (take n marks) false (omega arith)))
      go (no nlt) long le =
          let e : first_at is_free (take n marks) ≡ n = omega arith in
          rw e
          (cases (any (keyed place_of n) l)
          (λ o.
          let below : (k : ℕ) → k < n → any (keyed place_of k) l ≡ true =
          λ k lt. owned k (rw (← get_or-take n marks k false lt) (first_before is_free (take n marks) k false (omega arith))) in
          let many : n + 1 ≤ length l = pigeonhole place_of (n + 1) l (below_more _ n below o) in
          absurd (omega arith))
          (λ o. o))
