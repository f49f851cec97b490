-- The bit map of the rows, for callers: which bits it has.
use Prim.Native.Nat.{ℕ, ◌/◌, ◌≤◌, ◌<◌}
use native.Mathlib.Omega.{arith}
use native.Mathlib.Nat.{zero-div, zero-mod}
use mathlib.Core.Path.{◌≡◌, refl, ◌∙◌}
use mathlib.Core.List.{List, [], ◌∷◌}
use mathlib.Core.Bool.{Bool, true, false, cond, not, ◌&&◌, ◌||◌}
use lib.Dec.{eqb, ltb}
use lib.ListN.{length, replicate, length-set, get_or-replicate}
use borrow.Author.Tests.{ne_eqb, ltb-true, ltb-false}
use borrow.Table.Steps.{cases}
use Rattle.hci.specs.Bits.{map_bit}
use Rattle.hci.proofs.Bit.{bit_set}
use Rattle.profile.specs.Profile.{with_row, row_bits, row_bitmap, lists_bit}

-- a row leaves its length
length_row : (map : List ℕ) (answer bit : ℕ) → length (with_row map answer bit) ≡ length map
length_row map answer bit = cases (not (eqb answer 2) && ltb bit 512) (λ e. rw e (simp length-set)) (λ e. rw e)

-- a row sets its bit if it is not unknown, and no other
row_bit : (map : List ℕ) (answer bit b : ℕ) → length map ≡ 64 → b < 512
    → map_bit (with_row map answer bit) b ≡ cond (not (eqb answer 2) && eqb b bit) 1 (map_bit map b)
row_bit map answer bit b len h =
    cases (eqb answer 2) (λ e. rw e)
    (λ e. rw e
    (cases (ltb bit 512)
    (λ f.
    let k : bit < 512 = ltb-true bit 512 f in
    rw f (bit_set map bit b (omega arith) (omega arith)))
    (λ f.
    let k : 512 ≤ bit = ltb-false bit 512 f in
    rw (f, ne_eqb b bit (λ z. omega arith)))))

either : (t l : Bool) (m : ℕ) → cond l 1 (cond t 1 m) ≡ cond (t || l) 1 m
either true true m = refl
either true false m = refl
either false l m = refl

rows_bit : (map answers bits : List ℕ) (b : ℕ) → length map ≡ 64 → b < 512
    → map_bit (row_bits map answers bits) b ≡ cond (lists_bit b answers bits) 1 (map_bit map b)
unfolding row_bits lists_bit
rows_bit map [] bits b len h = refl
rows_bit map (answer ∷ answers) [] b len h = refl
rows_bit map (answer ∷ answers) (bit ∷ bits) b len h =
    rows_bit (with_row map answer bit) answers bits b (length_row map answer bit ∙ len) h
    ∙ rw (row_bit map answer bit b len h)
    (either (not (eqb answer 2) && eqb b bit) (lists_bit b answers bits) (map_bit map b))

-- bit b of the map is 1 exactly if some row that is not unknown has the bit number b
pub bitmap_bit : (answers bits : List ℕ) (b : ℕ) → b < 512
    → map_bit (row_bitmap answers bits) b ≡ cond (lists_bit b answers bits) 1 0
bitmap_bit answers bits b h =
    rows_bit (replicate 64 0) answers bits b refl h
    ∙ rw (get_or-replicate {A = ℕ} 64 (b / 8) 0 0 (omega arith), zero-div, zero-mod)
