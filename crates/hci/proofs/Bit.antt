-- The laws of bits of maps: what a map with a bit set has at each bit. For the proofs of those who build bit maps.
use mathlib.Core.Path.{◌≡◌, ap, ◌∙◌}
use Prim.Native.Nat.{ℕ, suc, ◌+◌, ◌-◌, ◌/◌, ◌%◌, ◌^◌, ◌≤◌, ◌<◌, max}
use mathlib.Core.List.{List}
use mathlib.Core.Bool.{true, false, cond}
use native.Mathlib.Omega.{arith}
use native.Mathlib.Decide.{dec_lt}
use native.Mathlib.Nat.{div-eq_of_lt, div_self, mul-div_cancel, two-pow-succ}
use lib.ListN.{length}
use lib.Seq.{get_or-set_same, get_or-set_other}
use lib.Pow.{pow_pos, pow-lt, pow-add}
use lib.Bits.{bit_or, or_step, or_shr}
use lib.Dec.{eqb}
use borrow.Author.Tests.{eqb-true, eqb-false}
use borrow.Table.Steps.{cases}
use Rattle.octets.specs.Octets.{octet}
use Rattle.hci.specs.Bits.{bit_of, with_bit, map_bit}

-- a bit of two numbers or'ed is set where one of theirs is
bit_or_lem : (a b k : ℕ) → bit_of (bit_or a b) k ≡ max (bit_of a k) (bit_of b k)
bit_or_lem a b k =
    let n : bit_or a b / 2 ^ k ≡ bit_or (a / 2 ^ k) (b / 2 ^ k) = or_shr a b k in
    omega (arith, n, or_step (a / 2 ^ k) (b / 2 ^ k))

-- the bits of a power of two
power_own : (k : ℕ) → bit_of (2 ^ k) k ≡ 1
power_own k = rw (div_self (pow_pos k))

power_other : (j k : ℕ) → (j ≡ k → ⊥) → bit_of (2 ^ j) k ≡ 0
power_other j k n = go (dec_lt j k)
  where
    go : Dec (j < k) → bit_of (2 ^ j) k ≡ 0
    go (yes h) = rw (div-eq_of_lt (pow-lt h))
    go (no h) =
        let m : ℕ = j - k - 1 in
        let e : j ≡ suc m + k = omega arith in
        let d : 2 ^ j / 2 ^ k ≡ 2 ^ suc m =
        ap (λ (i : ℕ). 2 ^ i / 2 ^ k) e ∙ rw (pow-add 2 (suc m) k) (mul-div_cancel (2 ^ suc m) (pow_pos k)) in
        omega (arith, d, two-pow-succ m)

-- a map with bit b set has bit b, and its other bits as they were
pub bit_set : (map : List ℕ) (b i : ℕ) → b / 8 < length map → map_bit map i ≤ 1
    → map_bit (with_bit map b) i ≡ cond (eqb i b) 1 (map_bit map i)
bit_set map b i h small = cases (eqb i b) here elsewhere
  where
    there : i / 8 ≡ b / 8 → map_bit (with_bit map b) i ≡ max (map_bit map i) (bit_of (2 ^ (b % 8)) (i % 8))
    there e =
        rw (e, get_or-set_same map (b / 8) (bit_or (octet map (b / 8)) (2 ^ (b % 8))) 0 h)
        (bit_or_lem (octet map (b / 8)) (2 ^ (b % 8)) (i % 8))

    here : eqb i b ≡ true → map_bit (with_bit map b) i ≡ cond (eqb i b) 1 (map_bit map i)
    here e =
        let q : i ≡ b = eqb-true i b e in
        let o : bit_of (2 ^ (b % 8)) (i % 8) ≡ 1 = rw q (power_own (b % 8)) in
        rw e (omega (arith, there (ap (λ (n : ℕ). n / 8) q), o, small))

    elsewhere : eqb i b ≡ false → map_bit (with_bit map b) i ≡ cond (eqb i b) 1 (map_bit map i)
    elsewhere e = rw e (cases (eqb (i / 8) (b / 8)) same other)
      where
        same : eqb (i / 8) (b / 8) ≡ true → map_bit (with_bit map b) i ≡ map_bit map i
        same f =
            let q : i / 8 ≡ b / 8 = eqb-true (i / 8) (b / 8) f in
            let o : bit_of (2 ^ (b % 8)) (i % 8) ≡ 0 = power_other (b % 8) (i % 8) (λ z. eqb-false i b e (omega arith)) in
            omega (arith, there q, o)

        other : eqb (i / 8) (b / 8) ≡ false → map_bit (with_bit map b) i ≡ map_bit map i
        other f =
            rw
            (get_or-set_other map (b / 8) (i / 8) (bit_or (octet map (b / 8)) (2 ^ (b % 8))) 0 (eqb-false (i / 8) (b / 8) f))
