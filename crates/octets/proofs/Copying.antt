-- The loop that copies octets one after the other into a buffer: what holds after j turns, and its first, next and last
-- turn. For `put_lent`.
use mathlib.Core.Path.{◌≡◌, refl, ◌∙◌}
use mathlib.Core.List.{List}
use Prim.Native.Nat.{ℕ, ◌+◌, ◌≤◌, ◌<◌, zero-le}
use native.Mathlib.Numerals.{add-one}
use native.Mathlib.Omega.{arith}
use lib.ListN.{length, get_or, set, length-set}
use lib.Seq.{paste, paste-zero, paste-suc, take-length}
use Rattle.octets.specs.Octets.{splice, Put}

-- the first j octets of src stand in the buffer from index at
pub record Copying (out₀ : List ℕ) (at : ℕ) (src out : List ℕ) (j : ℕ) : Type 0 where
  pub within : j ≤ length src
  pub copied : out ≡ paste out₀ at src j
  pub long : length out ≡ length out₀

pub begin : (out₀ : List ℕ) (at : ℕ) (src : List ℕ) → Copying out₀ at src out₀ 0
begin out₀ at src = record { within = zero-le; copied = paste-zero out₀ at src; long = refl }

pub turn : {out₀ : List ℕ} {at : ℕ} {src out : List ℕ} {j v : ℕ}
    → Copying out₀ at src out j → at + length src ≤ length out₀ → j < length src
    → v ≡ get_or src j 0 → Copying out₀ at src (set out (at + j) v) (j + 1)
turn {out₀} {at} {src} {out} {j} c room more e = record {
  within = omega arith;
  copied = rw (e, c.copied, add-one) (paste-suc out₀ at src j 0 (omega arith) more);
  long = rw length-set c.long;
}

pub end : {out₀ : List ℕ} {at : ℕ} {src out : List ℕ} {j : ℕ}
    → Copying out₀ at src out j → at + length src ≤ length out₀ → length src ≤ j → Put out₀ at src (at + length src) out
unfolding splice
end {out₀} {at} {src} {out} {j} c room done =
    let e : j ≡ length src = omega arith in
    record { room = room; next = omega arith; leaves = c.copied ∙ rw (e, take-length) }
