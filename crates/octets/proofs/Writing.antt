-- The laws of octets written over a part of a buffer: what the buffer then holds, and two writes end to end as one. For
-- every crate that writes packets.
use mathlib.Core.Path.{◌≡◌, refl, sym, ap, ◌∙◌}
use mathlib.Core.List.{List, [], ◌++◌, append_assoc, append-nil}
use Prim.Native.Nat.{ℕ, ◌+◌, ◌-◌, ◌≤◌}
use native.Mathlib.Nat.{zero-add}
use native.Mathlib.Omega.{arith}
use lib.ListN.{length, take, drop, length-append, length-drop}
use lib.Seq.{take_all, drop-length, drop-drop, take_at, drop_at, length-take-le, paste-zero}
use borrow.Rule.Slice.PartMut.{mid_of, post_of, put_mid, Post-is}
use Rattle.octets.specs.Octets.{splice, Put}

-- a write within the buffer keeps its length
pub length_splice : (xs : List ℕ) (at : ℕ) (ys : List ℕ) → at + length ys ≤ length xs → length (splice xs at ys) ≡ length xs
unfolding splice
length_splice xs at ys h =
    let a : at ≤ length xs = omega arith in
    simp (length-append, length-take-le at xs a, length-drop) (omega arith)

-- at the front: the octets, then the rest
pub splice_front : (xs ys : List ℕ) → splice xs 0 ys ≡ ys ++ drop (length ys) xs
unfolding splice
splice_front xs ys = simp zero-add

-- what was written is read there
pub splice_written : (xs : List ℕ) (at : ℕ) (ys : List ℕ) → at ≤ length xs → take (length ys) (drop at (splice xs at ys)) ≡ ys
unfolding splice
splice_written xs at ys h =
    rw (append_assoc, drop_at (take at xs) (ys ++ drop (at + length ys) xs) at (length-take-le at xs h))
    (take_at ys (drop (at + length ys) xs) (length ys) refl)

-- two writes end to end are one
pub splice_splice : (xs : List ℕ) (at : ℕ) (ys : List ℕ) (b : ℕ) (zs : List ℕ) → at + length ys ≤ length xs → b ≡ at + length ys
    → splice (splice xs at ys) b zs ≡ splice xs at (ys ++ zs)
unfolding splice
splice_splice xs at ys b zs h e =
    let a : at ≤ length xs = omega arith in
    let p : List ℕ = take at xs ++ ys in
    let n : length p ≡ b = simp (length-append, length-take-le at xs a) (sym e) in
    let m : at + length ys + length zs ≡ at + length (ys ++ zs) = simp length-append (omega arith) in
    let d : drop (b + length zs) (p ++ drop (at + length ys) xs) ≡ drop (at + length (ys ++ zs)) xs =
    sym (drop-drop (length zs) b (p ++ drop (at + length ys) xs))
    ∙ ap (drop (length zs)) (drop_at p (drop (at + length ys) xs) b n)
    ∙ drop-drop (length zs) (at + length ys) xs
    ∙ ap (λ (k : ℕ). drop k xs) m in
    ap (λ (l : List ℕ). l ++ zs ++ drop (b + length zs) (p ++ drop (at + length ys) xs))
    (take_at p (drop (at + length ys) xs) b n)
    ∙ ap (λ (l : List ℕ). p ++ zs ++ l) d
    ∙ ap (λ (l : List ℕ). l ++ drop (at + length (ys ++ zs)) xs) (append_assoc (take at xs) ys zs)

-- the same of the contracts of two writers
pub put_then : {xs : List ℕ} {at : ℕ} {ys : List ℕ} {b : ℕ} {one zs : List ℕ} {r : ℕ} {two : List ℕ} → Put xs at ys b one
    → Put one b zs r two
    → Put xs at (ys ++ zs) r two
put_then {xs} {at} {ys} {b} {one} {zs} {r} {two} p q =
    let long : length one ≡ length xs = ap length p.leaves ∙ length_splice xs at ys p.room in
    record {
      room = simp length-append (omega arith);
      next = simp length-append (omega arith);
      leaves = q.leaves ∙ rw p.leaves (splice_splice xs at ys b zs p.room p.next);
    }

-- nothing is written
pub put_none : {xs : List ℕ} {at : ℕ} → at ≤ length xs → Put xs at [] at xs
unfolding splice
put_none {xs} {at} h = record { room = omega arith; next = omega arith; leaves = paste-zero xs at [] }

-- a write keeps the buffer's length
pub put_long : {xs : List ℕ} {at : ℕ} {ys : List ℕ} {r : ℕ} {after : List ℕ} → Put xs at ys r after → length after ≡ length xs
put_long {xs} {at} {ys} p = ap length p.leaves ∙ length_splice xs at ys p.room

-- what is written at the front of `&mut out[a..]` is written in `out` from a
pub put_part : (xs : List ℕ) (a : ℕ) {ys : List ℕ} {r : ℕ} {after : List ℕ} → a ≤ length xs
    → Put (mid_of a (length xs - a) xs) 0 ys r after
    → Put xs a ys (a + r) (put_mid a (length xs - a) xs after)
unfolding splice
put_part xs a {ys} {r} {after} h p =
    let whole : mid_of a (length xs - a) xs ≡ drop a xs = take_all (length xs - a) (drop a xs) (simp length-drop (omega arith)) in
    let none : post_of a (length xs - a) xs ≡ [] = Post-is a (length xs) xs h ∙ drop-length xs in
    let long : length (mid_of a (length xs - a) xs) ≡ length xs - a = ap length whole ∙ length-drop a xs in
    let e : after ≡ ys ++ drop (a + length ys) xs =
    p.leaves ∙ rw (whole, zero-add) (rw (drop-drop (length ys) a xs)) in
    record {
      room = omega (arith, p.room);
      next = omega (arith, p.next);
      leaves =
          ap (λ (l : List ℕ). take a xs ++ l) (ap (λ (l : List ℕ). after ++ l) none ∙ append-nil after ∙ e)
          ∙ sym (append_assoc (take a xs) ys (drop (a + length ys) xs));
    }

-- what was written at the front is read there
pub put_front : {xs ys : List ℕ} {r : ℕ} {after : List ℕ} → Put xs 0 ys r after → take r after ≡ ys
put_front {xs} {ys} {r} {after} p =
    let n : r ≡ length ys = omega (arith, p.next) in
    rw (n, p.leaves) (splice_written xs 0 ys (omega arith))

-- as many octets as were written
pub put_front_long : {xs ys : List ℕ} {r : ℕ} {after : List ℕ} → Put xs 0 ys r after → length (take r after) ≡ r
put_front_long p = ap length (put_front p) ∙ omega (arith, p.next)

-- a buffer that is written from end to end holds what was written
pub put_whole : {xs ys after : List ℕ} {r : ℕ} → Put xs 0 ys r after → length xs ≡ length ys → after ≡ ys
put_whole {xs} {ys} p e = p.leaves ∙ splice_front xs ys ∙ rw (sym e, drop-length) (append-nil ys)
