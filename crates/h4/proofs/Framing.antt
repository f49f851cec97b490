-- The loop that frames octets from their front: what holds when it has come to index at, its next turn, and its way out.
-- For `frame`.
use Rattle.std.specs.Prelude.{Some, Ok}
use mathlib.Core.Path.{◌≡◌, sym, ap, ◌∙◌}
use mathlib.Core.List.{List}
use Prim.Native.Nat.{ℕ, ◌+◌, ◌-◌, ◌≤◌}
use native.Mathlib.Omega.{arith}
use lib.ListN.{length, take, drop, length-drop, take-append-drop}
use lib.Seq.{take_all, length-take-le, drop-drop}
use Rattle.h4.specs.Framing.{packet_length, whole_of, whole, whole_octets, rest, framed_at, framed}
use Rattle.h4.proofs.Reading.{Said, take_packet}
use Rattle.h4.proofs.Splitting.{octets_none, octets_front, rest_none, rest_front}

-- the octets before at are whole packets, and what lies behind is still to frame
pub record Framing (bytes : List ℕ) (at : ℕ) : Type 0 where
  pub within : at ≤ length bytes
  pub octets : whole_octets bytes ≡ at + whole_octets (drop at bytes)
  pub after : rest bytes ≡ rest (drop at bytes)

-- the octets from index at on, as the code lends them (`&bytes[at..]`)
abbrev pub from : List ℕ → ℕ → List ℕ
from bytes at = take (length bytes - at) (drop at bytes)

module _ (bytes : List ℕ) (at : ℕ) (f : Framing bytes at) where
  -- the loan is all that lies behind
  lent : from bytes at ≡ drop at bytes
  lent = take_all (length bytes - at) (drop at bytes) (omega (arith, length-drop at bytes))

  -- a whole packet at index at
  pub turn : (n : ℕ) → packet_length (from bytes at) ≡ Ok (Some n) → n ≤ length bytes - at → Framing bytes (at + n)
  turn n e h =
      let p : List ℕ = drop at bytes in
      let size : length (take n p) ≡ n = length-take-le n p (omega (arith, length-drop at bytes)) in
      let one = take_packet p n (ap packet_length (sym lent) ∙ e) (omega (arith, length-drop at bytes)) in
      let octets = octets_front (take n p) (drop n p) one in
      let octets' = rw (take-append-drop n p, size, drop-drop n at bytes) at octets in
      let after = rest_front (take n p) (drop n p) one in
      let after' = rw (take-append-drop n p, drop-drop n at bytes) at after in
      record { within = omega arith; octets = omega (arith, f.octets, octets'); after = f.after ∙ after' }

  -- no whole packet there: the way out, with what was read
  pub ends : (r : Said) → r ≡ packet_length (from bytes at) → whole_of r (length bytes - at) ≡ 0 → framed_at r at ≡ framed bytes
  unfolding framed whole
  ends r e w =
      let read : packet_length (drop at bytes) ≡ r = ap packet_length (sym lent) ∙ sym e in
      let none : whole (drop at bytes) ≡ 0 = rw (read, length-drop at bytes) w in
      let octets : whole_octets bytes ≡ at = omega (arith, f.octets, octets_none (drop at bytes) none) in
      let after : rest bytes ≡ drop at bytes = f.after ∙ rest_none (drop at bytes) none in
      rw (after, octets, read)
