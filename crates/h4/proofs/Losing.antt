-- Where framing is lost: an undefined indicator follows the whole packets, and no octets behind mend it. For the stream.
use Rattle.std.specs.Prelude.{Ok, Err}
use mathlib.Core.Path.{◌≡◌, refl, ap}
use mathlib.Core.Logic.{◌⊎◌, inl, inr}
use mathlib.Core.List.{List, ◌++◌}
use mathlib.Core.Bool.{false}
use Prim.Native.Nat.{ℕ}
use native.Mathlib.Omega.{arith}
use Rattle.h4.specs.Framing.{packet_length, rest, whole_octets, framed_at, framed}
use Rattle.h4.specs.Stream.{lost}
use Rattle.h4.specs.declared.UndefinedIndicator.{UndefinedIndicator}
use Rattle.h4.proofs.Reading.{Said, lost_on, whole_lost}
use Rattle.h4.proofs.Splitting.{rest_none, rest_append}

-- framing gives whole packets, counted by their octets, or an indicator
pub framed_answers : (p : List ℕ) → (framed p ≡ Ok (whole_octets p)) ⊎ ((i : UndefinedIndicator) × framed p ≡ Err i)
unfolding framed
framed_answers p = go (packet_length (rest p)) where
  go : (r : Said) → (framed_at r (whole_octets p) ≡ Ok (whole_octets p))
      ⊎ ((i : UndefinedIndicator) × framed_at r (whole_octets p) ≡ Err i)
  go (Ok m) = inl refl
  go (Err i) = inr (i, refl)

-- framing is lost at an indicator where the octets after the whole packets say so, and only there
pub framed_undefined : (p : List ℕ) (i : UndefinedIndicator) → framed p ≡ Err i → packet_length (rest p) ≡ Err i
unfolding framed
framed_undefined p i = go (packet_length (rest p)) where
  go : (r : Said) → framed_at r (whole_octets p) ≡ Err i → r ≡ Err i
  go (Ok m) e = cc
  go (Err j) e = cc

pub undefined_framed : (p : List ℕ) (i : UndefinedIndicator) → packet_length (rest p) ≡ Err i → framed p ≡ Err i
unfolding framed
undefined_framed p i e = rw e

-- framing that is lost is lost at the same indicator whatever comes behind
pub lost_append : (p q : List ℕ) (i : UndefinedIndicator) → framed p ≡ Err i → framed (p ++ q) ≡ Err i
lost_append p q i e =
    let u : packet_length (rest p ++ q) ≡ Err i = lost_on (rest p) q i (framed_undefined p i e) in
    undefined_framed (p ++ q) i (rw (rest_append p q, rest_none (rest p ++ q) (whole_lost (rest p ++ q) i u)) u)

-- it turns on the octets after the whole packets alone
pub lost_by_rest : (p q : List ℕ) → rest p ≡ rest q → lost p ≡ lost q
lost_by_rest p q e =
    grind (arith, ap packet_length e, framed_answers p, framed_answers q, framed_undefined, undefined_framed)

-- the whole packets are counted by their octets
pub framed_count : (p : List ℕ) (n : ℕ) → framed p ≡ Ok n → n ≡ whole_octets p
framed_count p n e = grind (arith, framed_answers p)

-- where framing is not lost in all of it, it is not lost in the front
pub kept_before : (p q : List ℕ) → lost (p ++ q) ≡ false → lost p ≡ false
kept_before p q e = grind (arith, framed_answers p, framed_answers (p ++ q), lost_append p q)
