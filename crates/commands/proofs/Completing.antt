-- The older forms of LE Connection Complete are parts of the newest one. For the function that sets it behind an answer.
use mathlib.Core.Path.{◌≡◌, ap, ◌∙◌}
use mathlib.Core.Bool.{true, false}
use mathlib.Core.List.{List, ◌++◌, append_assoc}
use Prim.Native.Nat.{ℕ}
use native.Mathlib.Omega.{arith}
use lib.ListN.{length, take, drop, replicate, length-append}
use lib.Seq.{take_at, drop_at}
use Rattle.hci.specs.Packet.{event, meta_params}
use Rattle.state.specs.State.{le_event_enabled}
use Rattle.state.specs.declared.Masks.{Masks}
use Rattle.commands.specs.Following.{le_meta_event, connection_complete}

-- params are those of the newest form
module _ (masks : Masks) (head tail sets : List ℕ) {params : List ℕ} (whole : params ≡ head ++ replicate 12 0 ++ tail ++ sets)
    (h : length head ≡ 11) (t : length tail ≡ 7) (old : le_event_enabled masks 0x29 ≡ false) where
  -- version 1 of the enhanced form
  pub version1 : le_event_enabled masks 0x0A ≡ true
      → event 0x3E (meta_params 0x0A (take 30 params)) ≡ connection_complete masks head tail sets
  unfolding connection_complete
  version1 enhanced =
      rw (old, enhanced, whole)
      (ap (λ (l : List ℕ). event 0x3E (meta_params 0x0A l))
      (take_at (head ++ replicate 12 0 ++ tail) sets 30 (simp length-append (omega arith))))

  -- the plain form
  pub plain : {xs : List ℕ} → xs ≡ take 11 params ++ take 7 (drop 23 params) → le_event_enabled masks 0x0A ≡ false
      → le_meta_event masks 0x01 xs ≡ connection_complete masks head tail sets
  unfolding connection_complete
  plain {xs} same none =
      let front : take 11 params ≡ head =
      ap (take 11) (whole ∙ simp append_assoc) ∙ take_at head (replicate 12 0 ++ (tail ++ sets)) 11 h in
      let behind : drop 23 params ≡ tail ++ sets =
      ap (drop 23) (whole ∙ append_assoc (head ++ replicate 12 0) tail sets)
      ∙ drop_at (head ++ replicate 12 0) (tail ++ sets) 23 (simp length-append (omega arith)) in
      rw (old, none, same, front, behind, take_at tail sets 7 t)
