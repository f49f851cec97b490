-- encrypt_128 is AES-128.
use mathlib.Core.Path.{◌≡◌, ap, ap₂, ◌∙◌}
use mathlib.Core.List.{List}
use Prim.Native.Nat.{ℕ, ◌-◌}
use native.Mathlib.Omega.{arith}
use Rattle.aes.specs.Aes.{rounds, round_key, aes128, cipher, octets_of, add_round_key, shift_rows, sub_bytes}
use Rattle.aes.proofs.encrypt_128.Goals as goal

pub returns : goal.returns
unfolding aes128 cipher
returns c =
    let i : c.loop-i.i - 1 ≡ 9 = omega arith in
    let w = c.key_expansion-w.ensures in
    let first =
    c.add_round_key-s.ensures
    ∙ ap₂ add_round_key c.state_of.ensures (c.round_key.ensures ∙ ap (λ (x : List (List ℕ)). round_key x 0) w) in
    let nine = c.loop-i.invariant ∙ ap (rounds _ _) i ∙ ap₂ (λ (s x : List (List ℕ)). rounds s x 9) first w in
    let last = c.round_key-2.ensures ∙ ap (λ (x : List (List ℕ)). round_key x 10) w in
    c.octets_of.ensures
    ∙ ap octets_of
    (c.add_round_key.ensures
    ∙ ap₂ add_round_key (c.shift_rows.ensures ∙ ap shift_rows (c.bytes.ensures ∙ ap sub_bytes nine)) last)
