-- encrypt_128 is AES-128. The loop's invariant: before round i the state is what the definition has after i - 1 rounds.
use mathlib.Core.Path.{◌≡◌}
use Prim.Native.Nat.{◌-◌}
use Rattle.aes.specs.Aes.{rounds}
use Rattle.aes.proofs.encrypt_128.Given as goal

abbrev pub invariant-loop-i : goal.invariant-loop-i
invariant-loop-i l = l.s ≡ rounds l.initial.s l.w (l.i - 1)
