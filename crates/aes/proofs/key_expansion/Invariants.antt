-- key_expansion is the key expansion. The loop's invariant is Keys, of proofs/Keys.antt.
use Rattle.aes.proofs.Keys.{Keys}
use Rattle.aes.proofs.key_expansion.Given as goal

abbrev pub invariant-loop-i : goal.invariant-loop-i
invariant-loop-i l = Keys l.initial.w l.w l.i
