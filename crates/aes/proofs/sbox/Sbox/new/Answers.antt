-- The table of the code is the S-box: the test of proofs/SboxTable.antt, computed over it.
use mathlib.Core.Path.{refl}
use Rattle.aes.specs.Field.{sbox, affine, inverse, xtime}
use Rattle.aes.proofs.SboxTable.{right, passes, rule}
use Rattle.aes.proofs.sbox.Sbox.new.Goals as goal

pub invariant_of-result : goal.invariant_of-result
unfolding right passes sbox affine inverse xtime
invariant_of-result c = record { right = rule _ tt refl }
