-- key_expansion is the key expansion. The loop's invariant is Keys, of proofs/Keys.antt.
use borrow.Author.Rules.{rules}
use Rattle.aes.specs.Aes.{key_expansion}
use Rattle.aes.proofs.Keys.{step, whole}
use Rattle.aes.proofs.key_expansion.Goals as goal

pub loop-i-preserved : goal.loop-i-preserved
loop-i-preserved c = step _ _ _ _ _ c.loop-i.invariant (search rules)
    c.key_part.ensures c.add_word.ensures

pub returns : goal.returns
unfolding key_expansion
returns c = whole _ _ _ c.loop-i.invariant (search rules)
