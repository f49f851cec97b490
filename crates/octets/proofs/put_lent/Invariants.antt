-- `octets::put_lent` meets its contract: after j turns the first j octets of `src` are written.
use Rattle.octets.proofs.Copying.{Copying}
use Rattle.octets.proofs.put_lent.Given as goal

abbrev pub invariant-loop-j : goal.invariant-loop-j
invariant-loop-j l = Copying l.initial.out l.at l.src l.out l.j
