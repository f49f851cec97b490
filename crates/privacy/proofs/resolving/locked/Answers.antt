-- `privacy::resolving::locked` meets its contract.
use Rattle.std.proofs.Common.{[]}
use borrow.Author.Tests.{ne_eqb}
use Rattle.privacy.proofs.resolving.locked.Goals as goal

pub returns-then-s-ne0 : goal.returns-then-s-ne0
returns-then-s-ne0 c = rw (ne_eqb _ _ c.if-s-ne0.true) (c.busy.ensures 0 [])
