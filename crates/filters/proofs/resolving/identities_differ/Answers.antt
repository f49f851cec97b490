-- `filters::resolving::identities_differ` meets its contract.
use Rattle.std.proofs.Common.{arith, sym, ◌∙◌}
use borrow.Author.Tests.{lt-ltb}
use Rattle.lists.proofs.Chunks.{length_chunks}
use Rattle.lists.proofs.Agree.{distinct_short}
use Rattle.filters.proofs.resolving.identities_differ.Goals as goal

pub returns-then-list-lt2 : goal.returns-then-list-lt2
returns-then-list-lt2 c =
    let list = c.args.list in
    lt-ltb _ _ c.if-list-lt2.true
    ∙ sym (distinct_short _ _ (omega (arith, length_chunks 8 list.count list.octets)))
