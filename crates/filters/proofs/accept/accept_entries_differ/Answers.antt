-- `filters::accept::accept_entries_differ` meets its contract.
use Rattle.std.proofs.Common.{arith, sym, ap, ◌∙◌}
use borrow.Author.Tests.{lt-ltb}
use Rattle.lists.proofs.Chunks.{length_chunks}
use Rattle.lists.proofs.Agree.{distinct_short}
use Rattle.filters.specs.Filters.{identities_differ}
use Rattle.filters.proofs.Identities.{differ_entry}
use Rattle.filters.proofs.accept.accept_entries_differ.Goals as goal

pub returns-then-list-lt2 : goal.returns-then-list-lt2
returns-then-list-lt2 c =
    let list = c.args.list in
    lt-ltb _ _ c.if-list-lt2.true
    ∙ sym (distinct_short _ _ (omega (arith, length_chunks 7 list.count list.octets)))

pub returns-else-list-lt2 : goal.returns-else-list-lt2
returns-else-list-lt2 c =
    let list = c.args.list in
    c.entries_differ.ensures ∙ ap identities_differ c.entries.ensures.list ∙ differ_entry list.count list.octets
