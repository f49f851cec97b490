-- `filters::accept::AcceptList::add` meets its contract: the entry is present, the list is full, or there is room.
use Rattle.std.proofs.Common.{◌≡◌, ◌+◌, true, false, length, sym, ap, ◌∙◌, arith, rules}
use borrow.Author.Tests.{le-leb, lt-leb}
use Rattle.lists.specs.Lists.{chunks}
use Rattle.lists.proofs.Chunks.{length_chunks}
use Rattle.filters.specs.Filters.{added, is_full, contains_entry, accept_entries}
use Rattle.filters.proofs.Flat.{splice_push}
use Rattle.filters.proofs.accept.AcceptList.add.Goals as goal

pub returns-then-contains : goal.returns-then-contains
unfolding added is_full
returns-then-contains c =
    let present : contains_entry c.args.entry (accept_entries c.args.self) ≡ true =
    sym c.contains.ensures ∙ c.if-contains.true in
    (rw present, rw present)

pub returns-then-size-n : goal.returns-then-size-n
unfolding is_full
returns-then-size-n c =
    let a = c.args in
    let l = accept_entries a.self in
    let absent : contains_entry a.entry l ≡ false = sym c.contains.ensures ∙ c.if-contains.false in
    let full = le-leb a.size (length l) (omega (arith, length_chunks 7 a.self.count a.self.octets)) in
    rw (absent, full)

pub returns : goal.returns
unfolding added is_full
returns c =
    let a = c.args in
    let n = a.self.count in
    let l = accept_entries a.self in
    let absent : contains_entry a.entry l ≡ false = sym c.contains.ensures ∙ c.if-contains.false in
    let room = lt-leb a.size (length l) (omega (arith, length_chunks 7 n a.self.octets)) in
    let long : length a.self.octets ≡ 224 = search rules in
    let seven : length a.entry ≡ 7 = search rules in
    let pushed = splice_push 7 n a.self.octets a.entry seven (omega arith) in
    (rw (absent, room), rw (absent, room) (ap (chunks 7 (n + 1)) c.put.ensures.leaves ∙ pushed))
