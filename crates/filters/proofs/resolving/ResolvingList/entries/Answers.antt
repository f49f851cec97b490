-- `filters::resolving::ResolvingList::entries` meets its contract.
use Rattle.std.proofs.Common.{◌≡◌, length, arith, rules}
use Rattle.filters.proofs.Flat.{first_entries}
use Rattle.filters.proofs.resolving.ResolvingList.entries.Goals as goal

pub returns-clause-list : goal.returns-clause-list
returns-clause-list c =
    let list = c.args.self.now in
    let long : length list.octets ≡ 128 = search rules in
    first_entries 8 list.count _ list.octets _ c.as_chunks.ensures.front (omega (arith, long))
