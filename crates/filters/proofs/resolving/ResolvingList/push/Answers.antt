-- `filters::resolving::ResolvingList::push` meets its contract.
use Rattle.std.proofs.Common.{◌≡◌, ◌+◌, [], ◌∷◌, ◌++◌, length, ap, ◌∙◌, arith, rules}
use lib.ListN.{length-append}
use Rattle.lists.specs.Lists.{chunks}
use Rattle.filters.proofs.Flat.{splice_push}
use Rattle.filters.proofs.resolving.ResolvingList.push.Goals as goal

pub returns : goal.returns
returns c =
    let a = c.args in
    let n = a.self.count in
    let long : length a.self.octets ≡ 128 = search rules in
    let seven : length a.identity ≡ 7 = search rules in
    ap (chunks 8 (n + 1)) c.put_two.ensures.leaves
    ∙ splice_push 8 n a.self.octets (a.identity ++ (0 ∷ [])) (simp length-append (omega arith)) (omega arith)
