-- `privacy::resolving::add_to_resolving_list` meets its contract.
use Rattle.std.proofs.Common.{rules, arith, ◌≡◌, length}
use Rattle.filters.proofs.Kept.{resolving_count}
use Rattle.state.proofs.Keeping.{resolving_pushed}
use Rattle.commands.specs.Privacy.{add_to_resolving_list}
use Rattle.commands.proofs.Giving.{gives_status, holds_resolving_list}
use Rattle.privacy.proofs.Identity.{identity_absent}
use Rattle.privacy.proofs.resolving.add_to_resolving_list.Goals as goal

pub returns-then-list-from : goal.returns-then-list-from
unfolding add_to_resolving_list
returns-then-list-from c =
    let count = resolving_count c.args.s.resolving_list in
    search rules

pub returns : goal.returns
unfolding add_to_resolving_list
returns c =
    let list = c.args.s.resolving_list in
    let count = resolving_count list in
    let identity = c.identity-identity.result in
    let holds = c.requires.holds in
    let seven : length identity ≡ 7 = search rules in
    gives_status (λ size pool. search rules)
    (holds_resolving_list holds (resolving_pushed identity holds.resolving c.requires.limits.most_resolving seven
    (identity_absent list identity c.listed.ensures c.if-listed.false) (omega arith) c.push.ensures))
