-- `notices::ending::disconnected` meets its contract.
use Rattle.std.proofs.Common.{rules}
use Rattle.links.specs.Links.{ended}
use Rattle.links.proofs.Keeping.{ended_holds}
use Rattle.notices.proofs.Giving.{gives_links}
use Rattle.notices.proofs.ending.disconnected.Goals as goal

pub returns : goal.returns
returns c k held =
    let args = c.args in
    gives_links (ended args.handle) c.end_connection.ensures.viewed
    (ended_holds args.s.links held.links args.handle c.end_connection.ensures.lists)
    c.disconnection_complete.ensures (λ size pool. search rules) held
