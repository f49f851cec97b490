-- `notices::opening::accept_connection` meets its contract.
use Rattle.std.proofs.Common.{rules}
use Rattle.links.specs.Links.{new_connection, opened_last}
use Rattle.links.proofs.Keeping.{opened_holds}
use Rattle.commands.proofs.Giving.{answered_then}
use Rattle.notices.specs.Notices.{accept_connection}
use Rattle.notices.proofs.Giving.{gives_links, off_holds}
use Rattle.notices.proofs.opening.accept_connection.Goals as goal

pub returns : goal.returns
unfolding accept_connection
returns c k held =
    let t = c.args.timing in
    let new = new_connection c.args.handle t.interval t.latency t.timeout in
    let told = answered_then c.followed_by_connection_complete.ensures c.silent-silent.ensures in
    gives_links (opened_last new) c.open_connection-accepted.ensures.viewed
    (opened_holds c.args.s.links held.links new c.requires.1 c.open_connection-accepted.ensures.lists)
    told (λ size pool. search rules) (off_holds held)
