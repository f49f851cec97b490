-- `notices::opening::open_connection` meets its contract.
use Rattle.std.proofs.Common.{refl}
use Rattle.links.specs.Links.{new_connection, opened_last}
use Rattle.links.proofs.Keeping.{opened_holds}
use Rattle.notices.specs.Notices.{open_connection}
use Rattle.notices.proofs.Giving.{gives_links}
use Rattle.notices.proofs.opening.open_connection.Goals as goal

pub returns : goal.returns
unfolding open_connection
returns c k held =
    let t = c.args.timing in
    let new = new_connection c.args.handle t.interval t.latency t.timeout in
    rw c.untold.ensures.0
    (gives_links (opened_last new) c.open_connection.ensures.viewed
    (opened_holds c.args.s.links held.links new c.requires.1 c.open_connection.ensures.lists)
    c.untold.ensures.1 (λ size pool. refl) held)
