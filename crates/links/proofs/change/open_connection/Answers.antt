-- `links::change::open_connection` meets its contract.
use Rattle.std.proofs.Common.{◌≤◌, length, arith}
use lib.ListN.{length-take}
use Rattle.links.specs.Links.{opened}
use Rattle.links.specs.Change.{away_from}
use Rattle.links.proofs.Changing.{kept_few, room_left}
use Rattle.links.proofs.change.open_connection.Goals as goal

pub push_connection-requires : goal.push_connection-requires
push_connection-requires c =
    let s = c.args in
    let e = c.end_connection-rest.ensures.lists in
    let most : length (opened s.links) ≤ 16 = omega (arith, length-take s.links.count s.links.connections) in
    let room = room_left s.handle (opened s.links) c.requires.1 most in
    let fits = kept_few (away_from s.handle) s.links.waiting s.links.waiting_count in
    (omega (arith, e.count), omega (arith, e.waiting_count))
