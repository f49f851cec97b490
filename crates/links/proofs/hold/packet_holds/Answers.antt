-- `links::hold::packet_holds` meets its contract.
use Rattle.std.proofs.Common.{◌<◌, ◌≤◌, arith, rules}
use borrow.Author.Tests.{lt-ltb, le-leb}
use Rattle.std.proofs.lemmas.Bool.Decides.{nat_tests}
use Rattle.links.proofs.Gather.{stands_has}
use Rattle.links.proofs.hold.packet_holds.Goals as goal

pub returns-then-from-places-2 : goal.returns-then-from-places-2
returns-then-from-places-2 c =
    let s = c.args in
    let handle : s.w.handle < 65536 = search rules in
    let place : s.w.place < s.places.count = omega arith in
    let least : 5 ≤ s.w.len = omega arith in
    let most : s.w.len ≤ s.places.size = grind (arith, nat_tests) in
    let t = rw c.from-then-from-places-2.ensures at c.stands.ensures in
    λ k cs e.
    simp (lt-ltb _ _ place, le-leb _ _ least, le-leb _ _ most)
    (stands_has k s.w.handle cs c.stands.result e t handle)
