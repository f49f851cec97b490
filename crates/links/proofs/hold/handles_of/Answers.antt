-- `links::hold::handles_of` meets its contract.
use Rattle.std.proofs.Common.{ℕ, List, true, ◌≡◌, ◌<◌, length, get_or, arith, ◌∙◌, ap}
use lib.Seq.{get_or-take, length-take-le}
use borrow.Author.Tests.{lt-ltb}
use Rattle.links.specs.declared.Connection.{Connection}
use Rattle.links.specs.Holding.{handle_of}
use Rattle.links.specs.Gather.{is_handle}
use Rattle.lists.proofs.Prefix.{all_more}
use Rattle.links.proofs.Gather.{gather_more}
use Rattle.links.proofs.hold.handles_of.Goals as goal

handle_small : (x : ℕ) (cs : List Connection) (i : ℕ) (d : Connection) → x ≡ (get_or cs i d).handle → x < 65536
    → is_handle (get_or cs i d) ≡ true
handle_small x cs i d e h = lt-ltb _ _ (rw (← e) h)

pub loop-i-preserved : goal.loop-i-preserved
loop-i-preserved c =
    let xs = c.args.connections.now in
    let l = c.loop-i in
    let long = length-take-le c.args.n xs (omega arith) in
    let within : l.i < length xs = omega arith in
    let e = c.from.ensures ∙ ap handle_of (get_or-take c.args.n xs l.i _ (omega arith)) in
    let small : c.from.result < 65536 = omega arith in (
      rw e (gather_more l.i xs l.handles _ l.invariant.0 within),
      all_more is_handle xs l.i _ l.invariant.1 (handle_small _ xs l.i _ e small) within,
    )
