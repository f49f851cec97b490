-- `command::read` meets its contract.
use mathlib.Core.Path.{◌≡◌, refl}
use lib.ListN.{length}
use Rattle.command.proofs.Giving.{can_dispatch, can_finish, carried, no_part}
use borrow.Author.Rules.{rules}
use Rattle.command.proofs.running.read.Goals as goal

pub read-answer-requires : goal.read-answer-requires
read-answer-requires c = can_dispatch c.requires c.begun-t.ensures

pub finished-requires : goal.finished-requires
finished-requires c =
    let long : length c.args.address ≡ 6 = search (rules, c.well_formed) in
    can_finish c.requires c.begun-t.ensures c.args.address c.args.random no_part _ c.read-answer.ensures long

pub returns : goal.returns
returns c =
    carried c.requires c.begun-t.ensures c.args.address c.args.random no_part _ c.read-answer.ensures c.finished.result refl
    c.finished.ensures
