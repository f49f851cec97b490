-- `commands::events::followed_by_connection_complete` meets its contract.
use Rattle.std.proofs.Common.{refl, ◌∙◌, length-append, arith}
use mathlib.Core.Path.{sym}
use Rattle.octets.proofs.Writing.{put_whole}
use Rattle.answers.specs.Answers.{answer_of}
use Rattle.commands.proofs.Followed.{follows}
use Rattle.commands.proofs.Completing.{version1, plain}
use Rattle.commands.proofs.events.followed_by_connection_complete.Goals as goal

pub returns-then-enables_le-2 : goal.returns-then-enables_le-2
returns-then-enables_le-2 c =
    follows (answer_of c.args.answer) c.followed_by_subevent-then-enables_le-2.ensures
    (version1 c.args.masks _ _ _ c.newest_params-params.ensures (simp length-append (omega arith)) refl
    (sym c.enables_le.ensures ∙ c.if-enables_le.false) (sym c.enables_le-2.ensures ∙ c.if-enables_le-2.true))

pub returns : goal.returns
returns c =
    follows (answer_of c.args.answer) c.followed_by_le.ensures
    (plain c.args.masks _ _ _ c.newest_params-params.ensures (simp length-append (omega arith)) refl
    (sym c.enables_le.ensures ∙ c.if-enables_le.false) (put_whole c.put_two.ensures (simp length-append (omega arith)))
    (sym c.enables_le-2.ensures ∙ c.if-enables_le-2.false))
