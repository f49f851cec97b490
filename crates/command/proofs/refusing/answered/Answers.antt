-- `command::answered` meets its contract.
use mathlib.Core.Path.{refl}
use Rattle.command.proofs.Giving.{gave}
use Rattle.command.proofs.Reasons.{answer_modest, reason_outcome, reason_holds}
use Rattle.command.proofs.refusing.answered.Goals as goal

pub finished-requires : goal.finished-requires
finished-requires c =
    let answer = c.answer_for.ensures in
    record {
      few = c.requires.0.holds.recent;
      modest = answer_modest c.args.reason c.args.profile c.args.op answer;
      room = c.requires.1;
    }

pub returns : goal.returns
returns c =
    let reason = c.args.reason in
    let counted = c.counters_for.ensures in
    let set = c.settings_for.ensures in
    gave (reason_outcome reason c.args.profile c.args.op c.args.s counted set c.answer_for.ensures)
    (reason_holds reason c.args.profile c.args.op c.args.s counted set c.requires.0.holds) (c.finished.ensures _ refl refl refl)
