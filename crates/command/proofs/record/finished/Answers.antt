-- `command::finished` meets its contract.
use Rattle.answers.specs.Answers.{answer_of}
use Rattle.command.proofs.Giving.{finishes_from}
use Rattle.command.proofs.record.finished.Goals as goal

pub returns : goal.returns
returns c =
    let s = c.args in
    let kept = c.remembered.ensures in
    finishes_from (answer_of s.answer) s.counters s.settings s.recent _ (kept.listed, kept.few) c.write_answer-written.ensures
