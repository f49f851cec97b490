-- `rows::answers_fit`: the greatest answer so far says whether each so far is at most 2.
use Rattle.std.proofs.Common.{◌≡◌, leb, take}
use Rattle.lists.specs.Lists.{all}
use Rattle.profile.proofs.rows.answers_fit.Given as goal

abbrev pub invariant-loop-answer : goal.invariant-loop-answer
invariant-loop-answer l = leb l.greatest 2 ≡ all (λ a. leb a 2) (take l.answer-index l.answers)
