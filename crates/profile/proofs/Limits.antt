-- Questions 1 and 2 as facts, for callers: what is known of the profile and the rows once the answer is true, and back
-- for the profile.
use Prim.Native.Nat.{ℕ}
use mathlib.Core.Path.{◌≡◌}
use mathlib.Core.List.{List}
use mathlib.Core.Bool.{true}
use lib.Dec.{leb}
use Rattle.std.proofs.Common.{rules, tests}
use borrow.Author.Tests.{leb-true, le-leb, eq-eqb}
use Rattle.lists.proofs.Tests.{all_at, all_from}
use Rattle.profile.specs.Profile.{within_limits, Limits, answers_fit, rows_fit, FittingRows}
use Rattle.profile.specs.declared.ControllerRow.{ControllerRow}

pub within_limits_lem : (k : ControllerRow) → within_limits k ≡ true → Limits k
unfolding within_limits
within_limits_lem k h = search (rules, tests)

pub limits_within : (k : ControllerRow) → Limits k → within_limits k ≡ true
unfolding within_limits
limits_within k l = search (rules, tests)

pub rows_fit_lem : (opcodes answers bits : List ℕ) → rows_fit opcodes answers bits ≡ true → FittingRows opcodes answers bits
unfolding rows_fit
rows_fit_lem opcodes answers bits h =
    record {
      same_answers = search (rules, tests);
      same_bits = search (rules, tests);
      few = search (rules, tests);
      known = λ i b. leb-true _ 2 (all_at (λ a. leb a 2) answers i 0 (search (rules, tests)) b);
    }

-- the part of question 2 that says which answers an opcode may get
pub rows_answer : {opcodes answers bits : List ℕ} → FittingRows opcodes answers bits → answers_fit opcodes answers ≡ true
rows_answer {opcodes} {answers} r =
    rw (eq-eqb _ _ r.same_answers) (all_from (λ a. leb a 2) answers 0 (λ i b. le-leb _ 2 (r.known i b)))
