-- The answer of an opcode's first row, for `Rows::answer`: 3 where no row has it, and at most 2 where one has.
use lib.Dec.{leb}
use borrow.Author.Tests.{leb-true}
use Rattle.std.proofs.Common.{◌≡◌, ℕ, ◌<◌, ◌≤◌, ◌==◌, List, Some, None, true, length, get_or, arith, drop-cons, sym, rules, tests}
use Rattle.std.proofs.lemmas.List.{get_or_past}
use Rattle.std.specs.List.{position}
use Rattle.lists.proofs.Search.{position_some, position_none}
use Rattle.lists.proofs.Tests.{all_at}
use Rattle.profile.specs.Profile.{answers_fit, row_answer}

module _ (opcodes answers : List ℕ) (op : ℕ) (fit : answers_fit opcodes answers ≡ true) where
  same_answers : length opcodes ≡ length answers
  same_answers = search (rules, tests)

  known : (i : ℕ) → i < length answers → get_or answers i 0 ≤ 2
  known i b = leb-true _ 2 (all_at (λ a. leb a 2) answers i 0 (search (rules, tests)) b)

  pub no_row : None ≡ position (λ x. x == op) opcodes → row_answer opcodes answers op ≡ 3
  no_row e = get_or_past answers _ 3 (omega (arith, same_answers, position_none _ opcodes (sym e)))

  module _ (i : ℕ) (found : Some i ≡ position (λ x. x == op) opcodes) where
    has_answer : i < length answers
    has_answer = omega (arith, same_answers, (position_some _ opcodes i (sym found)).1)

    pub first_row : (row_answer opcodes answers op ≡ get_or answers i 0) × (get_or answers i 0 ≤ 2)
    first_row = (
      rw (sym (position_some _ opcodes i (sym found)).0)
          (cc (drop-cons answers i 0 has_answer, drop-cons answers i 3 has_answer)),
      known i has_answer,
    )
