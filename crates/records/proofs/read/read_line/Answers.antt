-- `records::read::read_line` meets its contract.
use mathlib.Core.Path.{refl, ◌∙◌}
use native.Mathlib.Omega.{arith}
use borrow.Author.Tests.{ne_eqb}
use borrow.Author.Rules.{rules}
use Rattle.records.proofs.Fields.{line_short, line_tabless, line_letter, line_pair, line_other}
use Rattle.records.proofs.read.read_line.Goals as goal

pub returns-in_default : goal.returns-in_default
returns-in_default c = line_short _ (omega arith)

pub returns-in_default-2 : goal.returns-in_default-2
returns-in_default-2 c = line_tabless _ (omega arith) (search rules)

pub returns-in-80 : goal.returns-in-80
returns-in-80 c = c.read_packet.ensures ∙ line_letter _ 80 (omega arith) (omega arith) (omega arith) refl

pub returns-in-79 : goal.returns-in-79
returns-in-79 c =
    c.read_opening.ensures c.args.packet.now ∙ line_letter _ 79 (omega arith) (omega arith) (omega arith) refl

pub returns-in_err-handle-in-84 : goal.returns-in_err-handle-in-84
returns-in_err-handle-in-84 c =
    rw c.from_residual.ensures
    (line_pair _ 84 (omega arith) (omega arith) (omega arith) _ refl refl c.in_err-handle-in-84.ensures)

pub returns-in_err-handle-in-67 : goal.returns-in_err-handle-in-67
returns-in_err-handle-in-67 c =
    rw c.from_residual-in_err-handle-in-67.ensures
    (line_pair _ 67 (omega arith) (omega arith) (omega arith) _ refl refl c.in_err-handle-in-67.ensures)

pub returns-in_ok-handle-in-84 : goal.returns-in_ok-handle-in-84
returns-in_ok-handle-in-84 c =
    line_pair _ 84 (omega arith) (omega arith) (omega arith) _ refl refl c.in_ok-handle-in-84.ensures

pub returns-in_ok-handle-in-67 : goal.returns-in_ok-handle-in-67
returns-in_ok-handle-in-67 c =
    line_pair _ 67 (omega arith) (omega arith) (omega arith) _ refl refl c.in_ok-handle-in-67.ensures

pub returns-in_default-letter : goal.returns-in_default-letter
returns-in_default-letter c =
    line_other _ _ (omega arith) (omega arith) refl (ne_eqb _ _ (search rules)) (ne_eqb _ _ (search rules))
    (ne_eqb _ _ (search rules)) (ne_eqb _ _ (search rules))
