-- `records::read::read_number` meets its contract: the characters before the index are digits, and n is what they say.
use mathlib.Core.Path.{sym, ◌∙◌}
use native.Mathlib.Omega.{arith}
use borrow.Author.Rules.{rules}
use Rattle.records.proofs.Numbers.{counting_next, counting_other, counting_past, counting_all, counting_empty}
use Rattle.records.proofs.read.read_number.Goals as goal

pub returns-then-is_empty : goal.returns-then-is_empty
returns-then-is_empty c = counting_empty _ (search rules)

pub returns-then-not-is_ascii_digit : goal.returns-then-not-is_ascii_digit
returns-then-not-is_ascii_digit c =
    counting_other c.loop-x.invariant c.loop-x-test.true
    (sym c.is_ascii_digit.ensures.value ∙ c.if-not-is_ascii_digit.true)

pub returns-in_err-checked_mul : goal.returns-in_err-checked_mul
returns-in_err-checked_mul c =
    rw c.from_residual.ensures
    (counting_past c.loop-x.invariant c.loop-x-test.true (omega (arith, c.in_err-checked_mul.ensures)))

pub returns-in_err-n : goal.returns-in_err-n
returns-in_err-n c =
    rw c.from_residual-in_err-n.ensures
    (counting_past c.loop-x.invariant c.loop-x-test.true
    (omega (arith, c.in_ok-checked_mul.ensures.1, c.in_err-n.ensures, c.from.ensures)))

pub loop-x-preserved : goal.loop-x-preserved
loop-x-preserved c =
    counting_next c.loop-x.invariant c.loop-x-test.true
    (sym c.is_ascii_digit.ensures.value ∙ c.if-not-is_ascii_digit.false)
    (omega (arith, c.in_ok-checked_mul.ensures.1, c.in_ok-n.ensures.1, c.from.ensures))
    (omega (arith, c.in_ok-n.ensures.0, c.in_ok-n.ensures.1))

pub returns : goal.returns
returns c = counting_all c.loop-x.invariant (omega arith)
