-- `records::input::split_line` meets its contract.
use mathlib.Core.Path.{sym, ◌∙◌}
use Rattle.records.proofs.Running.{line_found, behind_found, line_last, behind_last}
use Rattle.records.proofs.input.split_line.Goals as goal

pub returns-in-Some-clause-line : goal.returns-in-Some-clause-line
returns-in-Some-clause-line c = line_found _ _ (sym c.place_of.ensures ∙ c.in-Some.is)

pub returns-in-Some-clause-behind : goal.returns-in-Some-clause-behind
returns-in-Some-clause-behind c = behind_found _ _ (sym c.place_of.ensures ∙ c.in-Some.is)

pub returns-in-None-clause-line : goal.returns-in-None-clause-line
returns-in-None-clause-line c = line_last _ (sym c.place_of.ensures ∙ c.in-None.is)

pub returns-in-None-clause-behind : goal.returns-in-None-clause-behind
returns-in-None-clause-behind c = behind_last _ (sym c.place_of.ensures ∙ c.in-None.is)
