-- `commands::fits` meets its contract.
use Rattle.std.proofs.Common.{rules, ◌≡◌, ◌∙◌, ℕ, Bool, true, false, cond, eqb, get_or, sym}
use Rattle.std.specs.Prelude.{Option, Some, None, MatchOption, map}
use Rattle.std.specs.Slice.{IsItemAt}
use denote.Ref.{Bor}
use Rattle.commands.specs.Table.{fits, rows, no_row}
use Rattle.commands.proofs.Tables.{size_at, size_past, row_number}
use Rattle.commands.proofs.table.fits.Goals as goal

-- by whether the place has a size
by_size : (place n : ℕ) (answer : Bool) (found : Option (Bor ℕ)) → IsItemAt (map row_number rows) place found
    → MatchOption found (answer ≡ false) (λ size. answer ≡ cond (eqb size.now 256) true (eqb n size.now))
    → answer ≡ fits (get_or rows place no_row).size n
by_size place n answer (Some size) found told = told ∙ sym (size_at place n size.now found.1 found.3.0)
by_size place n answer None found told = told ∙ sym (size_past place n found.3)

pub returns : goal.returns
returns c = by_size c.args.place c.args.n _ c.get.result c.get.ensures.lookup (search rules)
