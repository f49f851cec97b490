-- The octets of a text. For the contracts of what prints.
use Rattle.std.specs.Prelude.{ℕ, List}
use Rattle.lists.specs.Held.{held}
use Rattle.records.specs.declared.print.Text.{Text}

abbrev pub text_of : Text → List ℕ
text_of t = held t.octets
