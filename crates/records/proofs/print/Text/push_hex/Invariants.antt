-- `records::print::Text::push_hex` meets its contract: the octets before the index are pushed.
use mathlib.Core.Path.{◌≡◌}
use mathlib.Core.List.{◌++◌}
use lib.ListN.{take}
use Rattle.records.specs.Lines.{hex_of}
use Rattle.records.specs.Text.{text_of}
use Rattle.records.proofs.print.Text.push_hex.Given as goal

abbrev pub invariant-loop-x : goal.invariant-loop-x
invariant-loop-x l = text_of l.self ≡ text_of l.initial.self ++ hex_of (take l.x-index l.octets)
