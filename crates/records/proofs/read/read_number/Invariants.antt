-- `records::read::read_number` meets its contract: the characters before the index are digits, and n is what they say.
use Rattle.records.proofs.Numbers.{Counting}
use Rattle.records.proofs.read.read_number.Given as goal

abbrev pub invariant-loop-x : goal.invariant-loop-x
invariant-loop-x l = Counting l.field l.n l.x-index
