-- `profile::row_bitmap`: the rows left give the rest of the map.
use Rattle.std.proofs.Common.{◌≡◌}
use Rattle.profile.specs.Profile.{row_bits, row_bitmap}
use Rattle.profile.proofs.rows.row_bitmap.Given as goal

abbrev pub invariant-loop-answer : goal.invariant-loop-answer
invariant-loop-answer l =
    row_bitmap l.answers l.bits ≡ row_bits l.map l.answer-iterator.a.rest.now l.answer-iterator.b.rest.now
