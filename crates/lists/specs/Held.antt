-- Items in an array that has room for more, as the list that they are.
use Rattle.std.specs.Prelude.{ℕ, List, take}
use Rattle.lists.specs.declared.held.Held.{Held}

abbrev pub held : {T : Type 0} {N : ℕ} → Held T N → List T
held h = take h.len h.items
