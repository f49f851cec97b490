-- What an answer holds has at most as many octets as it has room for. For the functions that write answers.
use Rattle.std.specs.Prelude.{ℕ, ◌≤◌, Option, Some, None, length}
use Rattle.std.proofs.lemmas.List.{length-take}
use native.Mathlib.Omega.{arith}
use Rattle.lists.specs.declared.held.Held.{Held}
use Rattle.lists.specs.Held.{held}
use Rattle.answers.specs.Answers.{event_of}

pub held_short : {N : ℕ} (h : Held ℕ N) → length (held h) ≤ N
held_short h = omega (arith, length-take h.len h.items, h.fits)

pub event_short : {N : ℕ} (o : Option (Held ℕ N)) → length (event_of o) ≤ N
event_short (Some h) = held_short h
event_short None = omega arith
