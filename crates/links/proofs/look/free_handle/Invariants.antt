-- `links::look::free_handle` meets its contract: each handle before h is taken. The gathered handles are all that the
-- loop knows of the links, so the invariant speaks of any links that they were gathered from.
use Rattle.std.proofs.Common.{◌≡◌, ℕ, ◌-◌, List, take}
use Rattle.links.specs.declared.Connection.{Connection}
use Rattle.links.specs.Links.{free_handle, free_from}
use Rattle.links.specs.Gather.{gathered}
use Rattle.links.proofs.look.free_handle.Given as goal

abbrev pub invariant-loop-h : goal.invariant-loop-h
invariant-loop-h l = (k : ℕ) (cs : List Connection) → l.handles ≡ gathered k cs
    → free_handle (take k cs) ≡ free_from (0x0EFF - l.h) l.h (take k cs)
