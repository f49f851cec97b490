-- `links::look::free_handle` meets its contract.
use Rattle.std.proofs.Common.{◌≡◌, sym, ◌∙◌, ◌+◌, ◌-◌, take, arith}
use Rattle.links.specs.Links.{opened, free_handle}
use Rattle.links.proofs.Looking.{free_here, free_next, free_end}
use Rattle.links.proofs.Gather.{stands_has}
use Rattle.links.proofs.look.free_handle.Goals as goal

pub returns-then-not-stands : goal.returns-then-not-stands
returns-then-not-stands c =
    let s = c.args.links in
    let h = c.loop-h.h in
    let keys = c.handles_of-handles.ensures.keys in
    let t = rw c.from.ensures at c.stands.ensures in
    let free = sym (stands_has s.count h s.connections c.stands.result keys t (omega arith)) ∙ c.if-not-stands.true in
    free_here (opened s) (free_handle (opened s)) (0x0EFF - h) h (c.loop-h.invariant s.count s.connections keys) free

pub loop-h-preserved : goal.loop-h-preserved
loop-h-preserved c =
    let h = c.loop-h.h in
    let t = rw c.from.ensures at c.stands.ensures in
    λ k cs e.
    let taken = sym (stands_has k h cs c.stands.result e t (omega arith)) ∙ c.if-not-stands.false in
    free_next (take k cs) (free_handle (take k cs)) (0x0EFF - h) h (c.loop-h.invariant k cs e) taken (0x0EFF - (h + 1))
    (omega arith)

pub returns : goal.returns
returns c =
    let s = c.args.links in
    let h = c.loop-h.h in
    let e : h ≡ 0x0EFF = omega arith in
    sym e ∙ free_end (opened s) (free_handle (opened s)) (0x0EFF - h) h
    (c.loop-h.invariant s.count s.connections c.handles_of-handles.ensures.keys) (omega arith)
