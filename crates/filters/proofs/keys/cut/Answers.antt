-- `filters::keys::cut` meets its contract.
use Prim.Native.Nat.{◌≤◌, ◌-◌, ◌*◌}
use native.Mathlib.Omega.{arith}
use lib.Seq.{length-take-le}
use lib.ListN.{length, drop, length-drop}
use borrow.Author.Rules.{rules}
use Rattle.filters.proofs.Flat.{parts, part_cut}
use Rattle.filters.proofs.keys.cut.Goals as goal

pub overflow_mul-at : goal.overflow_mul-at
overflow_mul-at c =
    omega (arith, parts c.args.width c.args.n c.args.place c.requires.1)

pub overflow_mul-rest : goal.overflow_mul-rest
overflow_mul-rest c =
    omega (arith, parts c.args.width c.args.n c.args.place c.requires.1)

pub slice_bounds-move_to_front-count : goal.slice_bounds-move_to_front-count
slice_bounds-move_to_front-count c =
    omega (arith, parts c.args.width c.args.n c.args.place c.requires.1)

pub slice_bounds-move_to_front-start : goal.slice_bounds-move_to_front-start
slice_bounds-move_to_front-start c =
    let within = parts c.args.width c.args.n c.args.place c.requires.1 in
    search rules

pub move_to_front-requires : goal.move_to_front-requires
move_to_front-requires c =
    let at = c.args.place * c.args.width in
    let l = c.args.octets.now in
    let rest : length l - at ≤ length (drop at l) = simp length-drop (omega arith) in
    let room = parts c.args.width c.args.n c.args.place c.requires.1 in
    omega (arith, length-take-le (length l - at) (drop at l) rest)

pub returns : goal.returns
returns c =
    part_cut c.args.width c.args.n c.args.place c.args.octets.now _ _ c.requires.1 c.requires.0
    c.move_to_front.ensures
