-- `command::listed_row` meets its contract.
use mathlib.Core.Path.{sym, ◌∙◌}
use Rattle.dispatch.proofs.Choosing.{part_of}
use Rattle.command.proofs.Coursing.{sized_at, family_told, placed, unplaced}
use Rattle.command.proofs.Coursing.{other_family_lem, unmodeled, bad_parameters, carried_out}
use Rattle.command.proofs.course.listed_row.Goals as goal

pub returns-then-other_family : goal.returns-then-other_family
returns-then-other_family c =
    let s = c.args in
    other_family_lem s.op s.now s.n s.modeled (family_told s.op c.family_of.ensures c.other_family.ensures c.if-other_family.true)

pub returns-then-not-modeled : goal.returns-then-not-modeled
returns-then-not-modeled c =
    let s = c.args in
    rw c.if-not-modeled.true
    (unmodeled s.op s.now s.n (family_told s.op c.family_of.ensures c.other_family.ensures c.if-other_family.false))

pub returns-in_default-2 : goal.returns-in_default-2
returns-in_default-2 c =
    let s = c.args in
    rw c.if-not-modeled.false
    (bad_parameters s.op s.now s.n (family_told s.op c.family_of.ensures c.other_family.ensures c.if-other_family.false)
    (unplaced s.op s.n (sym c.in_default.is ∙ c.place_of.ensures)))

pub returns-in_default : goal.returns-in_default
returns-in_default c =
    let s = c.args in
    let at = placed s.op c.in-Some.place (sym c.in-Some.is ∙ c.place_of.ensures) in
    rw c.if-not-modeled.false
    (bad_parameters s.op s.now s.n (family_told s.op c.family_of.ensures c.other_family.ensures c.if-other_family.false)
    (sized_at s.op _ s.n at.0 ∙ sym c.fits.ensures ∙ c.if-fits.false))

pub returns-in-Some : goal.returns-in-Some
returns-in-Some c =
    let s = c.args in
    let at = placed s.op c.in-Some.place (sym c.in-Some.is ∙ c.place_of.ensures) in
    rw c.if-not-modeled.false
    (carried_out s.op s.now s.n (family_told s.op c.family_of.ensures c.other_family.ensures c.if-other_family.false)
    c.part_at.result
    (part_of s.op c.part_at.result (rw at.0 at at.1) (rw at.0 at c.part_at.ensures))
    (sized_at s.op _ s.n at.0 ∙ sym c.fits.ensures ∙ c.if-fits.true))
