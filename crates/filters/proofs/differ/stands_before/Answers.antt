-- `filters::differ::stands_before` meets its contract.
use Rattle.std.proofs.Common.{◌≡◌, length, refl, sym, ◌∙◌, arith, rules, false}
use lib.Seq.{take_all}
use borrow.Author.Tests.{eq-eqb}
use Rattle.lists.specs.Lists.{any}
use Rattle.filters.specs.Filters.{has_identity}
use Rattle.filters.specs.Keys.{key_of}
use Rattle.filters.proofs.Identities.{key_identity, key_other, low_other}
use Rattle.filters.proofs.Differing.{stands_here, stands_not}
use Rattle.filters.proofs.differ.stands_before.Goals.{else-low_of-low-via-then-low_of-low+else-key_of-key}
use Rattle.filters.proofs.differ.stands_before.Goals.{else-low_of-low-via-else-low_of-low}
use Rattle.filters.proofs.differ.stands_before.Goals as goal

pub loop-other-init : goal.loop-other-init
unfolding any
loop-other-init g c = refl

pub returns-then-key_of-key : goal.returns-then-key_of-key
returns-then-key_of-key g c =
    let identity = c.args.identity in
    let seven : length identity ≡ 7 = search rules in
    let key = c.key_of in
    let same : key_of c.other-item.result ≡ key_of identity =
    sym key.ensures.number ∙ c.if-key_of-key.true ∙ c.key_of-key.ensures.number in
    stands_here c.args.before.now identity c.loop-other-test.true c.other-item.is
    (sym (key_identity identity seven c.key_of-key.ensures.octets c.other-item.result key.ensures.octets) ∙ eq-eqb _ _ same)

pub loop-other-preserved : goal.loop-other-preserved
loop-other-preserved g c =
    let identity = c.args.identity in
    let seven : length identity ≡ 7 = search rules in
    let other : has_identity identity c.other-item.result ≡ false =
    elim c.else-low_of-low.branch [
      | else-low_of-low-via-then-low_of-low+else-key_of-key m ↦
          key_other identity c.other-item.result
          (λ e. m.if-key_of-key.false (m.key_of.ensures.number ∙ e ∙ sym c.key_of-key.ensures.number))
      | else-low_of-low-via-else-low_of-low m ↦
          low_other identity c.other-item.result seven
          (λ e. m.if-low_of-low.false (c.low_of.ensures ∙ e ∙ sym c.low_of-low.ensures))
    ] in
    stands_not c.args.before.now identity c.loop-other-test.true c.other-item.is other c.loop-other.invariant

pub returns : goal.returns
returns g c =
    let all = take_all c.loop-other.other-index c.args.before.now (omega arith) in
    sym (rw all at c.loop-other.invariant)
