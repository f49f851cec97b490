-- Reset and Set Event Mask: a modelled, rightly sized one succeeds, and nothing else of their opcodes has status 0. For the proof
-- of demand 3.
use Prim.Native.Nat.{ℕ, ◌/◌, ◌≤◌}
use mathlib.Core.Path.{◌≡◌, refl}
use mathlib.Core.Bool.{true, false}
use native.Mathlib.Omega.{arith}
use lib.Dec.{eqb}
use lib.ListN.{length}
use borrow.Author.Tests.{eqb-true, eqb-false}
use borrow.Table.Steps.{cases}
use Rattle.octets.specs.Octets.{octet, number_at}
use Rattle.lists.specs.Lists.{any}
use Rattle.hci.specs.Opcode.{is_async}
use Rattle.state.specs.State.{Model, count_command}
use Rattle.commands.specs.Parts.{with_counters}
use Rattle.commands.specs.Outcome.{Given, done}
use Rattle.commands.specs.Known.{reset, set_event_mask}
use Rattle.commands.specs.Table.{rows, find, sized}
use Rattle.commands.specs.Command.{family_of, other_family, refused, modelled, listed_row, rowless, by_row, command}
use Rattle.credits.specs.Steps.{initial}
use Rattle.agreement.proofs.ByDefinition.{seen}

-- an opcode that is no vendor's, of no advertising family, and not acknowledged with Command Status: each refusal of it is a
-- Command Complete with another status than 0
row_status : (g : Given) (answer op : ℕ) (m : Model) → eqb (op / 1024) 0x3F ≡ false → family_of op ≡ 0 → is_async op ≡ false
    → answer ≤ 3 → octet (by_row g answer op m).answer.octets 0 ≡ 0 → (answer ≡ 0) × (sized op rows (length g.params) ≡ true)
unfolding by_row rowless listed_row other_family modelled refused
row_status g answer op m vendor family sync most h =
    let h0 = rw (vendor, family, sync) at h in
    cases (eqb answer 2)
    (λ two. let k = rw two at h0 in absurd (omega arith))
    (λ two. let h2 = rw two at h0 in cases (eqb answer 3)
    (λ three. let k = rw three at h2 in absurd (omega arith))
    (λ three. let h3 = rw three at h2 in cases (eqb answer 1)
    (λ one. let k = rw one at h3 in absurd (omega arith))
    (λ one. let h1 = rw one at h3 in cases (sized op rows (length g.params))
    (λ fits. (omega (arith, eqb-false answer 1 one, eqb-false answer 2 two, eqb-false answer 3 three), fits))
    (λ fits. let k = rw fits at h1 in absurd (omega arith)))))

-- ---- status 0

pub reset_heard : (g : Given) (answer op : ℕ) (m : Model) → op ≡ 0x0C03 → answer ≤ 3
    → octet (command g answer op m).answer.octets 0 ≡ 0 → (answer ≡ 0) × (length g.params ≡ 0)
unfolding command family_of is_async any find
reset_heard g answer op m same most h =
    let n = with_counters (count_command m.counters) m in
    let k = row_status g answer 0x0C03 n refl refl refl most (rw same at h) in
    (k.0, eqb-true (length g.params) 0 k.1)

pub mask_heard : (g : Given) (answer op : ℕ) (m : Model) → op ≡ 0x0C01 → answer ≤ 3
    → octet (command g answer op m).answer.octets 0 ≡ 0 → (answer ≡ 0) × (length g.params ≡ 8)
unfolding command family_of is_async any find
mask_heard g answer op m same most h =
    let n = with_counters (count_command m.counters) m in
    let k = row_status g answer 0x0C01 n refl refl refl most (rw same at h) in
    (k.0, eqb-true (length g.params) 8 k.1)

-- ---- what the two do

pub reset_does : (g : Given) (m : Model) → length g.params ≡ 0
    → ((command g 0 0x0C03 m).answer ≡ done 0) × (seen (command g 0 0x0C03 m).state ≡ initial)
unfolding command by_row listed_row other_family family_of modelled find reset
reset_does g m e = rw e (refl, refl)

pub mask_does : (g : Given) (m : Model) → length g.params ≡ 8
    → ((command g 0 0x0C01 m).answer ≡ done 0) × ((command g 0 0x0C01 m).state.masks.event ≡ number_at 8 g.params 0)
unfolding command by_row listed_row other_family family_of modelled find set_event_mask
mask_does g m e = rw e (refl, refl)
