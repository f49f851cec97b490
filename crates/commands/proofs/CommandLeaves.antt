-- What `command` leaves, and the size of what it writes: every command but a modelled, rightly sized Reset changes no link's
-- handle, no queue and not what is in flight; only a modelled, rightly sized Set Event Mask changes the event mask; what is
-- written has at most 71 octets, one event at most behind the acknowledgement. For the theorem about lists of calls.
use mathlib.Core.Path.{◌≡◌, refl, sym, ap, ◌∙◌}
use Prim.Native.Nat.{ℕ, ◌+◌, ◌/◌, ◌≤◌}
use native.Mathlib.Omega.{arith}
use mathlib.Core.List.{List, [], ◌∷◌, ◌++◌}
use mathlib.Core.Bool.{true, false, true≢false, ◌&&◌, and-eq-true_iff}
use lib.Dec.{leb, ltb, eqb}
use lib.ListN.{length, get_or, length-append, get_or-eq_default}
use borrow.Author.Tests.{leb-true, ltb-true, ltb-false, eqb-true, eqb-false, eq-eqb}
use borrow.Table.Steps.{cases}
use Rattle.lists.specs.Lists.{first_at, any, all}
use Rattle.lists.proofs.Tests.{all_at}
use Rattle.hci.specs.Opcode.{is_async}
use Rattle.profile.specs.Profile.{answers_fit, row_answer}
use Rattle.answers.specs.Answers.{AnswerModel, Form, Complete, Status, Silent, complete, acknowledgement, octets_of, least}
use Rattle.state.specs.State.{Model, count_command}
use Rattle.commands.specs.Parts.{with_counters}
use Rattle.commands.specs.Outcome.{Outcome, outcome, Given}
use Rattle.commands.specs.Table.{find, rows, sized}
use Rattle.commands.specs.Command.{family_of, other_family, with_family, refused, modelled, listed_row, rowless, by_row}
use Rattle.commands.specs.Command.{remembered, command, command_octets}
use Rattle.commands.specs.Leaves.{Shaped, Modest, Leaves, IsReset, sets_event_mask}
use Rattle.commands.proofs.Leaving.{completes, one_done, one_status, modest_cond, same_state}
use Rattle.commands.proofs.Leaving.{leaves_before, leaves_after, leaves_kept, leaves_weaker}
use Rattle.commands.proofs.TableLeaves.{rows_leave, rows_modest}

-- ---- parts that touch no link and no mask

-- the second model has the first one's links and event mask
abbrev Kept : Model → Model → Type 0
Kept m n = (n.links ≡ m.links) × (n.masks.event ≡ m.masks.event)

family_kept : (op : ℕ) (m : Model) → Kept m (with_family op m)
family_kept op m = cases (eqb (family_of op) 0) (λ e. rw e (refl, refl)) (λ e. rw e (refl, refl))

remembered_kept : (form : Form) (op : ℕ) (octets : List ℕ) (m : Model) → Kept m (remembered form op octets m)
remembered_kept Complete op octets m = (refl, refl)
remembered_kept Status op octets m = (refl, refl)
remembered_kept Silent op octets m = (refl, refl)

refused_modest : (op code : ℕ) → Modest (refused op code)
unfolding refused
refused_modest op code = search (modest_cond, one_status, one_done)

-- ---- the cases of `by_row`: an answer beside the links and the event mask that were there, or a modelled command
module _ (P : Outcome → Type 0) (g : Given) (answer op : ℕ) (m : Model)
    (left : (a : AnswerModel) (n : Model) → Modest a → Kept m n → P (outcome a n))
    (run : (answer ≡ 1 → ⊥) → (answer ≡ 2 → ⊥) → (answer ≡ 3 → ⊥) → P (modelled g op (with_family op m))) where
  at_rowless : P (rowless op m)
  unfolding rowless
  at_rowless =
      cases (eqb (op / 1024) 0x3F) (λ e. rw e (left _ m (one_done _) (refl, refl)))
      (λ e. rw e (left _ _ (refused_modest op _) (refl, refl)))

  at_listed : (answer ≡ 2 → ⊥) → (answer ≡ 3 → ⊥) → P (listed_row g answer op m)
  unfolding listed_row
  at_listed two three =
      cases (other_family op m)
      (λ e. rw e (left _ m (modest_cond (eqb op 0x2007) (completes _ (omega arith)) (refused_modest op _)) (refl, refl)))
      (λ e. rw e (cases (eqb answer 1)
      (λ one. rw one (left _ _ (refused_modest op _) (family_kept op m)))
      (λ one. rw one (run (eqb-false answer 1 one) two three))))

  by_row_lem : P (by_row g answer op m)
  unfolding by_row
  by_row_lem =
      cases (eqb answer 2)
      (λ two. rw two (left _ _ (one_done _) (refl, refl)))
      (λ two. rw two (cases (eqb answer 3)
      (λ three. rw three at_rowless)
      (λ three. rw three (at_listed (eqb-false answer 2 two) (eqb-false answer 3 three)))))

-- ---- a modelled command

-- of Reset no parameters are right, of Set Event Mask eight octets
reset_length : (op n : ℕ) → op ≡ 0x0C03 → sized op rows n ≡ true → n ≡ 0
unfolding find
reset_length op n e h = eqb-true n 0 (rw e at h)

mask_length : (op n : ℕ) → eqb op 0x0C01 ≡ true → sized op rows n ≡ true → eqb n 8 ≡ true
unfolding find
mask_length op n e h = rw (eqb-true op 0x0C01 e) at h

modelled_leaves : (g : Given) → Shaped g → (op : ℕ) → ((op ≡ 0x0C03) × (length g.params ≡ 0) → ⊥) → (m : Model)
    → Leaves (eqb op 0x0C01 && eqb (length g.params) 8) m (modelled g op m)
unfolding modelled
modelled_leaves g shaped op other m =
    cases (sized op rows (length g.params))
    (λ fits. rw fits (leaves_weaker
    (λ none. cases (eqb op 0x0C01)
    (λ e. absurd (true≢false (sym (mask_length op _ e fits) ∙ (rw e at none))))
    (λ e. e))
    (rows_leave g shaped op (λ e. other (e, reset_length op _ e fits)) m)))
    (λ fits. rw fits (same_state (refused_modest op _)))

modelled_modest : (g : Given) → Shaped g → (op : ℕ) (m : Model) → Modest (modelled g op m).answer
unfolding modelled
modelled_modest g shaped op m =
    cases (sized op rows (length g.params)) (λ e. rw e (rows_modest g shaped op m)) (λ e. rw e (refused_modest op _))

-- ---- any command

-- the octets that an answer becomes
acknowledged : (form : Form) (num op : ℕ) (octets then : List ℕ) → 6 + length octets + length then ≤ 71
    → least form ≤ length octets
    → length (acknowledgement form num op octets ++ then) ≤ 71
acknowledged Complete num op octets then short told = omega (arith, length-append octets then)
acknowledged Status num op octets then short told = omega arith
acknowledged Silent num op octets then short told = omega arith

acknowledged_short : (num op : ℕ) (a : AnswerModel) → Modest a → length (octets_of num op a) ≤ 71
acknowledged_short num op a h = acknowledged a.form num op a.octets a.then h.short h.told

module _ (g : Given) (shaped : Shaped g) (answer op : ℕ) where
  -- answers are at most 3: `row_answer_most`
  module _ (most : answer ≤ 3) (other : IsReset g answer op → ⊥) where
    row_leaves : (m : Model) → Leaves (sets_event_mask g answer op) m (by_row g answer op m)
    row_leaves m =
        let family = family_kept op m in
        by_row_lem (Leaves (sets_event_mask g answer op) m) g answer op m
        (λ a n h k. leaves_kept k.0 k.1 h)
        (λ one two three.
        let zero : answer ≡ 0 = omega arith in
        leaves_before {n = with_family op m} family.0 family.1
        (rw (eq-eqb answer 0 zero) (modelled_leaves g shaped op (λ k. other (zero, k.0, k.1)) (with_family op m))))

    pub command_leaves : (m : Model) → Leaves (sets_event_mask g answer op) m (command g answer op m)
    unfolding command
    command_leaves m =
        let counted : Model = with_counters (count_command m.counters) m in
        let o : Outcome = by_row g answer op counted in
        let kept = remembered_kept o.answer.form op o.answer.octets o.state in
        leaves_after {o = o} kept.0 kept.1 (leaves_before {n = counted} refl refl (row_leaves counted))

    -- only a modelled, rightly sized Set Event Mask or Reset changes the event mask
    pub mask_only : sets_event_mask g answer op ≡ false → (m : Model) → (command g answer op m).state.masks.event ≡ m.masks.event
    mask_only none m = (command_leaves m).mask none

  -- Reset's answer too
  pub command_modest : (m : Model) → Modest (command g answer op m).answer
  unfolding command
  command_modest m =
      by_row_lem (λ o. Modest o.answer) g answer op (with_counters (count_command m.counters) m)
      (λ a n h k. h) (λ one two three. modelled_modest g shaped op _)

  pub command_short : (m : Model) → length (command_octets g answer op m) ≤ 71
  command_short m = acknowledged_short g.profile.num_command_packets op (command g answer op m).answer (command_modest m)

-- ---- Command Complete of 0x0C03 with status 0 comes only from Reset: the opcode is no vendor's, of no advertising family, and
-- not acknowledged with Command Status, so each refusal of it has another status

reset_row : (g : Given) (answer : ℕ) (m : Model) → answer ≤ 3 → get_or (by_row g answer 0x0C03 m).answer.octets 0 1 ≡ 0
    → (answer ≡ 0) × (length g.params ≡ 0)
unfolding by_row rowless listed_row other_family family_of modelled refused is_async any find
reset_row g answer m most h =
    cases (eqb answer 2)
    (λ two. let k = rw two at h in absurd (omega arith))
    (λ two. let h2 = rw two at h in cases (eqb answer 3)
    (λ three. let k = rw three at h2 in absurd (omega arith))
    (λ three. let h3 = rw three at h2 in cases (eqb answer 1)
    (λ one. let k = rw one at h3 in absurd (omega arith))
    (λ one. let h1 = rw one at h3 in cases (eqb (length g.params) 0)
    (λ none.
    let modelled : answer ≡ 0 = omega (arith, eqb-false answer 1 one, eqb-false answer 2 two, eqb-false answer 3 three) in
    (modelled, eqb-true (length g.params) 0 none))
    (λ some. let k = rw some at h1 in absurd (omega arith)))))

pub reset_status : (g : Given) (answer op : ℕ) (m : Model) → answer ≤ 3 → op ≡ 0x0C03
    → get_or (command g answer op m).answer.octets 0 1 ≡ 0
    → (answer ≡ 0) × (length g.params ≡ 0)
unfolding command
reset_status g answer op m most same h = reset_row g answer (with_counters (count_command m.counters) m) most (rw same at h)

pub reset_only : (g : Given) (answer op : ℕ) (m : Model) → answer ≤ 3
    → (command g answer op m).answer ≡ complete (0 ∷ []) → op ≡ 0x0C03
    → (answer ≡ 0) × (length g.params ≡ 0)
reset_only g answer op m most success same =
    reset_status g answer op m most same (ap (λ (a : AnswerModel). get_or a.octets 0 1) success)

-- ---- the answer of a row, or that there is none, is at most 3 where the rows fit
pub row_answer_most : (opcodes answers : List ℕ) (op : ℕ) → answers_fit opcodes answers ≡ true → row_answer opcodes answers op ≤ 3
row_answer_most opcodes answers op h =
    let i : ℕ = first_at (λ x. eqb x op) opcodes in
    let few = ((and-eq-true_iff (eqb (length opcodes) (length answers)) (all (λ a. leb a 2) answers)).0 h).1 in
    cases (ltb i (length answers))
    (λ e. omega (arith, leb-true (get_or answers i 3) 2 (all_at (λ a. leb a 2) answers i 3 few (ltb-true i (length answers) e))))
    (λ e. omega (arith, get_or-eq_default answers 3 (ltb-false i (length answers) e)))
