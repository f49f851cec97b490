-- What keeps the state together: each operation on a part keeps what question 3 asks of that part, so a state whose part is
-- put back holds together again. For the controller's calls.
use Rattle.std.proofs.Common.{◌≡◌, ℕ, ◌<◌, ◌≤◌, ltb, List, [], ◌∷◌, ◌++◌, length, drop, sym, ap, ◌∙◌}
use Rattle.std.proofs.Common.{arith, length-append, length-drop, ltb-true}
use borrow.Table.Steps.{cases}
use Rattle.lists.specs.Lists.{first_at, without, update_first}
use Rattle.lists.proofs.Chunks.{length_chunks}
use Rattle.filters.specs.declared.accept.AcceptList.{AcceptList}
use Rattle.filters.specs.declared.resolving.ResolvingList.{ResolvingList}
use Rattle.filters.specs.Filters.{accept_entries, resolving_entries, added, removed, has_identity, new_entry, with_mode}
use Rattle.filters.proofs.Kept as kept
use Rattle.state.specs.State.{answers_of, remember}
use Rattle.state.specs.Holding.{AcceptHolds, ResolvingHolds}
use Rattle.state.specs.declared.Recent.{Recent}

-- ---- the accept list
module _ {a r : AcceptList} {size : ℕ} where
  pub accept_added : (entry : List ℕ) → AcceptHolds a size → size ≤ 32
      → accept_entries r ≡ added size entry (accept_entries a) → AcceptHolds r size
  accept_added entry h most e =
      let l : List (List ℕ) = accept_entries a in
      let n : length l ≤ size = rw (kept.accept_count a) h.sized in
      let m : r.count ≤ size = omega (arith, kept.accept_count r, ap length e, kept.added_within entry l size n) in
      record { few = omega arith; sized = m; differ = rw e (kept.added_differ entry l size h.differ) }

  pub accept_removed : (entry : List ℕ) → AcceptHolds a size
      → accept_entries r ≡ removed entry (accept_entries a) → AcceptHolds r size
  accept_removed entry h e =
      let l : List (List ℕ) = accept_entries a in
      let m : r.count ≤ a.count =
      omega (arith, kept.accept_count r, kept.accept_count a, ap length e, kept.removed_within entry l) in
      record {
        few = omega (arith, h.few);
        sized = omega (arith, h.sized);
        differ = rw e (kept.removed_differ entry l h.differ);
      }

pub accept_empty : {r : AcceptList} (size : ℕ) → accept_entries r ≡ [] → AcceptHolds r size
accept_empty {r} size e =
    let n : r.count ≡ 0 = sym (kept.accept_count r) ∙ ap length e in
    record { few = omega arith; sized = omega arith; differ = rw e kept.empty_entries_differ }

-- ---- the resolving list
module _ {a r : ResolvingList} {size : ℕ} where
  pub resolving_pushed : (identity : List ℕ) → ResolvingHolds a size → size ≤ 16 → length identity ≡ 7
      → a.count ≤ first_at (has_identity identity) (resolving_entries a) → a.count < size
      → resolving_entries r ≡ resolving_entries a ++ (new_entry identity ∷ []) → ResolvingHolds r size
  resolving_pushed identity h most seven absent room e =
      let l : List (List ℕ) = resolving_entries a in
      let n : length l ≡ a.count = kept.resolving_count a in
      let m : r.count ≤ size =
      omega (arith, kept.resolving_count r, ap length e, kept.pushed_within identity l size (omega arith)) in
      record { few = omega arith; sized = m; differ = rw e (kept.pushed_differ identity l seven (omega arith) h.differ) }

  pub resolving_removed : (identity : List ℕ) → ResolvingHolds a size
      → resolving_entries r ≡ without (has_identity identity) (resolving_entries a) → ResolvingHolds r size
  resolving_removed identity h e =
      let l : List (List ℕ) = resolving_entries a in
      let m : r.count ≤ a.count =
      omega (arith, kept.resolving_count r, kept.resolving_count a, ap length e, kept.without_within identity l) in
      record {
        few = omega (arith, h.few);
        sized = omega (arith, h.sized);
        differ = rw e (kept.without_differ identity l h.differ);
      }

  pub resolving_moded : (identity : List ℕ) (mode : ℕ) → ResolvingHolds a size → length identity ≡ 7
      → resolving_entries r ≡ update_first (has_identity identity) (with_mode mode) (resolving_entries a) → ResolvingHolds r size
  resolving_moded identity mode h seven e =
      let l : List (List ℕ) = resolving_entries a in
      let m : r.count ≡ a.count =
      sym (kept.resolving_count r) ∙ ap length e ∙ kept.mode_length identity l mode ∙ kept.resolving_count a in
      record {
        few = omega (arith, h.few);
        sized = omega (arith, h.sized);
        differ = rw e (kept.mode_differ identity l mode seven h.differ);
      }

pub resolving_empty : {r : ResolvingList} (size : ℕ) → resolving_entries r ≡ [] → ResolvingHolds r size
resolving_empty {r} size e =
    let n : r.count ≡ 0 = sym (kept.resolving_count r) ∙ ap length e in
    record { few = omega arith; sized = omega arith; differ = rw e kept.empty_identities_differ }

-- ---- the answers
answers_count : (r : Recent) → length (answers_of r) ≡ r.count
answers_count r = length_chunks 3 r.count r.octets

remember_most : (answer : List ℕ) (l : List (List ℕ)) → length l ≤ 32 → length (remember answer l) ≤ 32
unfolding remember
remember_most answer l h =
    cases (ltb (length l) 32)
    (λ e. rw (e, length-append l (answer ∷ [])) (omega (arith, ltb-true (length l) 32 e)))
    (λ e. rw (e, length-append (drop 1 l) (answer ∷ []), length-drop 1 l) (omega arith))

pub recent_remembered : (a r : Recent) (answer : List ℕ) → a.count ≤ 32
    → answers_of r ≡ remember answer (answers_of a) → r.count ≤ 32
recent_remembered a r answer h e =
    omega (arith, answers_count r, ap length e, remember_most answer (answers_of a) (omega (arith, answers_count a)))
