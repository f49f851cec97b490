-- What the commands keep of the two lists: entries stay distinct and within the list's size, and have their width. For
-- the crates above, which keep the controller's state together; and how the code's removal meets its definition.
use Prim.Native.Nat.{ℕ, ◌*◌, ◌≤◌, ◌<◌}
use native.Mathlib.Omega.{arith}
use mathlib.Core.Bool.{true, false, not}
use mathlib.Core.Path.{◌≡◌, sym, ap, ◌∙◌}
use mathlib.Core.List.{List, [], ◌∷◌, ◌++◌}
use lib.Dec.{leb, eqb}
use lib.ListN.{length, take, get_or, length-append}
use lib.Seq.{take_at}
use borrow.Author.Tests.{leb-false, le-ltb}
use borrow.Table.Steps.{cases}
use Rattle.lists.specs.Lists.{first_at, any, without, update_first, same_list}
use Rattle.lists.proofs.Same.{same_equal, same_self, same_sym}
use Rattle.lists.proofs.Tests.{first_passes, any_first, any_agree, any_append}
use Rattle.lists.proofs.Fewer.{keep_fewer, without_fewer, length_fewer}
use Rattle.lists.proofs.Distinct.{distinct_fewer, distinct_push}
use Rattle.lists.proofs.Update.{length_update, map_update}
use Rattle.lists.proofs.Chunks.{length_chunks}
use Rattle.lists.proofs.Cut.{keep_cut, keep_absent, keep_gone}
use Rattle.lists.proofs.Agree.{distinct_map, distinct_short}
use Rattle.filters.specs.declared.accept.AcceptList.{AcceptList}
use Rattle.filters.specs.declared.resolving.ResolvingList.{ResolvingList}
use Rattle.filters.specs.Filters.{accept_entries, accept_entry, contains_entry, added, is_full, removed}
use Rattle.filters.specs.Filters.{entries_differ, resolving_entries, has_identity, new_entry, with_mode}
use Rattle.filters.specs.Filters.{identities_differ}
use Rattle.filters.specs.Keys.{without_place}
use Rattle.filters.proofs.Identities.{entry_length}

-- ---- removal, by the place of the entry
pub removed_cut : (entry : List ℕ) (l : List (List ℕ)) (place : ℕ) → place ≡ first_at (same_list entry) l → place < length l
    → removed entry (without_place place l) ≡ removed entry l
unfolding removed
removed_cut entry l place e h =
    let same : same_list entry (get_or l place []) ≡ true = rw e (first_passes (same_list entry) l [] (omega arith)) in
    keep_cut (λ x. not (same_list entry x)) l place [] (ap not same) h

pub removed_absent : (entry : List ℕ) (l : List (List ℕ)) → length l ≤ first_at (same_list entry) l → removed entry l ≡ l
unfolding removed
removed_absent entry l h = keep_absent (same_list entry) l h

-- ---- the empty lists
pub empty_entries_differ : entries_differ [] ≡ true
empty_entries_differ = distinct_short same_list [] (omega arith)

pub empty_identities_differ : identities_differ [] ≡ true
empty_identities_differ = distinct_short _ [] (omega arith)

-- ---- the accept list
pub accept_count : (a : AcceptList) → length (accept_entries a) ≡ a.count
accept_count a = length_chunks 7 a.count a.octets

pub accept_seven : (a : AcceptList) (i : ℕ) → i < a.count → a.count * 7 ≤ length a.octets
    → length (get_or (accept_entries a) i []) ≡ 7
accept_seven a i h fits = entry_length 7 a.count a.octets fits i h

pub accept_entry_seven : (p : List ℕ) → length p ≡ 7 → length (accept_entry p) ≡ 7
unfolding accept_entry
accept_entry_seven p h = cases (eqb (get_or p 0 0) 0xFF) (λ e. rw e) (λ e. rw e h)

module _ (entry : List ℕ) (l : List (List ℕ)) where
  pub added_differ : (size : ℕ) → entries_differ l ≡ true → entries_differ (added size entry l) ≡ true
  unfolding added
  added_differ size h =
      cases (contains_entry entry l) (λ e. rw e h)
      (λ e.
      cases (leb size (length l)) (λ u. rw (e, u) h)
      (λ u. rw (e, u) (distinct_push same_list l entry h (any_agree (same_list entry) _ l (λ x. same_sym x entry) ∙ e))))

  pub added_within : (size : ℕ) → length l ≤ size → length (added size entry l) ≤ size
  unfolding added
  added_within size h =
      cases (contains_entry entry l) (λ e. rw e h)
      (λ e.
      cases (leb size (length l)) (λ u. rw (e, u) h)
      (λ u. rw (e, u, length-append) (omega (arith, leb-false size (length l) u))))

  -- the entry is then on the list, unless it was full, and nothing changes where it was
  pub added_present : (size : ℕ) → is_full size entry l ≡ false → contains_entry entry (added size entry l) ≡ true
  unfolding added is_full any
  added_present size h =
      cases (contains_entry entry l) (λ e. rw (e, e))
      (λ e.
      let room : leb size (length l) ≡ false = rw e at h in
      rw (e, room, any_append (same_list entry) l (entry ∷ []), e, same_self entry))

  pub added_full : (size : ℕ) → is_full size entry l ≡ true → added size entry l ≡ l
  unfolding added is_full
  added_full size h =
      cases (contains_entry entry l) (λ e. rw e)
      (λ e.
      let full : leb size (length l) ≡ true = rw e at h in
      rw (e, full))

  pub removed_differ : entries_differ l ≡ true → entries_differ (removed entry l) ≡ true
  unfolding removed
  removed_differ = distinct_fewer same_list (keep_fewer _ l)

  pub removed_within : length (removed entry l) ≤ length l
  unfolding removed
  removed_within = length_fewer (keep_fewer _ l)

  pub removed_gone : contains_entry entry (removed entry l) ≡ false
  unfolding removed
  removed_gone = keep_gone (same_list entry) l

-- ---- the resolving list
pub resolving_count : (r : ResolvingList) → length (resolving_entries r) ≡ r.count
resolving_count r = length_chunks 8 r.count r.octets

pub resolving_eight : (r : ResolvingList) (i : ℕ) → i < r.count → r.count * 8 ≤ length r.octets
    → length (get_or (resolving_entries r) i []) ≡ 8
resolving_eight r i h fits = entry_length 8 r.count r.octets fits i h

module _ (identity : List ℕ) (l : List (List ℕ)) where
  -- appended, where the search did not find it
  pub pushed_differ : length identity ≡ 7 → length l ≤ first_at (has_identity identity) l → identities_differ l ≡ true
      → identities_differ (l ++ (new_entry identity ∷ [])) ≡ true
  pushed_differ seven absent h =
      let front : take 7 (new_entry identity) ≡ identity = take_at identity (0 ∷ []) 7 seven in
      let none : any (has_identity identity) l ≡ false = any_first (has_identity identity) l ∙ le-ltb _ _ absent in
      distinct_push _ l (new_entry identity) h
      (any_agree (has_identity identity) _ l (λ x. rw front (same_sym (take 7 x) identity)) ∙ none)

  pub pushed_within : (size : ℕ) → length l < size → length (l ++ (new_entry identity ∷ [])) ≤ size
  pushed_within size h = rw length-append (omega arith)

  pub without_differ : identities_differ l ≡ true → identities_differ (without (has_identity identity) l) ≡ true
  without_differ = distinct_fewer _ (without_fewer (has_identity identity) l)

  pub without_within : length (without (has_identity identity) l) ≤ length l
  without_within = length_fewer (without_fewer (has_identity identity) l)

  -- a mode is no part of the identity
  pub mode_differ : (mode : ℕ) → length identity ≡ 7 → identities_differ l ≡ true
      → identities_differ (update_first (has_identity identity) (with_mode mode) l) ≡ true
  mode_differ mode seven h =
      let same : (x : List ℕ) → has_identity identity x ≡ true → take 7 (with_mode mode x) ≡ take 7 x =
      λ x e. take_at (take 7 x) (mode ∷ []) 7 (ap length (sym (same_equal identity (take 7 x) e)) ∙ seven) in
      distinct_map (take 7) same_list (update_first (has_identity identity) (with_mode mode) l)
      ∙ rw (map_update (has_identity identity) (with_mode mode) (take 7) l same)
      (sym (distinct_map (take 7) same_list l) ∙ h)

  pub mode_length : (mode : ℕ) → length (update_first (has_identity identity) (with_mode mode) l) ≡ length l
  mode_length mode = length_update (has_identity identity) (with_mode mode) l
