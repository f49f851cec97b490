-- The loops that tell whether the entries of a list differ: the outer one marks the lowest bits of each address that it meets,
-- and entries with the same type and address have the same mark; the inner one looks for an identity before an entry.
use Prim.Native.Nat.{ℕ, ◌+◌, ◌%◌, ◌≤◌, ◌<◌}
use native.Mathlib.Omega.{arith}
use native.Mathlib.Numerals.{add-one}
use mathlib.Core.Bool.{Bool, true, false, true≢false}
use mathlib.Core.Path.{◌≡◌, refl, sym, ap, ◌∙◌}
use mathlib.Core.List.{List, []}
use lib.ListN.{length, take, get_or, set, replicate, length-set, length-take}
use lib.Seq.{get_or-take, take_all, take-suc}
use borrow.Author.Tests.{eq-eqb}
use borrow.Table.Steps.{cases}
use Rattle.lists.specs.Lists.{any, keyed, distinct_by, same_list}
use Rattle.lists.proofs.Tests.{none_at, none_from, any_agree}
use Rattle.lists.proofs.Same.{same_sym}
use Rattle.lists.proofs.Distinct.{distinct_at, distinct_push}
use Rattle.lists.proofs.Prefix.{any_more}
use Rattle.lists.proofs.Marking.{Marks, marks_none, marks_more}
use Rattle.filters.specs.Filters.{has_identity, identities_differ}
use Rattle.filters.specs.Keys.{low_of}
use Rattle.filters.proofs.Identities.{same_low}

-- the lowest nine bits of an entry's address
abbrev pub mark_of : List ℕ → ℕ
mark_of entry = low_of entry % 512

-- the first i entries differ and their marks are met
pub record Differing (xs : List (List ℕ)) (met : List Bool) (i : ℕ) : Type 0 where
  pub long : length met ≡ 512
  pub marked : Marks 512 mark_of met (take i xs)
  pub differ : identities_differ (take i xs) ≡ true

module _ (xs : List (List ℕ)) where
  pub differ_begin : Differing xs (replicate 512 false) 0
  unfolding distinct_by
  differ_begin = record { long = refl; marked = marks_none 512 mark_of; differ = refl }

  pub differ_end : {met : List Bool} {i : ℕ} → Differing xs met i → length xs ≤ i → true ≡ identities_differ xs
  differ_end {i = i} g h = sym (rw (take_all i xs h) at g.differ)

  -- ---- the search of an identity: the entry at i has it, or not
  module _ (identity : List ℕ) {i : ℕ} {entry : List ℕ} (h : i < length xs) (is : entry ≡ get_or xs i entry) where
    pub stands_here : has_identity identity entry ≡ true → true ≡ any (has_identity identity) xs
    stands_here here =
        sym
        (cases (any (has_identity identity) xs) (λ u. u)
        (λ u. absurd (true≢false (sym here ∙ ap (has_identity identity) is ∙ none_at (has_identity identity) xs i entry u h))))

    pub stands_not : has_identity identity entry ≡ false → any (has_identity identity) (take i xs) ≡ false
        → any (has_identity identity) (take (i + 1) xs) ≡ false
    stands_not other none =
        any_more (has_identity identity) xs i entry h ∙ rw (none, ← is, other) refl

  -- ---- a turn, in which the entry's lowest octets are read
  module _ {i : ℕ} {entry : List ℕ} (h : i < length xs) (is : entry ≡ get_or xs i entry) where
    module _ {met : List Bool} {low : ℕ} (g : Differing xs met i) (read : low ≡ low_of entry) where
      -- a mark that was not met is that of no entry before this one, so none of them has its identity
      pub unmet_none : get_or met (low % 512) false ≡ false → any (has_identity (take 7 entry)) (take i xs) ≡ false
      unmet_none new =
          let passed = take i xs in
          let none : any (keyed mark_of (low % 512)) passed ≡ false = sym (g.marked (low % 512) (omega arith)) ∙ new in
          none_from (has_identity (take 7 entry)) passed []
          (λ j b.
          let x = get_or passed j [] in
          cases (has_identity (take 7 entry) x)
          (λ e.
          let met-x : keyed mark_of (low % 512) x ≡ true =
          eq-eqb _ _ (ap (λ (k : ℕ). k % 512) (sym (same_low entry x e) ∙ sym read)) in
          absurd (true≢false (sym met-x ∙ none_at (keyed mark_of (low % 512)) passed j [] none b)))
          (λ e. e))

      -- no entry before it has its identity: the loop goes on
      pub differ_turn : any (has_identity (take 7 entry)) (take i xs) ≡ false → Differing xs (set met (low % 512) true) (i + 1)
      differ_turn none =
          record {
            long = rw length-set g.long;
            marked = rw (read ∙ ap low_of is) (marks_more 512 mark_of met xs i entry g.marked g.long (omega arith) h);
            differ = rw (add-one, take-suc xs i entry h, ← is)
                (distinct_push _ (take i xs) entry g.differ
                (any_agree (has_identity (take 7 entry)) _ (take i xs) (λ x. same_sym (take 7 x) (take 7 entry)) ∙ none));
          }

    -- one has it
    pub differ_stop : any (has_identity (take 7 entry)) (take i xs) ≡ true → false ≡ identities_differ xs
    differ_stop taken =
        sym
        (cases (identities_differ xs)
        (λ t.
        let none = none_from (has_identity (take 7 entry)) (take i xs) entry
        (λ j b.
        let small : j < i = omega (arith, length-take i xs) in
        rw (get_or-take i xs j entry small)
        (same_sym (take 7 entry) (take 7 (get_or xs j entry))
        ∙ ap (λ (x : List ℕ). same_list (take 7 (get_or xs j entry)) (take 7 x)) is ∙ distinct_at _ xs j i entry t small h)) in
        absurd (true≢false (sym taken ∙ none)))
        (λ t. t))
