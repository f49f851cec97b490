-- Demand 3, proved of any controller whose calls follow the rules of specs/Steps.antt: `credits` gives the claim `CreditsHold`
-- of specs/Credits.antt. For whoever states it of a controller.
use mathlib.Core.Path.{◌≡◌}
use mathlib.Core.Bool.{Bool, true}
use mathlib.Core.List.{List, [], ◌∷◌}
use native.Mathlib.Omega.{arith}
use Rattle.credits.specs.Credits.{Book, blank, book, Profile, WellFormed, OpensUnused, Unmasked, LinkKeeps, Reading, Made}
use Rattle.credits.specs.Credits.{Chained, last_of, Within, call_of, answer_of, book_after, AllAlong, NothingDropped, CreditsHold}
use Rattle.credits.specs.Steps.{State, empty, Step}
use Rattle.credits.proofs.Bounds.{within_empty, within_step}
use Rattle.credits.proofs.Agrees.{Agrees, agrees_initial, counts}
use Rattle.credits.proofs.Calls.{Obeys, step_agrees}

-- `unmasked` reads bit 4 of a state's event mask
module _ {C S A : Type 0} (r : Reading C S A) (unmasked : S → Bool) where
  abbrev pub state_of : S → State
  state_of s = record { buffers = r.buffers s; unmasked = unmasked s }

  -- What is to be shown of a controller: each call follows a rule, from states of which `Good` holds, and `Good` goes on
  -- holding.
  abbrev pub Follows : Profile → (C → S → S → A → Type 0) → (S → Type 0) → Type 0
  Follows k Gives Good =
      (c : C) (s t : S) (a : A) → Good s → Within k (r.buffers s) → Gives c s t a
      → Step k (r.call c) (state_of s) (state_of t) (r.answer c a) × Good t

  -- the premises at each call
  obeys : (k : Profile) (b : Book) (l : List (Made C S A)) → AllAlong r (λ b c a. WellFormed k b c) b l
      → AllAlong r (λ b c a. Unmasked c a) b l → AllAlong r OpensUnused b l → AllAlong r (λ b c a. LinkKeeps b c) b l
      → AllAlong r (Obeys k) b l
  obeys k b [] p q u v = tt
  obeys k b (m ∷ l) p q u v = (
    λ x. record { rule = p.0 x; unmasked = q.0 x; unused = u.0 x; link = v.0 x },
    obeys k (book b (call_of r m) (answer_of r m)) l p.1 q.1 u.1 v.1,
  )

  module _ (k : Profile) (Gives : C → S → S → A → Type 0) (Good : S → Type 0) (follows : Follows k Gives Good) where
    -- whatever the calls carry
    list_within : (s : S) (l : List (Made C S A)) → Good s → Within k (r.buffers s) → Chained Gives s l
        → Within k (r.buffers (last_of s l)) × Good (last_of s l)
    unfolding last_of
    list_within s [] g i x = (i, g)
    list_within s (m ∷ l) g i x =
        let f = follows m.call s m.left m.gave g i x.0 in
        list_within m.left l f.1 (within_step f.0 i) x.1

    -- while the premises hold
    list_agrees : (s : S) (b : Book) (l : List (Made C S A)) → Good s → Within k (r.buffers s) → Agrees (state_of s) b
        → Chained Gives s l → AllAlong r (Obeys k) b l
        → Agrees (state_of (last_of s l)) (book_after r b l) × NothingDropped r s l
    unfolding last_of book_after
    list_agrees s b [] g i j x w = (j, tt)
    list_agrees s b (m ∷ l) g i j x w =
        let f = follows m.call s m.left m.gave g i x.0 in
        let n = step_agrees f.0 j w.0 in
        let next = book b (call_of r m) (answer_of r m) in
        let rest = list_agrees m.left next l f.1 (within_step f.0 i) n.0 x.1 w.1 in
        (rest.0, (n.1, rest.1))

    -- Demand 3, from a state without links and packets whose event mask has bit 4 set, where `Good` holds; it is to say what is
    -- asked of the filter lists.
    pub credits : (FiltersHold : S → Type 0) → ((s : S) → Good s → FiltersHold s)
        → (from : S) → Good from → r.buffers from ≡ empty → unmasked from ≡ true → CreditsHold r k FiltersHold Gives from
    credits FiltersHold told from g none seen =
        let i : Within k (r.buffers from) = rw none (within_empty k) in
        let j : Agrees (state_of from) blank = rw (none, seen) agrees_initial in
        record {
          within = λ l x. let end = list_within from l g i x in (end.0, told (last_of from l) end.1);
          credits = λ l x p.
              let w = obeys k blank l p.host_keeps_rule p.unmasked p.opens_unused p.link_keeps_part in
              let end = list_agrees from blank l g i j x w in
              (end.1, λ e. omega (arith, counts end.0));
        }
