-- The questions that a call goes through, in order: what a number tells that is 0, and that a number that is not 0 stays the
-- answer whatever is asked after it. For `questions` and for the calls.
use mathlib.Core.Path.{◌≡◌, refl, sym, ◌∙◌}
use Prim.Native.Nat.{ℕ, suc, ◌*◌, ◌≤◌}
use native.Mathlib.Omega.{arith}
use mathlib.Core.Bool.{Bool, true, false, cond}
use mathlib.Core.List.{List, [], ◌∷◌, ◌++◌}
use lib.Dec.{leb}
use lib.ListN.{length}
use borrow.Author.Tests.{leb-true}
use Rattle.profile.specs.declared.ControllerRow.{ControllerRow}
use Rattle.links.specs.Links.{CountsFit}
use Rattle.profile.specs.Profile.{within_limits}
use Rattle.state.specs.Holding.{state_holds, StateHolds, place_size}
use Rattle.state.specs.declared.Controller.{Controller}
use Rattle.state.proofs.Holding.{state_told}
use Rattle.calls.specs.Calls.{Question, first_no}
use Rattle.controller.specs.declared.refusal.Refusal.{Refusal}
use Rattle.controller.specs.declared.refusal.Refusal.TheVariants.{Profile, Rows, State, Pool, EventRoom, Handle, PacketRoom}
use Rattle.controller.specs.Asked.{number_of, question, about_state, about_events, about_pool}

-- a refusal has a number
pub some : (refusal : Refusal) → number_of refusal ≡ 0 → ⊥
some Profile e = absurd (omega (arith, e))
some Rows e = absurd (omega (arith, e))
some State e = absurd (omega (arith, e))
some Pool e = absurd (omega (arith, e))
some EventRoom e = absurd (omega (arith, e))
some Handle e = absurd (omega (arith, e))
some PacketRoom e = absurd (omega (arith, e))

-- a "no" among the first questions
first_cond : (b : Bool) (n x y : ℕ) → ((x ≡ 0 → ⊥) → y ≡ x) → (cond b x n ≡ 0 → ⊥) → cond b y n ≡ cond b x n
first_cond true n x y same h = same h
first_cond false n x y same h = refl

first_no_lem : (l more : List Question) → (first_no l ≡ 0 → ⊥) → first_no (l ++ more) ≡ first_no l
unfolding first_no
first_no_lem [] more h = absurd (h refl)
first_no_lem (q ∷ l) more h = first_cond q.yes q.number (first_no l) (first_no (l ++ more)) (first_no_lem l more) h

-- a refusal stays the answer, whatever is asked after it
pub more_refused : (refusal : Refusal) (l more : List Question) → number_of refusal ≡ first_no l
    → number_of refusal ≡ first_no (l ++ more)
more_refused refusal l more e = e ∙ sym (first_no_lem l more (λ z. some refusal (e ∙ z)))

-- no "no": the first question has a "yes", and so have the others
pub first_yes : (n : ℕ) (b : Bool) (l : List Question) → first_no (question (suc n) b ∷ l) ≡ 0 → (b ≡ true) × (first_no l ≡ 0)
unfolding first_no
first_yes n true l h = (refl, h)
first_yes n false l h = absurd (omega (arith, h))

-- questions 1 and 3 have a "yes", each as a test, the state holds together, and what is asked after them has no "no"
pub record Asked (k : ControllerRow) (s : Controller) (more : List Question) : Type 0 where
  pub limits : within_limits k ≡ true
  pub together : state_holds s k ≡ true
  pub held : StateHolds s k
  pub rest : first_no more ≡ 0

asked : (k : ControllerRow) (s : Controller) (more : List Question) {held : Bool} → held ≡ state_holds s k
    → 0 ≡ first_no (question 1 (within_limits k) ∷ question 3 held ∷ more) → Asked k s more
asked k s more same zero =
    let one = first_yes 0 (within_limits k) (question 3 (state_holds s k) ∷ more) (sym (rw same at zero)) in
    let three = first_yes 2 (state_holds s k) more one.1 in
    record { limits = one.0; together = three.0; held = state_told s k three.0; rest = three.1 }

pub state_asked : (k : ControllerRow) (s : Controller) {held : Bool} → held ≡ state_holds s k → 0 ≡ about_state k held
    → Asked k s []
state_asked k s = asked k s []

-- 1, 3 and 5
pub events_asked : (k : ControllerRow) (s : Controller) (out : List ℕ) {held : Bool} → held ≡ state_holds s k
    → 0 ≡ about_events k held (length out) → Asked k s (question 5 (leb 71 (length out)) ∷ [])
events_asked k s out = asked k s (question 5 (leb 71 (length out)) ∷ [])

pub has_room : (out : List ℕ) → first_no (question 5 (leb 71 (length out)) ∷ []) ≡ 0
    → (leb 71 (length out) ≡ true) × (71 ≤ length out)
has_room out e =
    let yes = first_yes 4 (leb 71 (length out)) [] e in
    (yes.0, leb-true 71 (length out) yes.0)

-- 1, 3 and 4
pub pool_asked : (k : ControllerRow) (s : Controller) (n : ℕ) {held : Bool} → held ≡ state_holds s k → 0 ≡ about_pool k held n
    → Asked k s (question 4 (leb (k.acl_count * place_size k) n) ∷ []) × (leb (k.acl_count * place_size k) n ≡ true)
pool_asked k s n same zero =
    let yes = asked k s (question 4 (leb (k.acl_count * place_size k) n) ∷ []) same zero in
    (yes, (first_yes 3 (leb (k.acl_count * place_size k) n) [] yes.rest).0)

-- what the functions of `notices` ask of the links
pub counts_fit : {k : ControllerRow} {s : Controller} {more : List Question} → Asked k s more → CountsFit s.links
counts_fit a = (a.held.links.few_links, a.held.links.few_waiting)
