-- What a query promises: the answer of the definitions, or that of a refused query. For `queries`.
use mathlib.Core.Path.{◌≡◌, refl, sym, ap}
use Prim.Native.Nat.{ℕ}
use mathlib.Core.List.{List}
use mathlib.Core.Bool.{true, false}
use native.Mathlib.Omega.{arith}
use lib.ListN.{replicate}
use Rattle.std.specs.Prelude.{Result, Ok, Err, MatchResult}
use Rattle.profile.specs.declared.ControllerRow.{ControllerRow}
use Rattle.profile.specs.Profile.{rows_fit, row_bitmap}
use Rattle.state.specs.State.{Model}
use Rattle.state.specs.declared.Controller.{Controller}
use Rattle.calls.specs.Calls.{first_no}
use Rattle.calls.specs.Gives.{Finds, FindsBitmap}
use Rattle.controller.specs.declared.refusal.Refusal.{Refusal}
use Rattle.controller.specs.Asked.{number_of, refusal_number}

-- the bit map, where the rows do not fit and where they do
pub finds_no_bitmap : {opcodes answers bits : List ℕ} → false ≡ rows_fit opcodes answers bits
    → FindsBitmap opcodes answers bits 2 (replicate 64 0)
unfolding first_no
finds_no_bitmap e = record { asked = rw (sym e); refused = λ p. refl; accepted = λ z. absurd (omega arith) }

pub finds_bitmap : {opcodes answers bits map : List ℕ} → true ≡ rows_fit opcodes answers bits → map ≡ row_bitmap answers bits
    → FindsBitmap opcodes answers bits 0 map
unfolding first_no
finds_bitmap e found = record { asked = rw (sym e); refused = λ p. absurd (omega arith); accepted = λ z. found }

-- the number of what is found
pub numbered : {A : Type 0} {number : ℕ} (r : Result A Refusal)
    → MatchResult r (λ found. number ≡ 0) (λ refusal. number ≡ number_of refusal) → number ≡ refusal_number r
numbered (Ok x) e = e
numbered (Err refusal) e = e

-- the answer told in another form, as an enum by a number
pub finds_told : {A B : Type 0} (f : A → B) (k : ControllerRow) (s : Controller) (sought : Model → A) (none : A) (number : ℕ)
    (answer : A) → Finds k s sought none number answer → Finds k s (λ m. f (sought m)) (f none) number (f answer)
finds_told f k s sought none number answer found = record {
  asked = found.asked;
  refused = λ some. ap f (found.refused some);
  accepted = λ zero size pool. ap f (found.accepted zero size pool);
}
