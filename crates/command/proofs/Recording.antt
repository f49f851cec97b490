-- An answer that was acknowledged is remembered with the status that its octets begin with. For `remembered`.
use mathlib.Core.Path.{◌≡◌, refl, ap, ◌∙◌}
use Prim.Native.Nat.{ℕ}
use mathlib.Core.List.{List, [], ◌∷◌, ◌++◌}
use lib.ListN.{get_or}
use Rattle.octets.specs.Octets.{le}
use Rattle.answers.specs.Answers.{Form, Complete, Status, Silent}
use Rattle.state.specs.State.{remember}
use Rattle.command.specs.Calling.{remembered_in}

acknowledged_in : (form : Form) → (form ≡ Silent → ⊥) → (op : ℕ) (octets : List ℕ) (l : List (List ℕ))
    → remember (le 2 op ++ (get_or octets 0 0 ∷ [])) l ≡ remembered_in form op octets l
acknowledged_in Complete other op octets l = refl
acknowledged_in Status other op octets l = refl
acknowledged_in Silent other op octets l = absurd (other refl)

pub status_remembered : (form : Form) → (form ≡ Silent → ⊥) → (op code : ℕ) (octets : List ℕ) (l : List (List ℕ))
    {after : List (List ℕ)}
    → after ≡ remember (le 2 op ++ (code ∷ [])) l → code ≡ get_or octets 0 0 → after ≡ remembered_in form op octets l
status_remembered form other op code octets l e h =
    e ∙ ap (λ (x : ℕ). remember (le 2 op ++ (x ∷ [])) l) h ∙ acknowledged_in form other op octets l
