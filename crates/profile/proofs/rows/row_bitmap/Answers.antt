-- `row_bitmap` meets its contract: where the loop ends, no row is left.
use mathlib.Core.Logic.{◌⊎◌, inl, inr}
use Rattle.std.proofs.Common.{◌≡◌, ◌∙◌, ℕ, List, [], ◌∷◌, refl, sym}
use Rattle.std.proofs.lemmas.Slice.Zip.{either_empty_from_Zip}
use Rattle.profile.specs.Profile.{row_bits}
use Rattle.profile.proofs.rows.row_bitmap.Goals as goal

no_rows : (map answers bits : List ℕ) → (answers ≡ []) ⊎ (bits ≡ []) → row_bits map answers bits ≡ map
unfolding row_bits
no_rows map [] bits e = refl
no_rows map (answer ∷ answers) [] e = refl
no_rows map (answer ∷ answers) (bit ∷ bits) e = elim e [ inl h ↦ cc | inr h ↦ cc ]

pub returns : goal.returns
returns c =
    let ended = either_empty_from_Zip c.loop-answer.answer-iterator c.next.new.self _ c.in-None.is c.next.ensures.steps in
    sym (c.loop-answer.invariant ∙ no_rows _ _ _ ended)
