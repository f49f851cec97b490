-- The key expansion's loop: what holds at word i of the words w, where w₀ are those at the loop's start; that a turn
-- keeps it; and that at the end it gives all 44 words.
use mathlib.Core.Path.{◌≡◌, sym, ap, ap₂, ◌∙◌}
use mathlib.Core.List.{List, [], ◌∷◌, ◌++◌}
use Prim.Native.Nat.{ℕ, suc, ◌+◌, ◌-◌, ◌≤◌, ◌<◌}
use native.Mathlib.Omega.{arith}
use native.Mathlib.Numerals.{add-one}
use lib.ListN.{length, get_or, take, set, length-set}
use lib.Seq.{take-suc-set, get_or-take, take_all}
use Rattle.aes.specs.Aes.{add_word, key_part, next_word, extend}

pub record Keys (w₀ w : List (List ℕ)) (i : ℕ) : Type 0 where
  pub low : 4 ≤ i
  pub high : i ≤ 44
  pub long : length w ≡ 44
  pub made : take i w ≡ extend (take 4 w₀) (i - 4)

-- the next word, of the words so far
next : (w : List (List ℕ)) (i : ℕ) → 4 ≤ i
    → add_word (get_or w (i - 4) []) (key_part (get_or w (i - 1) []) i) ≡ next_word (take i w) i
unfolding next_word
next w i h =
    ap₂ (λ (a b : List ℕ). add_word a (key_part b i))
    (sym (get_or-take i w (i - 4) [] (omega arith)))
    (sym (get_or-take i w (i - 1) [] (omega arith)))

-- the definition's next step, at i
extended : (w : List (List ℕ)) (i : ℕ) → 4 ≤ i
    → extend w (i + 1 - 4) ≡ extend w (i - 4) ++ (next_word (extend w (i - 4)) i ∷ [])
extended w i h =
    let p : i + 1 - 4 ≡ suc (i - 4) = omega arith in
    let q : i - 4 + 4 ≡ i = omega arith in
    ap (extend w) p ∙ ap (λ (n : ℕ). extend w (i - 4) ++ (next_word (extend w (i - 4)) n ∷ [])) q

pub step :
    (w₀ w : List (List ℕ)) (i : ℕ) (t v : List ℕ) → Keys w₀ w i → i < 44
    → t ≡ key_part (get_or w (i - 1) []) i → v ≡ add_word (get_or w (i - 4) []) t → Keys w₀ (set w i v) (i + 1)
step w₀ w i t v k h d e =
    record {
      low = omega arith;
      high = omega arith;
      long = length-set w i v ∙ k.long;
      made =
          ap (λ (n : ℕ). take n (set w i v)) (add-one i)
          ∙ take-suc-set w i v (omega arith)
          ∙ ap₂ (λ (a : List (List ℕ)) (b : List ℕ). a ++ (b ∷ [])) k.made
          (e ∙ ap (add_word (get_or w (i - 4) [])) d ∙ next w i k.low ∙ ap (λ (l : List (List ℕ)). next_word l i) k.made)
          ∙ sym (extended (take 4 w₀) i k.low);
    }

pub whole : (w₀ w : List (List ℕ)) (i : ℕ) → Keys w₀ w i → 44 ≤ i → w ≡ extend (take 4 w₀) 40
whole w₀ w i k h =
    let p : i - 4 ≡ 40 = omega arith in
    sym (take_all i w (omega arith)) ∙ k.made ∙ ap (extend (take 4 w₀)) p
