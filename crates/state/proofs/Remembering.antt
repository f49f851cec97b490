-- One answer more in the flat array of answers: those that are kept are copied to its front, and the new one is stored
-- behind them. For the proof of `remember`.
use Rattle.std.proofs.Common.{◌≡◌, ℕ, ◌+◌, ◌-◌, ◌*◌, ◌≤◌, min, ltb, List, [], ◌∷◌, ◌++◌, length, take, drop, sym, ap, ◌∙◌}
use Rattle.std.proofs.Common.{arith, length-append, length-drop, length-take-le, drop_at, ltb-false, ltb-true}
use borrow.Table.Steps.{cases}
use Rattle.octets.specs.Octets.{Put}
use Rattle.octets.proofs.Writing.{put_then, put_front, put_long}
use Rattle.lists.specs.Lists.{chunks}
use Rattle.lists.proofs.Chunks.{length_chunks, chunks_append, chunks_take, chunks_add}
use Rattle.state.specs.State.{remember}

-- all the answers but the oldest of 32 are kept
last_kept : (answer : List ℕ) (l : List (List ℕ)) (n : ℕ) → length l ≡ n → n ≤ 32
    → drop (n - min n 31) l ++ (answer ∷ []) ≡ remember answer l
unfolding remember
last_kept answer l n e h =
    cases (ltb (length l) 32)
    (λ t.
    let short = ltb-true (length l) 32 t in
    let none : n - min n 31 ≡ 0 = omega arith in
    rw (t, none))
    (λ t.
    let full = ltb-false (length l) 32 t in
    let one : n - min n 31 ≡ 1 = omega arith in
    rw (t, one))

-- the parts from the one at index d on
chunks_drop : (d m : ℕ) (l : List ℕ) → drop d (chunks 3 (d + m) l) ≡ chunks 3 m (drop (d * 3) l)
chunks_drop d m l = rw (chunks_add 3 d m l) (drop_at (chunks 3 d l) (chunks 3 m (drop (d * 3) l)) d (length_chunks 3 d l))

module _ (l : List ℕ) (a b c n kept : ℕ) {end r : ℕ} {one after : List ℕ}
    (long : length l ≡ 96) (most : n ≤ 32) (k : kept ≡ min n 31) where
  pub one_more : Put l 0 (take (3 * n - 3 * (n - kept)) (drop (3 * (n - kept)) l)) end one
      → Put one end (a ∷ b ∷ c ∷ []) r after
      → chunks 3 (kept + 1) after ≡ remember (a ∷ b ∷ c ∷ []) (chunks 3 n l)
  unfolding chunks
  one_more p q =
      let answer : List ℕ = a ∷ b ∷ c ∷ [] in
      let d : ℕ = n - kept in
      let old : List ℕ = drop (d * 3) l in
      let room : kept * 3 ≤ length old = simp length-drop (omega arith) in
      let from : 3 * (n - kept) ≡ d * 3 = omega arith in
      let count : 3 * n - 3 * (n - kept) ≡ kept * 3 = omega arith in
      let all : d + kept ≡ n = omega arith in
      let both : Put l 0 (take (kept * 3) old ++ answer) r after = put_then (rw (count, from) at p) q in
      let size : length (take (kept * 3) old) ≡ kept * 3 = length-take-le (kept * 3) old room in
      let reach : r ≡ (kept + 1) * 3 = both.next ∙ simp (length-append, size) (omega arith) in
      let within : (kept + 1) * 3 ≤ length after = rw (put_long both) (omega arith) in
      let front : take ((kept + 1) * 3) after ≡ take (kept * 3) old ++ answer = rw reach at (put_front both) in
      sym (chunks_take 3 (kept + 1) after within)
      ∙ ap (chunks 3 (kept + 1)) front
      ∙ chunks_append 3 kept 1 (take (kept * 3) old) answer size
      ∙ ap (λ (x : List (List ℕ)). x ++ (answer ∷ [])) (chunks_take 3 kept old room ∙ sym (rw all at (chunks_drop d kept l)))
      ∙ rw k (last_kept answer (chunks 3 n l) n (length_chunks 3 n l) most)
