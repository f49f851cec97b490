-- Waiting packets that fit the pool: what `fits_in` says of one, and what it says of all of them.
use Prim.Native.Nat.{ℕ, ◌+◌, ◌*◌, ◌≤◌, ◌<◌}
use native.Mathlib.Nat.{suc-mul, mul-le-mul_right}
use native.Mathlib.Omega.{arith}
use mathlib.Core.Bool.{Bool, true, ◌&&◌, and-eq-true_iff}
use mathlib.Core.Path.{◌≡◌, refl}
use mathlib.Core.List.{List, [], ◌∷◌, ◌++◌}
use lib.Dec.{ltb, leb}
use lib.ListN.{length}
use borrow.Author.Tests.{ltb-true, leb-true, lt-ltb, le-leb}
use Rattle.lists.specs.Lists.{all}
use Rattle.lists.proofs.Tests.{all_append}
use Rattle.links.specs.declared.Waiting.{Waiting}
use Rattle.links.specs.Holding.{fits_in}
use Rattle.transmit.specs.Steps.{place_below, lies_in}

-- a test that follows from another passes wherever that does
all_implies : {A : Type 0} (p q : A → Bool) (l : List A) → ((a : A) → p a ≡ true → q a ≡ true) → all p l ≡ true → all q l ≡ true
unfolding all
all_implies p q [] k h = refl
all_implies p q (a ∷ l) k h =
    let b = (and-eq-true_iff (p a) (all p l)).0 h in
    rw (k a b.0) (all_implies p q l k b.1)

-- one element more that passes
pub all_push : {A : Type 0} (p : A → Bool) (l : List A) (a : A) → all p l ≡ true → p a ≡ true → all p (l ++ (a ∷ [])) ≡ true
unfolding all
all_push p l a h e = rw (all_append p l (a ∷ []), h, e)

-- n octets at a place are within the first `places` places
pub place_room : (place places size n : ℕ) → place < places → n ≤ size → place * size + n ≤ places * size
place_room place places size n h k =
    let e : place * size + size ≤ places * size = rw suc-mul at (mul-le-mul_right size h) in
    omega arith

pub record Fitting (places size : ℕ) (w : Waiting) : Type 0 where
  pub place : w.place < places
  pub least : 5 ≤ w.len
  pub most : w.len ≤ size

pub fitting : (places size : ℕ) (w : Waiting) → fits_in places size w ≡ true → Fitting places size w
fitting places size w e =
    let a = (and-eq-true_iff (ltb w.place places) (leb 5 w.len && leb w.len size)).0 e in
    let b = (and-eq-true_iff (leb 5 w.len) (leb w.len size)).0 a.1 in
    record { place = ltb-true _ _ a.0; least = leb-true _ _ b.0; most = leb-true _ _ b.1 }

pub fitting_test : (places size : ℕ) (w : Waiting) → Fitting places size w → fits_in places size w ≡ true
fitting_test places size w f = simp (lt-ltb _ _ f.place, le-leb _ _ f.least, le-leb _ _ f.most)

-- their places are among the 32, and they lie in the pool
pub all_below : (places size : ℕ) (l : List Waiting) → places ≤ 32 → all (fits_in places size) l ≡ true
    → all (place_below 32) l ≡ true
all_below places size l h =
    all_implies (fits_in places size) (place_below 32) l
    (λ w e. lt-ltb w.place 32 (let f = fitting places size w e in omega arith))

pub all_lie : (places size : ℕ) (pool : List ℕ) (l : List Waiting) → places * size ≤ length pool
    → all (fits_in places size) l ≡ true
    → all (lies_in size pool) l ≡ true
all_lie places size pool l h =
    all_implies (fits_in places size) (lies_in size pool) l
    (λ w e.
    let f = fitting places size w e in
    let b = place_room w.place places size w.len f.place f.most in
    le-leb (w.place * size + w.len) (length pool) (omega arith))
