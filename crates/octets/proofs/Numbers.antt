-- Little-endian numbers of any width: what is written is read back, and a number is read where it stands. For every
-- crate that reads a field of a packet.
use mathlib.Core.Path.{◌≡◌, refl, sym, ap, ap₂, ◌∙◌}
use mathlib.Core.List.{List, [], ◌∷◌, ◌++◌}
use Prim.Native.Nat.{ℕ, zero, suc, ◌+◌, ◌*◌, ◌/◌, ◌%◌, ◌^◌, ◌≤◌, ◌<◌}
use native.Mathlib.Nat.{pow-succ', zero-add, add-zero, suc-add}
use native.Mathlib.Omega.{arith}
use lib.ListN.{length, take, drop, length-drop, take-append-drop}
use lib.Seq.{drop-cons, length-take-le}
use Rattle.octets.specs.Octets.{octet, le, number_at}

-- one octet in front
number_behind : (w x : ℕ) (p : List ℕ) (i : ℕ) → number_at w (x ∷ p) (suc i) ≡ number_at w p i
number_behind zero x p i = refl
number_behind (suc zero) x p i = refl
number_behind (suc (suc w)) x p i = ap (λ (n : ℕ). octet p i + 256 * n) (number_behind (suc w) x p (suc i))

-- octets in front
pub number_after : (w : ℕ) (p q : List ℕ) (i : ℕ) → number_at w (p ++ q) (length p + i) ≡ number_at w q i
number_after w [] q i = ap (number_at w q) (zero-add i)
number_after w (x ∷ p) q i =
    ap (number_at w (x ∷ p ++ q)) (suc-add (length p) i)
    ∙ number_behind w x (p ++ q) (length p + i)
    ∙ number_after w p q i

-- octets behind
octet_front : (p q : List ℕ) (i : ℕ) → i < length p → octet (p ++ q) i ≡ octet p i
octet_front [] q i h = absurd (omega arith)
octet_front (x ∷ p) q zero h = refl
octet_front (x ∷ p) q (suc i) h = octet_front p q i (omega arith)

pub number_front : (w : ℕ) (p q : List ℕ) (i : ℕ) → i + w ≤ length p → number_at w (p ++ q) i ≡ number_at w p i
number_front zero p q i h = refl
number_front (suc zero) p q i h = octet_front p q i (omega arith)
number_front (suc (suc w)) p q i h =
    ap₂ (λ (a b : ℕ). a + 256 * b) (octet_front p q i (omega arith)) (number_front (suc w) p q (suc i) (omega arith))

-- octets that are taken out are read as the number that stands there
pub number_taken : (w : ℕ) (p : List ℕ) (i : ℕ) (o : List ℕ) → o ≡ take w (drop i p) → i + w ≤ length p
    → number_at w o 0 ≡ number_at w p i
number_taken w p i o e h =
    let front : List ℕ = take i p in
    let rest : List ℕ = drop i p in
    let long : length front ≡ i = length-take-le i p (omega arith) in
    let there : number_at w p i ≡ number_at w rest 0 =
    rw (long, add-zero, take-append-drop) at (number_after w front rest 0) in
    let whole : length (take w rest) ≡ w = length-take-le w rest (simp length-drop (omega arith)) in
    let here : number_at w rest 0 ≡ number_at w (take w rest) 0 =
    rw take-append-drop at (number_front w (take w rest) (drop w rest) 0 (omega (arith, whole))) in
    rw e (sym (there ∙ here))

pub word_taken : (p : List ℕ) (i : ℕ) (o : List ℕ) → o ≡ take 2 (drop i p) → i + 2 ≤ length p → number_at 2 o 0 ≡ number_at 2 p i
word_taken = number_taken 2

-- what is written is read back
pub number_le : (w n : ℕ) (q : List ℕ) → n < 256 ^ w → number_at w (le w n ++ q) 0 ≡ n
number_le zero n q h = omega arith
number_le (suc zero) n q h = omega arith
number_le (suc (suc w)) n q h =
    let e : number_at (suc w) (n % 256 ∷ (le (suc w) (n / 256) ++ q)) 1 ≡ n / 256 =
    number_behind (suc w) (n % 256) (le (suc w) (n / 256) ++ q) 0
    ∙ number_le (suc w) (n / 256) q (omega (arith, pow-succ' 256 (suc w), h)) in
    omega (arith, e)

-- w octets, each below 256, are the octets of the number that they are
pub le_number : (w : ℕ) (p : List ℕ) (i : ℕ) → i + w ≤ length p → ((k : ℕ) → octet p k < 256)
    → le w (number_at w p i) ≡ take w (drop i p)
le_number zero p i h f = refl
le_number (suc zero) p i h f =
    let e : octet p i % 256 ≡ octet p i = omega (arith, f i) in
    rw (drop-cons p i 0 (omega arith), e)
le_number (suc (suc w)) p i h f =
    let n : ℕ = number_at (suc w) p (suc i) in
    let e : (octet p i + 256 * n) % 256 ≡ octet p i = omega (arith, f i) in
    let d : (octet p i + 256 * n) / 256 ≡ n = omega (arith, f i) in
    rw (drop-cons p i 0 (omega arith))
    (ap₂ (λ (a : ℕ) (b : List ℕ). a ∷ b) e (ap (le (suc w)) d ∙ le_number (suc w) p (suc i) (omega arith) f))
