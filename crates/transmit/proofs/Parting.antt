-- The loop that parts the packets that wait into those to be taken and the others. What holds after i turns, and a turn of each
-- kind.
use Prim.Native.Nat.{ℕ, ◌+◌, ◌*◌, ◌≤◌, ◌<◌}
use native.Mathlib.Nat.{zero-add, add_assoc}
use native.Mathlib.Omega.{arith}
use native.Mathlib.Numerals.{add-one}
use mathlib.Core.Bool.{true}
use mathlib.Core.Path.{◌≡◌, refl, sym, ap}
use mathlib.Core.List.{List, [], ◌∷◌, ◌++◌}
use lib.ListN.{length, take, get_or, length-append, length-take}
use lib.Seq.{take-nil, take-suc}
use borrow.Author.Tests.{eq-eqb, eqb-true}
use Rattle.lists.specs.Lists.{keep, taken, leaving}
use Rattle.lists.proofs.Taking.{taken_push, taken_pass, leaving_push, leaving_pass}
use Rattle.links.specs.declared.Waiting.{Waiting}
use Rattle.links.specs.Links.{waits_for}
use Rattle.transmit.specs.Steps.{lengths, Parts}

pub lengths_append : (l m : List Waiting) → lengths (l ++ m) ≡ lengths l + lengths m
unfolding lengths
lengths_append [] m = sym (zero-add _)
lengths_append (w ∷ l) m = rw (lengths_append l m) (sym (add_assoc w.len (lengths l) (lengths m)))

-- the first i are parted
pub record Parting (waiting : List Waiting) (handle most : ℕ) (first : List Waiting) (len : ℕ) (rest : List Waiting)
    (i : ℕ) : Type 0 where
  pub parts : Parts (take i waiting) handle most first len rest
  pub counted : length first + length rest ≡ i
  pub bounded : len ≤ 65535 * i

pub part_none : (waiting : List Waiting) (handle most : ℕ) → Parting waiting handle most [] 0 [] 0
unfolding taken leaving keep lengths
part_none waiting handle most =
    record { parts = record { gone = sym (take-nil most); measured = refl; stays = refl }; counted = refl; bounded = omega arith }

module _ {waiting : List Waiting} {handle most : ℕ} {first : List Waiting} {len : ℕ} {rest : List Waiting} {i : ℕ} (d : Waiting)
    (c : Parting waiting handle most first len rest i)
    (more : i < length waiting)
  where
    pub part_take : (get_or waiting i d).handle ≡ handle → length first < most → (get_or waiting i d).len < 65536
        → Parting waiting handle most (first ++ (get_or waiting i d ∷ [])) (len + (get_or waiting i d).len) rest (i + 1)
    unfolding taken lengths
    part_take own few fits =
        let w = get_or waiting i d in
        let p = waits_for handle in
        let l = take i waiting in
        let e : length first ≡ length (take most (keep p l)) = ap length c.parts.gone in
        let low : length (keep p l) < most = omega (arith, e, length-take most (keep p l)) in
        record {
          parts = record {
            gone = rw (add-one, take-suc waiting i d more, taken_push p w most l (eq-eqb _ _ own) low, c.parts.gone) refl;
            measured = rw lengths_append (omega (arith, c.parts.measured));
            stays = rw (add-one, take-suc waiting i d more, leaving_push p w most l (eq-eqb _ _ own) low) c.parts.stays;
          };
          counted = simp length-append (omega (arith, c.counted));
          bounded = omega (arith, c.bounded);
        }

    pub part_keep : ((get_or waiting i d).handle ≡ handle → most ≤ length first)
        → Parting waiting handle most first len (rest ++ (get_or waiting i d ∷ [])) (i + 1)
    unfolding taken
    part_keep full =
        let w = get_or waiting i d in
        let p = waits_for handle in
        let l = take i waiting in
        let e : length first ≡ length (take most (keep p l)) = ap length c.parts.gone in
        let enough : p w ≡ true → most ≤ length (keep p l) =
        λ own. let k = full (eqb-true _ _ own) in omega (arith, e, length-take most (keep p l)) in
        record {
          parts = record {
            gone = rw (add-one, take-suc waiting i d more, taken_pass p w most l enough) c.parts.gone;
            measured = c.parts.measured;
            stays = rw (add-one, take-suc waiting i d more, leaving_pass p w most l enough, c.parts.stays) refl;
          };
          counted = simp length-append (omega (arith, c.counted));
          bounded = omega (arith, c.bounded);
        }
