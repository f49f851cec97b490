-- What the searches of the links find, in terms of the definitions: a connection by its handle, and a free handle.
use Rattle.std.specs.Prelude.{Some, None, position}
use Prim.Native.Nat.{ℕ, zero, suc, ◌+◌, ◌≤◌, ◌<◌}
use native.Mathlib.Nat.{le_of_suc-le-suc}
use native.Mathlib.Omega.{arith}
use native.Mathlib.Numerals.{add-one}
use mathlib.Core.Bool.{true, false}
use mathlib.Core.Path.{◌≡◌, refl, sym, ap, ◌∙◌}
use mathlib.Core.List.{List, [], ◌∷◌}
use lib.ListN.{length, take, get_or}
use lib.Seq.{get_or-take, length-take-le}
use borrow.Table.Steps.{cases}
use Rattle.lists.specs.Lists.{first_at}
use Rattle.lists.proofs.Search.{position_some, position_none}
use Rattle.links.specs.declared.Connection.{Connection}
use Rattle.links.specs.Links.{has_handle, has, free_from}
use Rattle.links.specs.Look.{connection_of}

module _ (h : ℕ) where
  connection_first : (l : List Connection) (d : Connection) → first_at (has_handle h) l < length l
      → Some (get_or l (first_at (has_handle h) l) d) ≡ connection_of h l
  unfolding first_at connection_of
  connection_first [] d b = absurd (omega arith)
  connection_first (c ∷ l) d b =
      cases (has_handle h c) (λ e. rw e) (λ e. rw e (connection_first l d (le_of_suc-le-suc (rw e at b))))

  connection_none : (l : List Connection) → length l ≤ first_at (has_handle h) l → None ≡ connection_of h l
  unfolding first_at connection_of
  connection_none [] b = refl
  connection_none (c ∷ l) b =
      cases (has_handle h c) (λ e. absurd (let k = rw e at b in omega arith))
      (λ e. rw e (connection_none l (le_of_suc-le-suc (rw e at b))))

  -- the same with what the search gave, over the first n places of the array
  pub connection_found : (xs : List Connection) (n i : ℕ) (d : Connection) → position (has_handle h) (take n xs) ≡ Some i
      → n ≤ length xs → Some (get_or xs i d) ≡ connection_of h (take n xs)
  connection_found xs n i d e k =
      let at = position_some (has_handle h) (take n xs) i e in
      let len = length-take-le n xs k in
      ap Some (sym (get_or-take n xs i d (omega arith)))
      ∙ rw at.0 (connection_first (take n xs) d (omega arith))

  pub connection_nothing : (l : List Connection) → position (has_handle h) l ≡ None → None ≡ connection_of h l
  connection_nothing l e = connection_none l (position_none (has_handle h) l e)

-- ---- the search of a free handle: f is what it gives, with k more to try from h on
module _ (cs : List Connection) (f k h : ℕ) (inv : f ≡ free_from k h cs) where
  pub free_here : has h cs ≡ false → h ≡ f
  unfolding free_from
  free_here e = go k inv
    where
      go : (m : ℕ) → f ≡ free_from m h cs → h ≡ f
      go zero u = sym u
      go (suc m) u = sym (rw e at u)

  pub free_next : has h cs ≡ true → (m : ℕ) → k ≡ suc m → f ≡ free_from m (h + 1) cs
  unfolding free_from
  free_next e m s =
      let u : f ≡ free_from (suc m) h cs = rw s at inv in
      rw add-one (rw e at u)

  pub free_end : k ≡ 0 → h ≡ f
  unfolding free_from
  free_end e = let u : f ≡ free_from 0 h cs = rw e at inv in sym u
