-- The course of a command, from the tests that the code makes. For the functions of `course`.
use Rattle.std.specs.Prelude.{Some, None, Ok, Err, ◌==◌, position}
use mathlib.Core.Path.{◌≡◌, refl, sym, ap, ◌∙◌}
use Prim.Native.Nat.{ℕ, ◌<◌}
use mathlib.Core.Bool.{Bool, true, false, cond}
use lib.ListN.{get_or}
use Rattle.state.specs.State.{Model}
use Rattle.lists.proofs.Search.{position_some, position_none}
use Rattle.commands.specs.Table.{Row, fits, no_row, find, sized, rows, opcodes}
use Rattle.commands.specs.Command.{family_of, other_family, modelled, listed_row, by_row}
use Rattle.commands.proofs.Tables.{place_in, find_at, size_past}
use Rattle.dispatch.specs.declared.Part.{Part}
use Rattle.dispatch.specs.Parts.{rows_of}
use Rattle.command.specs.declared.course.Reason.TheVariants.{OtherFamily, Unmodeled, BadParameters}
use Rattle.command.specs.Calling.{differs, Courses}

-- the size of a row stands at the opcode's place
pub sized_at : (op place n : ℕ) → place ≡ place_in op rows → sized op rows n ≡ fits (get_or rows place no_row).size n
sized_at op place n e = rw e (ap (λ (r : Row). fits r.size n) (find_at op rows))

-- the definition's test of the family, from the code's
pub family_told : {family now : ℕ} {r b : Bool} (op : ℕ) → family ≡ family_of op → r ≡ differs family now → r ≡ b
    → (m : Model) → m.settings.advertising_family ≡ now → other_family op m ≡ b
unfolding other_family
family_told {now = now} op e d t m same = rw same (ap (λ (x : ℕ). differs x now) (sym e) ∙ sym d ∙ t)

module _ (op now n : ℕ) where
  -- a listed row, by the test of the family
  pub other_family_lem : (modeled : Bool) → ((m : Model) → m.settings.advertising_family ≡ now → other_family op m ≡ true)
      → Courses (cond modeled 0 1) op now n (Err OtherFamily)
  unfolding by_row listed_row
  other_family_lem true told g m long same = rw (told m same)
  other_family_lem false told g m long same = rw (told m same)

  module _ (told : (m : Model) → m.settings.advertising_family ≡ now → other_family op m ≡ false) where
    pub unmodeled : Courses 1 op now n (Err Unmodeled)
    unfolding by_row listed_row
    unmodeled g m long same = rw (told m same)

    pub bad_parameters : sized op rows n ≡ false → Courses 0 op now n (Err BadParameters)
    unfolding by_row listed_row modelled
    bad_parameters missized g m long same = rw (told m same, long, missized)

    pub carried_out : (part : Part) → find op rows ≡ find op (rows_of part) → sized op rows n ≡ true
        → Courses 0 op now n (Ok part)
    unfolding by_row listed_row modelled
    carried_out part row rightly = (row, rightly, λ g m long same. rw (told m same, long, rightly))

-- ---- the opcode's place, as `place_of` gives it

pub placed : (op place : ℕ) → Some place ≡ position (λ x. x == op) opcodes → (place ≡ place_in op rows) × (place < 71)
placed op place e = position_some _ opcodes place (sym e)

-- no place: the table has no such row, so no size fits
pub unplaced : (op n : ℕ) → None ≡ position (λ x. x == op) opcodes → sized op rows n ≡ false
unplaced op n e = sized_at op _ n refl ∙ size_past _ n (position_none _ opcodes (sym e))
