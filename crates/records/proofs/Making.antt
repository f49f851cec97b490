-- A line and the call that it asks for: what was printed for the call was printed for the line. For `make` and `step`.
use mathlib.Core.Path.{◌≡◌, refl, sym, ap, subst, ◌∙◌}
use mathlib.Core.List.{List}
use Prim.Native.Nat.{ℕ, ◌≤◌, ◌<◌}
use lib.ListN.{length}
use borrow.Author.Tests.{le-leb, lt-leb}
use Rattle.std.specs.Prelude.{Some, None}
use Rattle.calls.specs.Calls.{Call, advertising_timeout, Held}
use Rattle.records.specs.Lines.{Line, calls, no_record, read_line, record_of}
use Rattle.records.specs.Bench.{Prints, is_record, Steps}
use Rattle.records.specs.declared.print.Text.{Text}
use Rattle.records.specs.Text.{text_of}

-- a line is a record or none
pub record_differs : {c : Call} → no_record ≡ calls c → ⊥
record_differs e = subst IsNone e tt where
  IsNone : Line → Type 0
  IsNone (calls c) = ⊥
  IsNone no_record = Unit {0}

-- the call of a line that has one
abbrev call_in : Line → Call
call_in (calls c) = c
call_in no_record = advertising_timeout

-- ---- a line

-- of a line that is not too long, what was read is the record
pub record_read : (line : List ℕ) {l : Line} → length line ≤ 2050 → l ≡ read_line line → l ≡ record_of line
unfolding record_of
record_read line h e = rw (le-leb (length line) 2050 h) e

pub too_long : (line : List ℕ) → 2050 < length line → no_record ≡ record_of line
unfolding record_of
too_long line h = rw (lt-leb (length line) 2050 h)

-- a line that is no record changes nothing
pub steps_none : {line : List ℕ} {s : Held} → no_record ≡ record_of line → Steps line s s None
steps_none none = record {
  asked = ap is_record none;
  printed = λ c e. absurd (record_differs (none ∙ e));
  ended = λ e. refl;
}

-- any other is a record
pub steps_record : {line : List ℕ} {s t : Held} {text : Text} (c : Call) → calls c ≡ record_of line → Prints c s t (text_of text)
    → Steps line s t (Some text)
steps_record {line} {s} {t} {text} c is prints = record {
  asked = ap is_record is;
  printed = λ d same. subst (λ (x : Call). Prints x s t (text_of text)) (ap call_in (is ∙ same)) prints;
  ended = λ none. absurd (record_differs (sym (is ∙ none)));
}
