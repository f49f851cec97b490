-- The loop over all lines: how the octets from an index on split into a line and the lines behind it, what holds when the loop
-- has come to an index, its first and next turn, and its ways out. For `run_lines`.
use mathlib.Core.Path.{◌≡◌, refl, sym, ap, subst, ◌∙◌}
use mathlib.Core.List.{List, [], ◌∷◌, ◌++◌, append_assoc, append-nil}
use mathlib.Core.Bool.{cond, true≢false}
use Prim.Native.Nat.{ℕ, suc, ◌+◌, ◌-◌, ◌≤◌, ◌<◌}
use native.Mathlib.Numerals.{add-one}
use native.Mathlib.Omega.{arith}
use borrow.Author.Rules.{part_to_end}
use lib.Dec.{leb}
use lib.ListN.{length, take, drop, length-drop, drop_of_length-le}
use lib.Seq.{take_all}
use borrow.Author.Tests.{le-leb, lt-leb}
use borrow.Table.Steps.{cases}
use Rattle.std.specs.Prelude.{Some, None, position}
use Rattle.octets.specs.Octets.{Put}
use Rattle.octets.proofs.Writing.{put_then, put_none, put_long}
use Rattle.lists.specs.Lists.{first_at}
use Rattle.state.specs.State.{Model, default_model}
use Rattle.state.specs.declared.Controller.{Controller}
use Rattle.calls.specs.Calls.{Call, Held, held, model_of}
use Rattle.calls.specs.Gives.{Starts}
use Rattle.records.specs.Lines.{Line, calls, no_record, record_of}
use Rattle.lists.proofs.Search.{position_some, position_none}
use Rattle.records.specs.declared.print.Text.{Text}
use Rattle.records.specs.Text.{text_of}
use Rattle.records.specs.Bench.{bench, printed, is_newline, lines_of, at_line, answers, header, run_octets, is_record, Steps}

-- ---- the lines of some octets

-- some octets are a line, up to the first newline or to the end, and the lines behind it
pub lines_first : (l : List ℕ) → 0 < length l
    → lines_of l ≡ take (first_at is_newline l) l ∷ lines_of (drop (suc (first_at is_newline l)) l)
unfolding lines_of first_at
lines_first [] h = absurd (omega arith)
lines_first (x ∷ []) h = cases (is_newline x) (λ e. rw e) (λ e. rw e)
lines_first (x ∷ y ∷ l) h =
    cases (is_newline x) (λ e. rw e) (λ e. rw (e, lines_first (y ∷ l) (omega arith)))

-- the code finds the end of a line, or none
module _ (l : List ℕ) where
  module _ (n : ℕ) (found : position is_newline l ≡ Some n) where
    pub line_found : take n l ≡ take (first_at is_newline l) l
    line_found = ap (λ (k : ℕ). take k l) (position_some is_newline l n found).0

    pub behind_found : take (length l - (n + 1)) (drop (n + 1) l) ≡ drop (suc (first_at is_newline l)) l
    behind_found = part_to_end l (n + 1) ∙ rw (add-one n, (position_some is_newline l n found).0)

  module _ (found : position is_newline l ≡ None) where
    pub line_last : l ≡ take (first_at is_newline l) l
    line_last = sym (take_all (first_at is_newline l) l (position_none is_newline l found))

    pub behind_last : [] ≡ drop (suc (first_at is_newline l)) l
    behind_last =
        let past : length l ≤ suc (first_at is_newline l) = omega (arith, position_none is_newline l found) in
        sym (drop_of_length-le l past)

-- less is left behind a line
pub behind_less : (rest : List ℕ) (n : ℕ) {more : List ℕ} → 0 < length rest → more ≡ drop (suc n) rest → length more < length rest
behind_less rest n some e = omega (arith, ap length e, length-drop (suc n) rest)

-- ---- what is printed for them

-- the line at the front is no record, or there is no room for its answer
answers_none : (room : ℕ) (m : Model) (l : List ℕ) (ls : List (List ℕ)) → record_of l ≡ no_record → answers room m (l ∷ ls) ≡ []
unfolding answers
answers_none room m l ls e = rw e

at_full : (r : Line) (room : ℕ) (m : Model) (more : Call → List ℕ) → room < 512
    → at_line r [] (λ c. cond (leb 512 room) (more c) []) ≡ []
at_full (calls c) room m more h = rw (lt-leb 512 room h)
at_full no_record room m more h = refl

answers_full : (room : ℕ) (m : Model) (ls : List (List ℕ)) → room < 512 → answers room m ls ≡ []
unfolding answers
answers_full room m [] h = refl
answers_full room m (l ∷ ls) h =
    at_full (record_of l) room m (λ c. (printed c m).octets
    ++ answers (room - length (printed c m).octets) (printed c m).state ls) h

answers_some : (room : ℕ) (m : Model) (l : List ℕ) (ls : List (List ℕ)) (c : Call) → record_of l ≡ calls c → 512 ≤ room
    → answers room m (l ∷ ls) ≡ (printed c m).octets ++ answers (room - length (printed c m).octets) (printed c m).state ls
unfolding answers
answers_some room m l ls c e h = rw (e, le-leb 512 room h)

answers_all : (room : ℕ) (m : Model) (l : List ℕ) → length l ≡ 0 → answers room m (lines_of l) ≡ []
unfolding lines_of answers
answers_all room m [] h = refl
answers_all room m (x ∷ l) h = absurd (omega arith)

-- ---- the loop

-- a text for the lines before `rest` stands in the buffer, and p is the index after it; the lines in `rest` are still to answer
pub record Answering (all out₀ : List ℕ) (at : ℕ) (rest out : List ℕ) (t : Held) (p : ℕ) : Type 0 where
  pub long : length out ≡ length out₀
  pub text : List ℕ
  pub written : Put out₀ at text p out
  pub same : all ≡ text ++ answers (length out₀ - p) (model_of bench t) (lines_of rest)

pub answering_begin : {out₀ : List ℕ} {at : ℕ} {input : List ℕ} {t : Held} → at ≤ length out₀
    → Answering (answers (length out₀ - at) (model_of bench t) (lines_of input)) out₀ at input out₀ t at
answering_begin room = record { long = refl; text = []; written = put_none room; same = refl }

-- whether a line is a record
record_or_none : {A : Type 0} (l : Line) → ((c : Call) → l ≡ calls c → A) → (l ≡ no_record → A) → A
record_or_none (calls c) some none = some c refl
record_or_none no_record some none = none refl

module _ {all out₀ : List ℕ} {at : ℕ} {rest out : List ℕ} {t : Held} {p : ℕ} (l : Answering all out₀ at rest out t p) where
  -- nothing more is printed
  ends : answers (length out₀ - p) (model_of bench t) (lines_of rest) ≡ [] → Put out₀ at all p out
  ends e =
      let same : all ≡ l.text = l.same ∙ ap (λ (k : List ℕ). l.text ++ k) e ∙ append-nil l.text in
      subst (λ (k : List ℕ). Put out₀ at k p out) (sym same) l.written

  pub answering_full : length out - p < 512 → Put out₀ at all p out
  answering_full h = ends (answers_full (length out₀ - p) (model_of bench t) (lines_of rest) (omega (arith, l.long)))

  pub answering_all : length rest ≡ 0 → Put out₀ at all p out
  answering_all h = ends (answers_all (length out₀ - p) (model_of bench t) rest h)

  -- the line at the front, and what is behind its newline
  module _ {line more : List ℕ} (some : 0 < length rest) (first : line ≡ take (first_at is_newline rest) rest)
      (behind : more ≡ drop (suc (first_at is_newline rest)) rest) where
    splits : lines_of rest ≡ line ∷ lines_of more
    splits = rw (first, behind) (lines_first rest some)

    -- it is no record
    pub answering_none : {u : Held} → Steps line t u None → Put out₀ at all p out
    answering_none s =
        record_or_none (record_of line) (λ c e. absurd (true≢false (sym (s.asked ∙ ap is_record e))))
        (λ e. ends (ap (answers (length out₀ - p) (model_of bench t)) splits ∙ answers_none _ _ _ _ e))

    -- it is one, and its answer is printed
    pub answering_turn : {u : Held} {text : Text} {r : ℕ} {after : List ℕ} → Steps line t u (Some text)
        → 512 ≤ length out - p → Put out p (text_of text) r after → Answering all out₀ at more after u r
    answering_turn {u} {text} {r} {after} s room w =
        record_or_none (record_of line) prints (λ e. absurd (true≢false (s.asked ∙ ap is_record e))) where
          prints : (c : Call) → record_of line ≡ calls c → Answering all out₀ at more after u r
          prints c e =
              let m = model_of bench t in
              let q = s.printed c e in
              let octets = (printed c m).octets in
              let put : Put out p octets r after = rw q.written at w in
              let left : length out₀ - p - length octets ≡ length out₀ - r = omega (arith, put.next) in
              record {
                long = put_long put ∙ l.long;
                text = l.text ++ octets;
                written = put_then l.written put;
                same =
                    l.same
                    ∙ ap (λ (k : List ℕ). l.text ++ k)
                    (ap (answers (length out₀ - p) m) splits ∙ answers_some _ m _ _ c e (omega (arith, l.long, room))
                    ∙ ap (λ (k : ℕ). octets ++ answers k (printed c m).state (lines_of more)) left
                    ∙ ap (λ (k : Model). octets ++ answers (length out₀ - r) k (lines_of more)) (sym q.viewed))
                    ∙ sym (append_assoc l.text octets _);
              }

-- ---- all lines

-- a buffer that is too short for the header
pub runs_not : (out input : List ℕ) → length out < 4 → Put out 0 (run_octets (length out) input) 0 out
runs_not out input h = rw (lt-leb 4 (length out) h) (put_none (omega arith))

-- the header, and the answers behind it
pub runs : (out input pool : List ℕ) {s : Controller} {one : List ℕ} {p r : ℕ} {after : List ℕ} → 4 ≤ length out → Starts s
    → Put out 0 header p one
    → Put one p (answers (length one - p) (model_of bench (held s pool)) (lines_of input)) r after
    → Put out 0 (run_octets (length out) input) r after
runs out input pool {s} {one} {p} {r} {after} h starts first more =
    let left : length one - p ≡ length out - 4 = omega (arith, put_long first, first.next) in
    let text : answers (length one - p) (model_of bench (held s pool)) (lines_of input)
    ≡ answers (length out - 4) default_model (lines_of input) =
    ap (λ (k : ℕ). answers k (model_of bench (held s pool)) (lines_of input)) left
    ∙ ap (λ (m : Model). answers (length out - 4) m (lines_of input)) (starts.viewed 32 pool) in
    rw (le-leb 4 (length out) h) (put_then first (subst (λ (k : List ℕ). Put one p k r after) text more))
