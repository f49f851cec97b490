-- Text pushed behind a text, and the lengths of what is pushed. For the functions that print.
use mathlib.Core.Path.{◌≡◌, refl, sym, ap, ◌∙◌}
use mathlib.Core.List.{List, [], ◌∷◌, ◌++◌, map, flatten, append_assoc, append-nil}
use Prim.Native.Nat.{ℕ, zero, suc, ◌+◌, ◌*◌, ◌/◌, ◌%◌, ◌≤◌, ◌<◌}
use native.Mathlib.Numerals.{add-one}
use native.Mathlib.Omega.{arith}
use lib.ListN.{length, take, drop, get_or, length-append, length-drop}
use lib.Seq.{take_all, length-take-le}
use Rattle.std.specs.Prelude.{Option, Some, None, Result, Ok, Err, MatchOption}
use Rattle.std.specs.List.{IsSplitAt}
use Rattle.std.specs.Result.{result_ok}
use Rattle.std.proofs.lemmas.Option.{none-some, same_Some}
use Rattle.h4.specs.declared.UndefinedIndicator.{UndefinedIndicator}
use Rattle.h4.specs.Framing.{packet_length, whole, packets}
use Rattle.h4.proofs.Reading.{packet_size, whole_packet, whole_short, whole_lost}
use Rattle.h4.proofs.Splitting.{whole_le, packets_none, packets_some}
use Rattle.records.specs.Lines.{hex_digit, hex_of, hex_line}

-- two pushes are one
pub joined : (a x y : List ℕ) {b c : List ℕ} → b ≡ a ++ x → c ≡ b ++ y → c ≡ a ++ (x ++ y)
joined a x y p q = q ∙ ap (λ (l : List ℕ). l ++ y) p ∙ append_assoc a x y

-- ---- octets in hex

-- one octet
abbrev pub hex_pair : ℕ → List ℕ
hex_pair x = hex_digit (x / 16) ∷ hex_digit (x % 16) ∷ []

-- one octet more behind
hex_more : (l : List ℕ) (j : ℕ) → j < length l → hex_of (take (suc j) l) ≡ hex_of (take j l) ++ hex_pair (get_or l j 0)
unfolding hex_of
hex_more [] j h = absurd (omega arith)
hex_more (x ∷ l) zero h = refl
hex_more (x ∷ l) (suc j) h = ap (λ (t : List ℕ). hex_pair x ++ t) (hex_more l j (omega arith))

-- two digits for each octet
pub length_hex : (l : List ℕ) → length (hex_of l) ≡ 2 * length l
unfolding hex_of
length_hex [] = refl
length_hex (x ∷ l) = omega (arith, length_hex l)

module _ (a octets : List ℕ) {t : List ℕ} (j : ℕ) (h : j < length octets) (e : t ≡ a ++ hex_of (take j octets)) where
  -- the octet at index j has room
  pub hex_room : length a + 2 * length octets ≤ 512 → length t + 2 ≤ 512
  hex_room room =
      omega (
        arith,
        ap length e,
        length-append a (hex_of (take j octets)),
        length_hex (take j octets),
        length-take-le j octets
            (omega arith),
      )

  -- it is pushed
  pub hex_turn : {u : List ℕ} → u ≡ t ++ hex_pair (get_or octets j 0) → u ≡ a ++ hex_of (take (j + 1) octets)
  hex_turn p = joined a (hex_of (take j octets)) _ e p ∙ ap (λ (l : List ℕ). a ++ l) (rw add-one (sym (hex_more octets j h)))

-- nothing is pushed yet, and all is
pub hex_begin : (a octets : List ℕ) → a ≡ a ++ hex_of (take 0 octets)
unfolding hex_of
hex_begin a octets = sym (append-nil a)

pub hex_end : (a octets : List ℕ) {t : List ℕ} (j : ℕ) → length octets ≤ j → t ≡ a ++ hex_of (take j octets)
    → t ≡ a ++ hex_of octets
hex_end a octets j h e = rw (take_all j octets h) at e

-- ---- a packet at the front

-- it is not there, where its length is not told
pub whole_untold : (p : List ℕ) (r : Result (Option ℕ) UndefinedIndicator) → r ≡ packet_length p → result_ok r ≡ None
    → whole p ≡ 0
whole_untold p (Ok o) e n = absurd (none-some o (sym n))
whole_untold p (Err x) e n = whole_lost p x (sym e)

pub told : (r : Result (Option ℕ) UndefinedIndicator) (o : Option ℕ) → result_ok r ≡ Some o → r ≡ Ok o
told (Ok x) o e = ap Ok (same_Some _ _ e)
told (Err x) o e = absurd (none-some o e)

-- the octets are split behind it
pub split_whole : {T : Type 0} (p : List ℕ) (n : ℕ) (o : Option T) (f g : T → List ℕ) → packet_length p ≡ Ok (Some n)
    → MatchOption o (length p < n) (λ x. IsSplitAt p n (f x) (g x))
    → MatchOption o (whole p ≡ 0) (λ x. (f x ≡ take (whole p) p) × (g x ≡ drop (whole p) p) × (3 ≤ whole p))
split_whole p n None f g e h = whole_short p n e h
split_whole p n (Some x) f g e h =
    let w : whole p ≡ n = whole_packet p n e h.0 in
    (rw w h.1, rw w h.2, rw w (packet_size p n e))

-- ---- lines

-- the line of a packet takes three characters more
pub length_line : (letter : ℕ) (l : List ℕ) → length (hex_line letter l) ≡ 2 * length l + 3
length_line letter l = omega (arith, length-append (hex_of l) (10 ∷ []), length_hex l)

-- the newline has room
pub newline_fits : (a x l : List ℕ) {t u : List ℕ} → t ≡ a ++ x → u ≡ t ++ hex_of l → length a + length x + 2 * length l + 1 ≤ 512
    → length u + 1 ≤ 512
newline_fits a x l {t} e f h = omega (
  arith,
  ap length e,
  ap length f,
  length-append a x,
  length-append t (hex_of l),
  length_hex
      l,
)

-- the lines of some packets
abbrev pub lines_for : ℕ → List (List ℕ) → List ℕ
lines_for letter ps = flatten (map (hex_line letter) ps)

-- the text t has the lines of the packets before `rest`: what is to be printed of all octets, behind a, is to be printed of those
pub record Printing (letter : ℕ) (octets a t rest : List ℕ) : Type 0 where
  pub room : length t + 3 * length rest ≤ 512
  pub same : a ++ lines_for letter (packets octets) ≡ t ++ lines_for letter (packets rest)

module _ {letter : ℕ} {octets a t rest : List ℕ} (l : Printing letter octets a t rest) where
  -- no whole packet is left
  pub printing_ends : whole rest ≡ 0 → t ≡ a ++ lines_for letter (packets octets)
  unfolding flatten
  printing_ends e = sym (l.same ∙ rw (packets_none rest e) (append-nil t))

  -- the line of the packet at the front has room
  pub printing_fits : {p : List ℕ} → p ≡ take (whole rest) rest → 3 ≤ whole rest → length t + 2 * length p + 3 ≤ 512
  printing_fits first some = omega (
    arith,
    l.room,
    ap length first,
    length-take-le (whole rest) rest (whole_le rest),
    whole_le
        rest,
  )

  -- less is left behind it
  pub printing_less : {q : List ℕ} → q ≡ drop (whole rest) rest → 3 ≤ whole rest → length q < length rest
  printing_less behind some = omega (arith, ap length behind, length-drop (whole rest) rest, whole_le rest)

  -- the packet at the front is printed
  pub printing_turn : {p q u : List ℕ} → p ≡ take (whole rest) rest → q ≡ drop (whole rest) rest → 3 ≤ whole rest
      → u ≡ t ++ hex_line letter p → Printing letter octets a u q
  unfolding flatten
  printing_turn {p} {q} {u} first behind some e =
      let n = whole rest in
      let size : length p ≡ n = rw first (length-take-le n rest (whole_le rest)) in
      let split : packets rest ≡ p ∷ packets q = rw (first, behind) (packets_some rest (λ z. omega arith)) in
      record {
        room = omega (
          arith,
          l.room,
          ap length e,
          length-append t (hex_line letter p),
          length_line letter p,
          size,
          ap length behind,
          length-drop n rest,
          whole_le rest,
        );
        same =
            l.same
            ∙ ap (λ (ps : List (List ℕ)). t ++ lines_for letter ps) split
            ∙ sym (append_assoc t (hex_line letter p) (lines_for letter (packets q)))
            ∙ ap (λ (k : List ℕ). k ++ lines_for letter (packets q)) (sym e);
      }
