-- Packets in a line: the value of a hex digit, the loop that reads pairs of them into a buffer, and what a field that is a
-- packet, or is none, says of the record. For the proofs of the reader.
use Prim.Native.Nat.{ℕ, zero, suc, ◌+◌, ◌-◌, ◌*◌, ◌/◌, ◌%◌, ◌≤◌, ◌<◌}
use native.Mathlib.Nat.{add-zero, le_of_suc-le-suc}
use native.Mathlib.Omega.{arith}
use native.Mathlib.Numerals.{add-one}
use mathlib.Core.Bool.{true, false, ◌&&◌, and-eq-true_iff, and-false}
use mathlib.Core.Path.{◌≡◌, refl, sym, ap, ◌∙◌}
use mathlib.Core.List.{List, [], ◌∷◌, ◌++◌, append-nil}
use lib.Dec.{leb, eqb}
use lib.ListN.{length, take, drop, get_or, set, replicate, length-set}
use lib.Seq.{drop-cons, drop-drop, drop-length, get_or-take, get_or-drop, take-suc-set, append_snoc}
use borrow.Author.Tests.{le-leb, lt-leb, leb-true, eq-eqb, ne_eqb}
use borrow.Table.Steps.{cases}
use Rattle.std.specs.Prelude.{Some, None}
use Rattle.std.specs.Simd.{first_chunks}
use Rattle.std.proofs.lemmas.Option.{none-some, cond_some}
use Rattle.lists.specs.Lists.{any, all, same_list}
use Rattle.calls.specs.Calls.{on_packet}
use Rattle.records.specs.Lines.{calls, no_record, fields, is_hex_digit, hex_value, octets_of, is_packet, is_number, read_fields}
use Rattle.records.specs.Reading.{is_tab, digit_of}
use Rattle.records.proofs.Fields.{tabless, fields_alone, fields_several, same}

-- ---- the value of a digit

module _ (x : ℕ) where
  pub digit_decimal : 48 ≤ x → x ≤ 57 → Some (x - 48) ≡ digit_of x
  unfolding digit_of
  digit_decimal h k = rw (le-leb 48 x h, le-leb x 57 k)

  pub digit_letter : 97 ≤ x → x ≤ 102 → Some (x - 97 + 10) ≡ digit_of x
  unfolding digit_of
  digit_letter h k =
      let e : x - 97 + 10 ≡ x - 87 = omega arith in
      rw (le-leb 48 x (omega arith), lt-leb x 57 (omega arith), le-leb 97 x h, le-leb x 102 k) (ap Some e)

  pub digit_below : x < 48 → None ≡ digit_of x
  unfolding digit_of
  digit_below h = rw (lt-leb 48 x h, lt-leb 97 x (omega arith))

  pub digit_between : 57 < x → x < 97 → None ≡ digit_of x
  unfolding digit_of
  digit_between h k = rw (le-leb 48 x (omega arith), lt-leb x 57 h, lt-leb 97 x k)

  pub digit_above : 102 < x → None ≡ digit_of x
  unfolding digit_of
  digit_above h = rw (le-leb 48 x (omega arith), lt-leb x 57 (omega arith), le-leb 97 x (omega arith), lt-leb x 102 h)

  -- the value of a digit is below 16
  value_small : is_hex_digit x ≡ true → hex_value x < 16
  value_small h =
      cases (leb x 57) (λ e. rw e (let k = leb-true x 57 e in omega arith))
      (λ e.
      let letter : leb 97 x && leb x 102 ≡ true = rw (e, and-false (leb 48 x)) at h in
      let k = leb-true x 102 ((and-eq-true_iff (leb 97 x) (leb x 102)).0 letter).1 in
      rw e (omega arith))

  -- a digit, its value, and no digit
  pub digit_yes : {n : ℕ} → Some n ≡ digit_of x → (is_hex_digit x ≡ true) × ((n ≡ hex_value x) × (n < 16))
  unfolding digit_of
  digit_yes {n} h =
      let found = cond_some (is_hex_digit x) (hex_value x) n (sym h) in
      (found.0, (sym found.1, omega (arith, value_small found.0, found.1)))

  pub digit_no : None ≡ digit_of x → is_hex_digit x ≡ false
  unfolding digit_of
  digit_no h =
      cases (is_hex_digit x) (λ e. absurd (none-some (hex_value x) (rw e at h))) (λ e. e)

-- ---- pairs of digits

-- two elements at the front of what is left
two_ahead : (f : List ℕ) (i : ℕ) → i + 1 < length f → drop i f ≡ get_or f i 0 ∷ get_or f (i + 1) 0 ∷ drop (i + 2) f
two_ahead f i h =
    let two : i + 2 ≡ suc (suc i) = omega arith in
    drop-cons f i 0 (omega arith)
    ∙ ap (λ (l : List ℕ). get_or f i 0 ∷ l) (rw (two, add-one i) (drop-cons f (suc i) 0 (omega arith)))

-- the pair that the library cuts out at j, and its digits
pair_at : (m j : ℕ) (f : List ℕ) → j < m → get_or (first_chunks 2 m f) j [] ≡ take 2 (drop (2 * j) f)
pair_at zero j f h = absurd (omega arith)
pair_at (suc m) zero f h = refl
pair_at (suc m) (suc j) f h =
    let next : 2 * suc j ≡ 2 + 2 * j = omega arith in
    pair_at m j (drop 2 f) (le_of_suc-le-suc h) ∙ rw (drop-drop, next)

module _ (f : List ℕ) (j : ℕ) {pairs : List (List ℕ)} {m : ℕ} (e : pairs ≡ first_chunks 2 m f) (h : j < m) where
  pub pair_high : get_or (get_or pairs j []) 0 0 ≡ get_or f (2 * j) 0
  pair_high = rw (e, pair_at m j f h, get_or-take 2 (drop (2 * j) f) 0 0 (omega arith), get_or-drop, add-zero)

  pub pair_low : get_or (get_or pairs j []) 1 0 ≡ get_or f (2 * j + 1) 0
  pair_low = rw (e, pair_at m j f h, get_or-take 2 (drop (2 * j) f) 1 0 (omega arith), get_or-drop)

-- the first j pairs of a field are digits, and their octets stand at the front of the buffer
pub record Pairs (f before packet : List ℕ) (j : ℕ) : Type 0 where
  pub long : length packet ≡ length before
  pub octets : octets_of f ≡ take j packet ++ octets_of (drop (2 * j) f)
  pub digits : all is_hex_digit f ≡ all is_hex_digit (drop (2 * j) f)

module _ {f before packet : List ℕ} {j : ℕ} (c : Pairs f before packet j) (h : 2 * j + 1 < length f) where
  pub pairs_next : {high low : ℕ} → Some high ≡ digit_of (get_or f (2 * j) 0) → Some low ≡ digit_of (get_or f (2 * j + 1) 0)
      → j < length before → Pairs f before (set packet j (16 * high + low)) (j + 1)
  unfolding octets_of all
  pairs_next {high} {low} a b room =
      let x = get_or f (2 * j) 0 in
      let y = get_or f (2 * j + 1) 0 in
      let ex = digit_yes x a in
      let ey = digit_yes y b in
      let v : 16 * high + low ≡ 16 * hex_value x + hex_value y = rw (ex.1.0, ey.1.0) in
      let next : 2 * (j + 1) ≡ 2 * j + 2 = omega arith in
      let more : drop (2 * j) f ≡ x ∷ y ∷ drop (2 * j + 2) f = two_ahead f (2 * j) h in
      let within : j < length packet = omega arith in
      record {
        long = length-set packet j (16 * high + low) ∙ c.long;
        octets =
            c.octets
            ∙ rw (more, next, add-one j, take-suc-set packet j (16 * high + low) within, v)
            (sym (append_snoc (take j packet) (16 * hex_value x + hex_value y) (octets_of (drop (2 * j + 2) f))));
        digits = c.digits ∙ rw (more, next, ex.0, ey.0);
      }

  -- a pair that is none
  pub pairs_high : None ≡ digit_of (get_or f (2 * j) 0) → all is_hex_digit f ≡ false
  unfolding all
  pairs_high a = c.digits ∙ rw (two_ahead f (2 * j) h, digit_no (get_or f (2 * j) 0) a)

  pub pairs_low : None ≡ digit_of (get_or f (2 * j + 1) 0) → all is_hex_digit f ≡ false
  unfolding all
  pairs_low b =
      c.digits
      ∙ rw (two_ahead f (2 * j) h, digit_no (get_or f (2 * j + 1) 0) b) (and-false (is_hex_digit (get_or f (2 * j) 0)))

-- ---- the record of letter `P`

-- two fields or more
packet_several : (a b : List ℕ) (fs : List (List ℕ)) → read_fields ((80 ∷ []) ∷ a ∷ b ∷ fs) ≡ no_record
unfolding same_list
packet_several a b [] = same (is_number a && is_number b) no_record
packet_several a b (c ∷ []) = refl
packet_several a b (c ∷ d ∷ []) = refl
packet_several a b (c ∷ d ∷ e ∷ fs) = refl

-- a field that is no packet, and one that is
packet_not : (f : List ℕ) → is_packet f ≡ false → no_record ≡ read_fields ((80 ∷ []) ∷ fields f)
unfolding same_list
packet_not f n =
    cases (any is_tab f)
    (λ e. let s = fields_several f e in rw s.is (sym (packet_several s.first s.second s.more)))
    (λ e. rw (fields_alone f e, n))

packet_yes : (f octets : List ℕ) → is_packet f ≡ true → octets_of f ≡ octets
    → calls (on_packet (replicate 6 0) 0 octets) ≡ read_fields ((80 ∷ []) ∷ fields f)
unfolding same_list is_packet
packet_yes f octets y e =
    let d = ((and-eq-true_iff (all is_hex_digit f) _).0 y).0 in
    rw (fields_alone f (tabless is_hex_digit f refl d), y, e)

-- how the loop finds out
module _ (f : List ℕ) where
  pub packet_odd : (length f % 2 ≡ 0 → ⊥) → no_record ≡ read_fields ((80 ∷ []) ∷ fields f)
  unfolding is_packet
  packet_odd h =
      packet_not f (rw (ne_eqb (length f % 2) 0 h, and-false (all is_hex_digit f)))

  pub packet_long : 1024 < length f / 2 → no_record ≡ read_fields ((80 ∷ []) ∷ fields f)
  unfolding is_packet
  packet_long h =
      packet_not f (rw (lt-leb (length f) 2048 (omega arith), and-false (eqb (length f % 2) 0), and-false (all is_hex_digit f)))

  pub packet_digit : all is_hex_digit f ≡ false → no_record ≡ read_fields ((80 ∷ []) ∷ fields f)
  unfolding is_packet
  packet_digit h = packet_not f (rw h)

  pub packet_read : {before packet : List ℕ} {j : ℕ} → Pairs f before packet j → length f % 2 ≡ 0
      → length f / 2 ≤ 1024
      → j ≡ length f / 2 → calls (on_packet (replicate 6 0) 0 (take (length f / 2) packet)) ≡ read_fields ((80 ∷ []) ∷ fields f)
  unfolding is_packet octets_of all
  packet_read {before} {packet} {j} c e h s =
      let whole : 2 * (length f / 2) ≡ length f = omega arith in
      let d : drop (2 * j) f ≡ [] = rw (s, whole, drop-length) in
      packet_yes f (take (length f / 2) packet)
      (rw (c.digits, d, eq-eqb (length f % 2) 0 e, le-leb (length f) 2048 (omega arith)))
      (c.octets ∙ rw (d, s) (append-nil (take (length f / 2) packet)))
