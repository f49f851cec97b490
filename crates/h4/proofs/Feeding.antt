-- What feeding a stream does to its buffer: the law by which `feed` meets its contract, and what a caller has from that
-- contract. For `feed` and its callers.
use Rattle.std.specs.Prelude.{Result, Ok, Err, is_err}
use Rattle.std.proofs.lemmas.Bool.{cases_Bool}
use Rattle.std.proofs.lemmas.Bool.Decides.{nat_tests}
use mathlib.Core.Path.{◌≡◌, refl, sym, ap, subst, ◌∙◌}
use mathlib.Core.List.{List, [], ◌∷◌, ◌++◌, flatten}
use mathlib.Core.Bool.{cond, true}
use Prim.Native.Nat.{ℕ, ◌+◌, ◌≤◌}
use native.Mathlib.Omega.{arith}
use lib.ListN.{length, take, drop, length-append, length-take, length-drop}
use lib.Seq.{take-append-le, drop-append-le, take_at, length-take-le}
use Rattle.octets.specs.Octets.{Put}
use Rattle.octets.proofs.Writing.{put_then, put_front, splice_front}
use Rattle.h4.specs.declared.H4Stream.{H4Stream}
use Rattle.h4.specs.declared.StreamError.{StreamError}
use Rattle.h4.specs.declared.StreamError.TheVariants.{Undefined, NoRoom}
use Rattle.h4.specs.declared.UndefinedIndicator.{UndefinedIndicator}
use Rattle.h4.specs.Framing.{ArePackets, packets, rest, whole_octets, framed, packet_at}
use Rattle.h4.specs.Stream.{held_octets, fits, stream_of, told, Feeds, lost}
use Rattle.h4.proofs.Splitting.{packets_octets, octets_le, packets_are}
use Rattle.h4.proofs.Losing.{framed_answers, framed_count}
use Rattle.h4.proofs.Handing.{packet_after, packet_past, one_of}

-- How `feed` meets its contract

-- the octets that wait and the new ones behind them are written to the front of the buffer and framed there
pub fed : (s : H4Stream) (buffer bytes : List ℕ) {at end : ℕ} {moved after : List ℕ} (r : Result ℕ UndefinedIndicator)
    → Put buffer 0 (held_octets s buffer) at moved → Put moved at bytes end after → s.ready + s.held ≤ length buffer
    → r ≡ framed (take end after) → Feeds s buffer bytes (told r) (stream_of r end) after
fed s buffer bytes {at} {end} {moved} {after} r one two room e =
    let p : List ℕ = held_octets s buffer ++ bytes in
    let both : Put buffer 0 p end after = put_then one two in
    let long : end ≡ length p = omega (arith, both.next) in
    let held : length (held_octets s buffer) ≡ s.held =
    length-take-le s.held (drop s.ready buffer) (omega (arith, length-drop s.ready buffer)) in
    let f : fits s buffer bytes ≡ true = grind (arith, nat_tests, both.room, held, length-append (held_octets s buffer) bytes) in
    let g : r ≡ framed p = e ∙ ap framed (put_front both) in
    record { answers = rw (f, g); stream = rw (f, long, g); leaves = rw f both.leaves }

-- and the packets end within the octets that were framed
pub framed_le : (p : List ℕ) (n : ℕ) → framed p ≡ Ok n → n ≤ length p
framed_le p n e = grind (arith, framed_answers p, octets_le p)

-- What a caller has from the contract

-- after framing p at the front of a buffer: what waits, and the octets before it
stream_held : (p behind : List ℕ) (r : Result ℕ UndefinedIndicator) → framed p ≡ r
    → held_octets (stream_of r (length p)) (p ++ behind) ≡ cond (is_err r) p (rest p)
stream_held p behind (Ok n) e =
    let count = framed_count p n e in
    rw (count, drop-append-le (whole_octets p) p behind (octets_le p)) (take_at (rest p) behind _ (length-drop _ p))
stream_held p behind (Err i) e = take_at p behind (length p) refl

stream_ready : (p behind : List ℕ) (r : Result ℕ UndefinedIndicator) → framed p ≡ r
    → take (stream_of r (length p)).ready (p ++ behind) ≡ cond (is_err r) [] (flatten (packets p))
stream_ready p behind (Ok n) e =
    let count = framed_count p n e in
    rw count (take-append-le (whole_octets p) p behind (octets_le p) ∙ sym (packets_octets p))
stream_ready p behind (Err i) e = refl

-- the stream had no room: nothing changes
pub fed_no_room : {s t : H4Stream} {buffer bytes after : List ℕ} {answer : Result ℕ StreamError}
    → Feeds s buffer bytes answer t after → answer ≡ Err NoRoom → (t ≡ s) × (after ≡ buffer)
fed_no_room f e = grind (arith, f.answers, f.stream, f.leaves)

-- else the octets that waited and the new ones are framed at the front of the buffer
pub record Taken (s : H4Stream) (buffer bytes : List ℕ) (answer : Result ℕ StreamError) (t : H4Stream) (after : List ℕ)
    : Type 0 where
  pub answers : answer ≡ told (framed (held_octets s buffer ++ bytes))
  pub stream : t ≡ stream_of (framed (held_octets s buffer ++ bytes)) (length (held_octets s buffer ++ bytes))
  pub leaves : after ≡ (held_octets s buffer ++ bytes) ++ drop (length (held_octets s buffer ++ bytes)) buffer

pub fed_taken : {s t : H4Stream} {buffer bytes after : List ℕ} {answer : Result ℕ StreamError}
    → Feeds s buffer bytes answer t after → (answer ≡ Err NoRoom → ⊥) → Taken s buffer bytes answer t after
fed_taken {s} {t} {buffer} {bytes} f n =
    let room : fits s buffer bytes ≡ true = grind (arith, cases_Bool (fits s buffer bytes), f.answers) in
    record {
      answers = f.answers ∙ rw room;
      stream = f.stream ∙ rw room;
      leaves = f.leaves ∙ rw room (splice_front buffer (held_octets s buffer ++ bytes));
    }

-- what waits after it, and the octets that it hands out
module _ {s t : H4Stream} {buffer bytes after : List ℕ} {answer : Result ℕ StreamError}
    (k : Taken s buffer bytes answer t after) where
  pub taken_held : held_octets t after
      ≡ cond (lost (held_octets s buffer ++ bytes)) (held_octets s buffer ++ bytes) (rest (held_octets s buffer ++ bytes))
  taken_held = rw (k.stream, k.leaves) (stream_held (held_octets s buffer ++ bytes) _ _ refl)

  pub taken_ready : take t.ready after
      ≡ cond (lost (held_octets s buffer ++ bytes)) [] (flatten (packets (held_octets s buffer ++ bytes)))
  taken_ready = rw (k.stream, k.leaves) (stream_ready (held_octets s buffer ++ bytes) _ _ refl)

-- packets: the first n octets of the buffer are the packets, and what waits is the rest
module _ {s t : H4Stream} {buffer bytes after : List ℕ} {answer : Result ℕ StreamError} (f : Feeds s buffer bytes answer t after)
    (n : ℕ) (e : answer ≡ Ok n) where
  packets_taken : Taken s buffer bytes answer t after
  packets_taken = fed_taken f (λ k. cc)

  framed_packets : framed (held_octets s buffer ++ bytes) ≡ Ok n
  framed_packets = grind (arith, packets_taken.answers, framed_answers (held_octets s buffer ++ bytes))

  pub fed_ready : t.ready ≡ n
  fed_ready = ap (λ (u : H4Stream). u.ready) (rw framed_packets at packets_taken.stream)

  pub fed_packets : take n after ≡ flatten (packets (held_octets s buffer ++ bytes))
  fed_packets = rw framed_packets at (rw fed_ready at (taken_ready packets_taken))

  pub fed_rest : held_octets t after ≡ rest (held_octets s buffer ++ bytes)
  fed_rest = rw framed_packets at (taken_held packets_taken)

  -- `packet_at` hands out each of them at the index where those before it end
  pub fed_hands_out : (ps : List (List ℕ)) (q : List ℕ) (qs : List (List ℕ))
      → packets (held_octets s buffer ++ bytes) ≡ ps ++ q ∷ qs → packet_at (take t.ready after) (length (flatten ps)) ≡ q
  fed_hands_out ps q qs h =
      let are = subst ArePackets h (packets_are (held_octets s buffer ++ bytes)) in
      rw (fed_ready, fed_packets, h) (packet_after ps q qs (one_of ps q qs are))

  -- and nothing past the last
  pub fed_hands_out_no_more : (i : ℕ) → n ≤ i → packet_at (take t.ready after) i ≡ []
  fed_hands_out_no_more i h = packet_past (take t.ready after) i (omega (arith, length-take t.ready after, fed_ready))

-- framing lost: all the octets stay, and there is nothing to hand out
module _ {s t : H4Stream} {buffer bytes after : List ℕ} {answer : Result ℕ StreamError} (f : Feeds s buffer bytes answer t after)
    (i : ℕ) (e : answer ≡ Err (Undefined i)) where
  lost_taken : Taken s buffer bytes answer t after
  lost_taken = fed_taken f (λ k. cc)

  framed_lost : framed (held_octets s buffer ++ bytes) ≡ Err (record { 0 = i })
  framed_lost = grind (arith, lost_taken.answers, framed_answers (held_octets s buffer ++ bytes))

  pub fed_lost_ready : t.ready ≡ 0
  fed_lost_ready = ap (λ (u : H4Stream). u.ready) (rw framed_lost at lost_taken.stream)

  pub fed_lost : held_octets t after ≡ held_octets s buffer ++ bytes
  fed_lost = rw framed_lost at (taken_held lost_taken)
