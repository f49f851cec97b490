-- The code as a host sees it, octets alone: feeding the pieces of a run of octets to a new stream, and handing out after
-- each feed, gives the packets of the run. For hosts that read a stream.
use Rattle.std.specs.Prelude.{Result, Err}
use Rattle.std.proofs.lemmas.Bool.{cases_Bool}
use native.Mathlib.Omega.{arith}
use mathlib.Core.Path.{◌≡◌, ap, ◌∙◌}
use mathlib.Core.List.{List, [], ◌∷◌, ◌++◌, flatten}
use mathlib.Core.Bool.{false}
use Prim.Native.Nat.{ℕ}
use lib.ListN.{take, drop}
use Rattle.h4.specs.declared.H4Stream.{H4Stream}
use Rattle.h4.specs.declared.StreamError.{StreamError}
use Rattle.h4.specs.declared.StreamError.TheVariants.{NoRoom}
use Rattle.h4.specs.Framing.{packets, rest}
use Rattle.h4.specs.Stream.{held_octets, Feeds, lost, handed_out, waiting, handed_out_all, waiting_all, FeedsAll}
use Rattle.h4.proofs.Splitting.{packets_again, packets_none, none_there}
use Rattle.h4.proofs.Pieces.{pieces}
use Rattle.h4.proofs.Feeding.{fed_taken, taken_held, taken_ready}

-- one feed that finds room: what waits in the buffer after it, and the packets that it hands out, are those of the octets
-- alone
module _ {s t : H4Stream} {buffer bytes after : List ℕ} {answer : Result ℕ StreamError} (f : Feeds s buffer bytes answer t after)
    (n : answer ≡ Err NoRoom → ⊥) where
  pub fed_waiting : held_octets t after ≡ waiting (held_octets s buffer) bytes
  unfolding waiting
  fed_waiting = taken_held (fed_taken f n)

  pub fed_handed_out : packets (take t.ready after) ≡ handed_out (held_octets s buffer) bytes
  unfolding handed_out
  fed_handed_out =
      let p : List ℕ = held_octets s buffer ++ bytes in
      grind (
        arith,
        cases_Bool (lost p),
        ap packets (taken_ready (fed_taken f n)),
        packets_none [] none_there,
        packets_again p,
      )

-- all the feeds of a caller: what they hand out, and what then waits
pub feeds_handed_out : (s : H4Stream) (buffer : List ℕ) (parts out : List (List ℕ)) (t : H4Stream) (after : List ℕ)
    → FeedsAll s buffer parts out t after
    → (out ≡ handed_out_all (held_octets s buffer) parts) × (held_octets t after ≡ waiting_all (held_octets s buffer) parts)
unfolding handed_out_all waiting_all
feeds_handed_out s buffer [] out t after f = (f.0, rw (f.1, f.2))
feeds_handed_out s buffer (bytes ∷ more) out t after (answer, r, mid, later, one, room, all, f) =
    let h = feeds_handed_out r mid more later t after f in
    (all ∙ rw (h.0, fed_waiting one room, fed_handed_out one room), h.1 ∙ rw (fed_waiting one room))

-- a new stream, whatever the buffer holds: the packets of the whole, and its rest waits
pub feeds_pieces : (s : H4Stream) (buffer : List ℕ) (parts out : List (List ℕ)) (t : H4Stream) (after : List ℕ)
    → FeedsAll s buffer parts out t after
    → s.held ≡ 0 → lost (flatten parts) ≡ false → (out ≡ packets (flatten parts)) × (held_octets t after ≡ rest (flatten parts))
feeds_pieces s buffer parts out t after f h e =
    let none : held_octets s buffer ≡ [] = ap (λ (n : ℕ). take n (drop s.ready buffer)) h in
    let all = feeds_handed_out s buffer parts out t after f in
    let whole = pieces parts e in
    (rw none at all.0 ∙ whole.0, rw none at all.1 ∙ whole.1)
