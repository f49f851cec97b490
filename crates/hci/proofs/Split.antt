-- What the writers write is framed as it was written: `h4_packet_len` gives the count that the writer answered, and packets
-- written end to end split into the same packets. For hosts and links that read a stream of packets.
use Rattle.std.specs.Prelude.{Some, Result, Ok}
use mathlib.Core.Path.{◌≡◌, sym, ap, ◌∙◌}
use Prim.Native.Nat.{ℕ, ◌+◌, ◌≤◌}
use mathlib.Core.List.{List, [], ◌∷◌, ◌++◌, map, flatten}
use lib.ListN.{length, take, drop}
use lib.Seq.{take-append_seam}
use native.Mathlib.Omega.{arith}
use borrow.Author.Tests.{le-leb, eq-eqb, ne_eqb}
use Rattle.octets.specs.Octets.{word}
use Rattle.h4.specs.Framing.{packet_length, by_indicator, packets, IsPacket, ArePackets}
use Rattle.h4.proofs.Reading.{packet_on}
use Rattle.h4.proofs.Splitting.{packets_flattened}
use Rattle.hci.specs.Packet.{event, acl}
use Rattle.hci.specs.Write.{Wrote, number, count, refusal}
use Rattle.hci.specs.declared.write.WriteError.{WriteError}

-- an event is one packet, whatever its code and parameters
pub event_packet : (code : ℕ) (params : List ℕ) → IsPacket (event code params)
unfolding packet_length by_indicator
event_packet code params =
    let n : ℕ = length (event code params) in
    let e : 3 + length params ≡ n = omega arith in
    rw (ne_eqb n 0 (λ z. omega arith), le-leb 3 n (omega arith)) (ap (λ (m : ℕ). Ok (Some m)) e)

-- and so is ACL data that its length field can hold
pub acl_packet : (handle boundary : ℕ) (load : List ℕ) → length load ≤ 65535 → IsPacket (acl handle boundary load)
unfolding packet_length by_indicator
acl_packet handle boundary load fits =
    let n : ℕ = length (acl handle boundary load) in
    let w : word (acl handle boundary load) 3 ≡ length load = omega arith in
    let e : 5 + length load ≡ n = omega arith in
    rw (ne_eqb n 0 (λ z. omega arith), le-leb 5 n (omega arith), w) (ap (λ (m : ℕ). Ok (Some m)) e)

-- what a writer of a packet left in the buffer: the packet at the front, of as many octets as it answered
module _ {n most : ℕ} {packet out : List ℕ} {r : Result ℕ WriteError} {after : List ℕ} (w : Wrote n most packet out r after)
    (accepted : number r ≡ 0) where
  none_refused : refusal n most packet out ≡ 0
  none_refused = sym w.numbered ∙ accepted

  written_count : count r ≡ length packet
  written_count = w.counted ∙ rw (eq-eqb _ 0 none_refused)

  written_after : after ≡ packet ++ drop (length packet) out
  written_after = w.leaves ∙ rw (eq-eqb _ 0 none_refused)

  pub written_packet : take (count r) after ≡ packet
  written_packet = rw (written_count, written_after) (take-append_seam packet (drop (length packet) out))

  -- `h4_packet_len` gives the count that the writer answered
  pub written_length : IsPacket packet → packet_length after ≡ Ok (Some (count r))
  written_length p = rw (written_count, written_after) (packet_on packet (drop (length packet) out) (length packet) p)

-- events written end to end split into the same events
abbrev pub Event : Type 0
Event = ℕ × List ℕ

abbrev pub octets_of : Event → List ℕ
octets_of e = event e.0 e.1

events_packets : (es : List Event) → ArePackets (map octets_of es)
events_packets [] = tt
events_packets (e ∷ es) = (event_packet e.0 e.1, events_packets es)

pub events_split : (es : List Event) → packets (flatten (map octets_of es)) ≡ map octets_of es
events_split es = packets_flattened (map octets_of es) (events_packets es)
