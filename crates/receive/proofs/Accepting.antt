-- What a packet gives by its first octet, from what `command` and `data` give: a command, data, or another packet, which does
-- nothing. For `on_packet`.
use mathlib.Core.Path.{◌≡◌, refl, ap}
use Prim.Native.Nat.{ℕ}
use mathlib.Core.List.{List}
use native.Mathlib.Omega.{arith}
use borrow.Author.Tests.{ne_eqb}
use Rattle.octets.specs.Octets.{octet}
use Rattle.octets.proofs.Writing.{put_none}
use Rattle.state.specs.State.{view}
use Rattle.state.specs.Holding.{StateHolds, place_size}
use Rattle.state.specs.declared.Controller.{Controller}
use Rattle.calls.specs.Packets.{Profile, queues}
use Rattle.calls.specs.Packets as packets
use Rattle.calls.specs.Calls.{on_packet, Held, held}
use Rattle.calls.specs.Gives.{Accepted, events}
use Rattle.receive.specs.Receiving.{Delivers, Carries}

module _ {g : Profile} {address : List ℕ} {random : ℕ} {p : List ℕ} {out : List ℕ} {n : ℕ} where
  pub accepted_command : {s t : Controller} {pool after : List ℕ} → octet p 0 ≡ 1 → Carries g address random p s t out n after
      → Accepted g (on_packet address random p) (held s pool) (held t pool) (events 0 n out after)
  unfolding packets.on_packet queues
  accepted_command {s} {t} {pool} first does = record {
    viewed = rw first (does.viewed (place_size g.controller) pool);
    written = rw first (does.written (place_size g.controller) pool);
    counted = refl;
    together = does.together;
    pool = rw first refl;
  }

  pub accepted_data : {s t : Held} → octet p 0 ≡ 2 → n ≡ 0 → Delivers g.controller p s t
      → Accepted g (on_packet address random p) s t (events 0 n out out)
  unfolding packets.on_packet queues
  accepted_data first none does = record {
    viewed = rw first does.viewed;
    written = rw (first, none) (put_none (omega arith));
    counted = refl;
    together = does.together;
    pool = rw first does.pool;
  }

  pub accepted_nothing : {s t : Controller} {pool : List ℕ} → (octet p 0 ≡ 1 → ⊥) → (octet p 0 ≡ 2 → ⊥) → (t ≡ s) × (n ≡ 0)
      → StateHolds s g.controller
      → Accepted g (on_packet address random p) (held s pool) (held t pool) (events 0 n out out)
  unfolding packets.on_packet queues
  accepted_nothing {pool = pool} no_command no-data same together =
      let one = ne_eqb (octet p 0) 1 no_command in
      let two = ne_eqb (octet p 0) 2 no-data in
      record {
        viewed = rw (one, two) (ap (λ (x : Controller). view x (place_size g.controller) pool) same.0);
        written = rw (one, two, same.1) (put_none (omega arith));
        counted = refl;
        together = rw same.0 together;
        pool = rw two refl;
      }
