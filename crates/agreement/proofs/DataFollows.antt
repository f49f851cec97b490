-- A data packet follows its rule: one whose header parses is queued or dropped, another changes nothing that the rules read. For
-- the proof of demand 3.
use Rattle.std.specs.Prelude.{Result, Ok, Err}
use Prim.Native.Nat.{ℕ}
use mathlib.Core.Path.{◌≡◌, refl, ap}
use mathlib.Core.Bool.{cond}
use mathlib.Core.List.{List, []}
use borrow.Table.Steps.{cases}
use Rattle.hci.specs.Read.{parse_acl}
use Rattle.hci.specs.declared.read.Acl.{Acl}
use Rattle.links.specs.Links.{enqueued}
use Rattle.state.specs.State.{Model, count_packet}
use Rattle.commands.specs.Parts.{with_links, with_counters}
use Rattle.calls.specs.Packets.{Profile, reply, accepts, header_of, stored, discarded, data_packet}
use Rattle.credits.specs.Credits.{Buffers}
use Rattle.credits.specs.Steps as steps
use Rattle.credits.specs.Steps.{fits}
use Rattle.agreement.specs.Agreement.{header_fed, data_fed, limits_of, buffers_of}
use Rattle.agreement.proofs.Splitting.{fed_nothing}
use Rattle.agreement.proofs.ByDefinition.{seen}
use Rattle.agreement.proofs.Links.{has_handle_lem, in_use_lem, enqueued_follows}
use Rattle.agreement.proofs.Replying.{ReplyFollows}
use Rattle.hci.specs.declared.read.ReadError.{ReadError}
use Rattle.hci.specs.declared.read.ReadError.TheVariants.{ShortHeader, OtherKind, ShortBody}

-- the packet is queued by one test
accepts_fits : (g : Profile) (d : Acl) (m : Model)
    → fits (limits_of g) (header_fed d) (buffers_of m) ≡ accepts g.controller (Ok d) m
unfolding fits
accepts_fits g d m = rw (has_handle_lem d.handle m.links, in_use_lem m.links)

queued_follows : (h : ℕ) (octets : List ℕ) (m : Model)
    → seen (with_counters (count_packet m.counters) (with_links (enqueued h octets m.links) m))
    ≡ steps.at (steps.queued h (buffers_of m)) (seen m)
queued_follows h octets m = ap (λ (b : Buffers). steps.at b (seen m)) (enqueued_follows h octets m.links)

-- what is left of the state, by how the header was read
left : Profile → Result Acl ReadError → List ℕ → Model → Model
left g r octets m =
    cond (accepts g.controller r m)
    (with_counters (count_packet m.counters) (with_links (enqueued (header_of r).handle octets m.links) m))
    (discarded m)

read_follows : (g : Profile) (r : Result Acl ReadError) (octets : List ℕ) (m : Model)
    → ReplyFollows g (data_fed r) m (reply [] (left g r octets m))
unfolding left
read_follows g (Ok d) octets m =
    let e = accepts_fits g d m in
    steps.Step.receive (header_fed d) refl
    (rw e (cases (accepts g.controller (Ok d) m) (λ t. rw t (queued_follows d.handle octets m)) (λ t. rw t)))
    (rw fed_nothing)
read_follows g (Err ShortHeader) octets m = steps.Step.pass refl refl (rw fed_nothing)
read_follows g (Err OtherKind) octets m = steps.Step.pass refl refl (rw fed_nothing)
read_follows g (Err ShortBody) octets m = steps.Step.pass refl refl (rw fed_nothing)

pub data_follows : (g : Profile) (p : List ℕ) (m : Model)
    → ReplyFollows g (data_fed (parse_acl p)) m (reply [] (data_packet g.controller p m))
unfolding left data_packet
data_follows g p m = read_follows g (parse_acl p) (stored p) m
