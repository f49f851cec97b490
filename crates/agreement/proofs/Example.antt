-- The run of specs/Example.antt is one that the contracts allow, from a state as a controller starts with it, and that meets all
-- premises of demand 3; and what demand 3 then says of it. For readers who ask whether demand 3 says anything.
use mathlib.Core.Path.{◌≡◌, refl, sym, ap, ◌∙◌}
use mathlib.Core.Bool.{Bool, true}
use mathlib.Core.List.{List, flatten}
use Prim.Native.Nat.{ℕ, ◌+◌, ◌<◌}
use native.Mathlib.Omega.{arith}
use lib.Dec.{leb, lit<, lit≤}
use lib.ListN.{length}
use borrow.Author.Tests.{leb-true}
use Rattle.octets.specs.Octets.{splice}
use Rattle.lists.specs.Lists.{first_at, any, all, keep, taken, leaving, update_first, distinct_by, chunks}
use Rattle.hci.specs.Read.{parse_command, parse_acl}
use Rattle.hci.specs.Packet.{pairs}
use Rattle.profile.specs.Profile.{within_limits, rows_fit}
use Rattle.links.specs.Links.{ended, opened_last, enqueued, taken_from, after_taking, settled, changed}
use Rattle.links.specs.Look.{connection_of}
use Rattle.links.specs.Holding.{links_hold}
use Rattle.links.proofs.Keeping.{empty_holds}
use Rattle.state.specs.State.{Model, remember}
use Rattle.state.specs.Holding.{accept_holds, resolving_holds, advertising_holds, settings_hold, own_parts_hold, state_holds}
use Rattle.state.proofs.Holding.{state_told}
use Rattle.state.proofs.Keeping.{accept_empty, resolving_empty}
use Rattle.state.proofs.Fresh.{settings_fresh}
use Rattle.commands.specs.Command.{family_of, other_family, modelled, listed_row, by_row, command}
use Rattle.commands.specs.Table.{find}
use Rattle.commands.specs.Following.{le_meta_event, connection_complete, connection_failed}
use Rattle.commands.specs.Known as known
use Rattle.notices.specs.Notices as notices
use Rattle.calls.specs.Packets.{Profile, data_packet, queues}
use Rattle.calls.specs.Packets as packets
use Rattle.calls.specs.Calls.{Call, Held, held, model_of, first_no, questions, reply_to, taken_by}
use Rattle.calls.specs.Gives.{Answer, Refused, Starts, PoolLeft}
use Rattle.credits.specs.Credits.{blank, unacknowledged, noted, heard, heard_all, book, Chained, last_of, book_after, Premises}
use Rattle.credits.specs.Credits.{NothingDropped}
use Rattle.credits.proofs.Example as fed
use Rattle.h4.specs.Framing.{by_indicator, packet_length, whole, packets_up_to, packets}
use Rattle.agreement.specs.Agreement.{reports, Typed, TypedProfile, Called, limits_of, reading}
use Rattle.agreement.proofs.Agreement.{demand_3}
use Rattle.bench_profile.specs.Bench.{bench_controller}
use Rattle.agreement.specs.Example.{bench_profile, start, pool, run}

-- ---- one call

-- what the contract of an accepted call fixes, all of which computes: the number, the octets in the buffer and whether they fit
-- it, how many packets, the state with what waits in the pool, and that it holds together
record Fixed : Type 0 where
  number : ℕ
  fits : Bool
  written : ℕ
  after : List ℕ
  taken : ℕ
  model : Model
  together : Bool

-- as the definitions have it, at s
abbrev defined : Profile → Call → Held → Answer → Fixed
defined g c s a = record {
  number = first_no (questions g c s a.before);
  fits = leb (0 + length (reply_to g c (model_of g s)).octets) (length a.before);
  written = 0 + length (reply_to g c (model_of g s)).octets;
  after = splice a.before 0 (reply_to g c (model_of g s)).octets;
  taken = taken_by c (model_of g s);
  model = (reply_to g c (model_of g s)).state;
  together = true;
}

-- as the call left it, in t
abbrev left_by : Profile → Held → Answer → Fixed
left_by g t a = record {
  number = 0;
  fits = true;
  written = a.written;
  after = a.after;
  taken = a.taken;
  model = model_of g t;
  together = state_holds t.state g.controller;
}

-- an accepted call; which place of the pool a packet got does not compute
made : {g : Profile} {c : Call} {s t : Held} {a : Answer} → Typed c → a.number ≡ 0 → left_by g t a ≡ defined g c s a
    → PoolLeft g c s t → Called g c s t a
made {g} {c} {s} {t} {a} typed accepted same left = record {
  typed = typed;
  gives = record {
    number = accepted ∙ ap (λ (x : Fixed). x.number) same;
    refused = λ e. absurd (omega arith);
    accepted = λ e. record {
      viewed = ap (λ (x : Fixed). x.model) same;
      written = record {
        room = leb-true (0 + length (reply_to g c (model_of g s)).octets) (length a.before)
            (sym (ap (λ (x : Fixed). x.fits) same));
        next = ap (λ (x : Fixed). x.written) same;
        leaves = ap (λ (x : Fixed). x.after) same;
      };
      counted = ap (λ (x : Fixed). x.taken) same;
      together = state_told t.state g.controller (ap (λ (x : Fixed). x.together) same);
      pool = left;
    };
  };
}

-- a refused one
refused : {g : Profile} {c : Call} {s : Held} {a : Answer} → Typed c → a.number ≡ first_no (questions g c s a.before)
    → 0 < a.number → Refused s s a → Called g c s s a
refused typed number above nothing = record {
  typed = typed;
  gives = record { number = number; refused = λ e. nothing; accepted = λ e. absurd (omega arith) };
}

-- the facts about the calls of a list, one by one
infixr 20 ◌and◌
◌and◌ : {P Q : Type 0} → P → Q → P × Q
◌and◌ p q = (p, q)

-- ---- the contracts allow the run
pub run_chained : Chained (Called bench_profile) (held start pool) run
unfolding first_at any all keep taken leaving update_first distinct_by chunks splice flatten parse_command parse_acl pairs
    within_limits rows_fit links_hold accept_holds resolving_holds advertising_holds settings_hold own_parts_hold state_holds
    first_no
    ended opened_last enqueued taken_from after_taking settled changed connection_of remember le_meta_event connection_complete
    connection_failed notices.open_connection notices.accept_connection notices.peer_update notices.request_ltk
    notices.advertising_timeout notices.completed notices.drop_in_flight notices.remote_disconnect notices.complete_disconnect
    packets.on_packet data_packet queues family_of other_family modelled listed_row by_row command find
    known.reason_allowed known.disconnect known.set_event_mask known.reset
run_chained =
    made (refl, refl) refl refl refl
    and made tt refl refl refl
    and made (lit< tt) refl refl refl
    and made (lit< tt, refl) refl refl refl
    and made (refl, refl) refl refl (record { place = 0; within = lit< tt; free = refl; stored = refl })
    and made (refl, refl) refl refl (record { place = 1; within = lit< tt; free = refl; stored = refl })
    and made (lit< tt) refl refl refl
    and made (lit< tt) refl refl refl
    and made (lit< tt, lit< tt) refl refl refl
    and refused (refl, refl) refl (lit< tt) (record { same = refl; buffer = refl; nothing = (refl, refl) })
    and made (lit< tt) refl refl refl
    and made (lit< tt, refl) refl refl refl
    and made (lit< tt) refl refl refl
    and made (lit< tt) refl refl refl
    and made (refl, refl) refl refl (record { place = 0; within = lit< tt; free = refl; stored = refl })
    and made (refl, refl) refl refl refl
    and made (lit< tt) refl refl refl
    and made (refl, refl) refl refl refl
    and made (lit< tt) refl refl refl
    and made (refl, refl) refl refl (record { place = 0; within = lit< tt; free = refl; stored = refl })
    and tt

-- ---- it meets the premises: what the book is fed of it is, call for call, the run of the example of `credits`
pub run_premises : Premises (reading bench_profile) (limits_of bench_profile) run
unfolding first_at parse_command parse_acl by_indicator packet_length whole packets_up_to packets reports flatten
run_premises = record {
  host_keeps_rule = (fed.run_premises).host_keeps_rule;
  unmasked = (fed.run_premises).unmasked;
  opens_unused = (fed.run_premises).opens_unused;
  link_keeps_part = (fed.run_premises).link_keeps_part;
}

-- ---- what else demand 3 asks
pub bench_typed : TypedProfile bench_controller
bench_typed = record { commands = refl; features = refl; states = refl }

pub start_starts : Starts start
unfolding chunks
start_starts = record {
  viewed = λ size octets. refl;
  together = λ k. record {
    settings = settings_fresh refl;
    advertising = record { short_data = lit≤ tt; short_response = lit≤ tt };
    recent = lit≤ tt;
    links = empty_holds (record { connections = refl; waiting = refl; flying = refl; count = refl; waiting_count = refl });
    accept = accept_empty k.accept_list_size refl;
    resolving = resolving_empty k.resolving_list_size refl;
  };
}

-- ---- what demand 3 says of it
pub run_drops_nothing : NothingDropped (reading bench_profile) (held start pool) run
run_drops_nothing = ((demand_3 bench_profile bench_typed start start_starts pool).credits run run_chained run_premises).0

-- the run does not stop inside the pair of calls, so the host counts the one packet that is in use
pub run_count : unacknowledged (book_after (reading bench_profile) blank run) ≡ 1
unfolding last_of book_after book noted heard_all heard parse_acl by_indicator packet_length whole packets_up_to packets reports
    flatten
run_count = ((demand_3 bench_profile bench_typed start start_starts pool).credits run run_chained run_premises).1 refl
