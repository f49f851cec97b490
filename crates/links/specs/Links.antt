-- The links as lists: connections in the order in which they were opened, one queue of the packets that wait in all of
-- them, oldest first, and the number in flight; and what each operation does to them. Read beside the source's
-- `connections`, `tx`, `acl_in_flight`. A link's own queue is the part of the queue with its handle.
use Rattle.std.specs.Prelude.{ℕ, zero, suc, ◌+◌, ◌-◌, ◌≤◌, List, [], ◌∷◌, ◌++◌, map, Bool, cond, not, ◌||◌, eqb, ltb, length}
use Rattle.std.specs.Prelude.{take}
use Rattle.lists.specs.Lists.{any, keep, taken, leaving, update_first, read_at}
use Rattle.links.specs.declared.Connection.{Connection}
use Rattle.links.specs.declared.Waiting.{Waiting}
use Rattle.links.specs.declared.Links.{Links}

pub record Packet : Type 0 where
  pub handle : ℕ
  pub octets : List ℕ

pub record Model : Type 0 where
  pub connections : List Connection
  pub queue : List Packet
  pub in_flight : ℕ

-- What the arrays with their counts, and a pool of places of `size` octets, hold

abbrev pub opened : Links → List Connection
opened s = take s.count s.connections

abbrev pub waiting_of : Links → List Waiting
waiting_of s = take s.waiting_count s.waiting

abbrev pub packet_of : ℕ → List ℕ → Waiting → Packet
packet_of size pool w = record { handle = w.handle; octets = read_at size pool w.place w.len }

abbrev pub view : Links → ℕ → List ℕ → Model
view s size pool = record { connections = opened s; queue = map (packet_of size pool) (waiting_of s); in_flight = s.in_flight }

-- The counts do not pass their arrays. C hands in any octets as a state, so the type cannot carry it: each function asks for it,
-- and question 3 finds it out
abbrev pub CountsFit : Links → Type 0
CountsFit s = (s.count ≤ 16) × (s.waiting_count ≤ 32)

-- Looking

abbrev pub has_handle : ℕ → Connection → Bool
has_handle h c = eqb c.handle h

abbrev pub waits_for : ℕ → Waiting → Bool
waits_for h w = eqb w.handle h

abbrev pub packet_for : ℕ → Packet → Bool
packet_for h p = eqb p.handle h

-- has_connection
abbrev pub has : ℕ → List Connection → Bool
has h cs = any (has_handle h) cs

-- free_handle: the lowest handle from 1 that no link has, 0x0EFF where each below it is taken
unfoldable pub free_from : ℕ → ℕ → List Connection → ℕ
free_from zero h cs = h
free_from (suc n) h cs = cond (has h cs) (free_from n (suc h) cs) h

abbrev pub free_handle : List Connection → ℕ
free_handle cs = free_from 0x0EFE 1 cs

-- question 6: the handle is present, or one of the sixteen places is free
abbrev pub can_open : ℕ → List Connection → Bool
can_open h cs = has h cs || ltb (length cs) 16

-- acl_buffers_in_use: waiting in all links, and in flight
abbrev pub in_use : Model → ℕ
in_use m = length m.queue + m.in_flight

-- Changing

-- a connection with the defaults of a new LE link: 27 octets in 328 us (Core Vol 6 Part B section 4.5.10), LE 1M both ways, as
-- after legacy advertising, and 30 s for authenticated payloads (Vol 6 Part B section 5.4)
abbrev pub new_connection : ℕ → ℕ → ℕ → ℕ → Connection
new_connection h interval latency timeout = record {
  handle = h;
  interval = interval;
  latency = latency;
  timeout = timeout;
  tx_octets = 27;
  tx_time = 328;
  auth_payload_timeout = 3000;
  tx_phy = 1;
  rx_phy = 1;
  terminating = 0;
  ltk_requested = 0;
}

-- the end of a link (Core Vol 4 Part E section 4.3): its connection and its queue go. What is in flight stays in use, which is a
-- departure of the source (docs/DIFFERENCES.md)
unfoldable pub ended : ℕ → Model → Model
ended h m = record {
  connections = keep (λ c. not (has_handle h c)) m.connections;
  queue = keep (λ p. not (packet_for h p)) m.queue;
  in_flight = m.in_flight;
}

-- open_connection: a link with the handle ends first, and the new one stands last
unfoldable pub opened_last : Connection → Model → Model
opened_last c m = record {
  connections = (ended c.handle m).connections ++ (c ∷ []);
  queue = (ended c.handle m).queue;
  in_flight = m.in_flight;
}

-- a packet more waits
unfoldable pub enqueued : ℕ → List ℕ → Model → Model
enqueued h octets m = record {
  connections = m.connections;
  queue = m.queue ++ (record { handle = h; octets = octets } ∷ []);
  in_flight = m.in_flight;
}

-- take_transmit: up to `most` packets of a link, oldest first, go in flight
unfoldable pub taken_from : ℕ → ℕ → Model → List Packet
taken_from h most m = taken (packet_for h) most m.queue

unfoldable pub after_taking : ℕ → ℕ → Model → Model
after_taking h most m = record {
  connections = m.connections;
  queue = leaving (packet_for h) most m.queue;
  in_flight = m.in_flight + length (taken_from h most m);
}

-- completed and drop_in_flight: never below zero
unfoldable pub settled : ℕ → Model → Model
settled n m = record { connections = m.connections; queue = m.queue; in_flight = m.in_flight - n }

-- the connection of a handle, changed in place
unfoldable pub changed : ℕ → (Connection → Connection) → Model → Model
changed h f m = record { connections = update_first (has_handle h) f m.connections; queue = m.queue; in_flight = m.in_flight }
