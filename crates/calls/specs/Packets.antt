-- What a packet from the host does and what the host hears of it: the source's `on_packet` and `acl`, as functions of the state
-- (Core Vol 4 Part A section 2, Part E sections 4.1.1, 5.4.1 and 5.4.2). For the controller's calls, and for the theorem about
-- lists of calls.
use Rattle.std.specs.Prelude.{ℕ, ◌+◌, List, [], Result, Ok, Err, Bool, false, cond, ◌&&◌, leb, ltb, eqb, take}
use Rattle.octets.specs.Octets.{octet}
use Rattle.hci.specs.Read.{parse_command, parameters, parse_acl}
use Rattle.hci.specs.declared.read.Acl.{Acl}
use Rattle.hci.specs.declared.read.Command.{Command}
use Rattle.hci.specs.declared.read.ReadError.{ReadError}
use Rattle.profile.specs.declared.ControllerRow.{ControllerRow}
use Rattle.profile.specs.Profile.{row_answer}
use Rattle.links.specs.Links.{has, in_use, enqueued}
use Rattle.state.specs.State.{Model, count_packet, count_dropped}
use Rattle.commands.specs.Parts.{with_links, with_counters}
use Rattle.commands.specs.Outcome.{given}
use Rattle.commands.specs.Command as whole

-- a profile and its rows: opcodes, how each is answered, and their bit numbers
pub record Profile : Type 0 where
  pub controller : ControllerRow
  pub opcodes : List ℕ
  pub answers : List ℕ
  pub bits : List ℕ

-- what the caller gets, the octets of the events or of the taken packets end to end, and the state after it
pub record Reply : Type 0 where
  pub octets : List ℕ
  pub state : Model

abbrev pub reply : List ℕ → Model → Reply
reply octets m = record { octets = octets; state = m }

-- ---- data

-- "A packet with nonzero broadcast bits or boundary 3 is counted as dropped. That test comes after the header parses and before
-- the handle is looked up." (E2)
abbrev pub flags_served : Acl → Bool
flags_served header = eqb header.broadcast 0 && leb header.boundary 2

-- sections 4.1.1 and 7.8.2: a packet is queued if its header parses, its flags are served, its handle is connected, its length is
-- at most acl_len and buffers in use are below acl_count
abbrev pub accepts : ControllerRow → Result Acl ReadError → Model → Bool
accepts k (Ok header) m =
    flags_served header
    && (has header.handle m.links.connections
    && (leb header.len k.acl_len && ltb (in_use m.links) k.acl_count))
accepts k (Err e) m = false

-- the header of a packet that parses; nothing is read of another
abbrev pub header_of : Result Acl ReadError → Acl
header_of (Ok header) = header
header_of (Err e) = record { handle = 0; boundary = 0; broadcast = 0; len = 0 }

-- what waits is the packet as far as its length says
abbrev pub stored : List ℕ → List ℕ
stored p = take (5 + (header_of (parse_acl p)).len) p

abbrev pub queued : List ℕ → Model → Model
queued p m =
    with_counters (count_packet m.counters) (with_links (enqueued (header_of (parse_acl p)).handle (stored p) m.links) m)

abbrev pub discarded : Model → Model
discarded m = with_counters (count_dropped m.counters) m

-- `acl`: nothing is answered now; a packet that is not queued is counted
unfoldable pub data_packet : ControllerRow → List ℕ → Model → Model
data_packet k p m = cond (accepts k (parse_acl p) m) (queued p m) (discarded m)

-- ---- commands

-- a command goes by its opcode's row; one whose header or parameters are cut short gives no event and is not counted
abbrev pub by_command : Result Command ReadError → Profile → List ℕ → ℕ → List ℕ → Model → Reply
by_command (Ok c) g address random p m =
    reply (whole.command_octets (given g.controller address random (parameters p)) (row_answer g.opcodes g.answers c.opcode)
    c.opcode m)
    (whole.command (given g.controller address random (parameters p)) (row_answer g.opcodes g.answers c.opcode) c.opcode m).state
by_command (Err e) g address random p m = reply [] m

-- ---- packets

-- by the first octet: a command (0x01), data (0x02); any other packet, and the empty one, does nothing
unfoldable pub on_packet : Profile → List ℕ → ℕ → List ℕ → Model → Reply
on_packet g address random p m =
    cond (eqb (octet p 0) 0x01) (by_command (parse_command p) g address random p m)
    (cond (eqb (octet p 0) 0x02) (reply [] (data_packet g.controller p m))
    (reply [] m))

-- the packet is one that waits after this
unfoldable pub queues : Profile → List ℕ → Model → Bool
queues g p m = eqb (octet p 0) 0x02 && accepts g.controller (parse_acl p) m
