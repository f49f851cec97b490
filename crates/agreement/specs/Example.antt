-- A run of the controller's calls under the bench profile of document 01, with the states, pools and answers that they leave,
-- written down. All eleven kinds of call are in it, and with each notice that has an event this event: two links, a packet of
-- each taken, one reported, a refused call, one dropped after its link's end, one that goes while it waits, with its link,
-- Reset, and a packet after it. proofs/Example.antt shows that the contracts allow it and that it meets all premises of
-- demand 3. For readers who ask whether they can be met.
use Rattle.std.specs.Prelude.{ℕ, ◌-◌, ◌/◌, List, [], ◌∷◌, ◌++◌, true, length, replicate}
use Rattle.hci.specs.Packet.{acl}
use Rattle.links.specs.declared.Connection.{Connection}
use Rattle.links.specs.declared.Waiting.{Waiting}
use Rattle.state.specs.State.{default_settings, default_advertising, default_scanning}
use Rattle.state.specs.declared.Controller.{Controller}
use Rattle.calls.specs.Packets.{Profile}
use Rattle.calls.specs.Calls.{Call, on_packet, take_transmit, open_connection, completed, drop_in_flight, accept_connection}
use Rattle.calls.specs.Calls.{peer_update, request_ltk, complete_disconnect, remote_disconnect, advertising_timeout, Held, held}
use Rattle.calls.specs.Gives.{Answer, plain, events, packets, profile_of}
use Rattle.credits.specs.Credits.{Made}
use Rattle.bench_profile.specs.Bench.{bench_controller}

-- ---- the profile: `bench_controller` in `bench_profile/specs/Bench.antt`, with the rows of the three commands of the run

-- Disconnect, Set Event Mask and Reset, modelled: bit 5 of octet 0 of the supported commands, bits 6 and 7 of octet 5
abbrev pub bench_profile : Profile
bench_profile = profile_of bench_controller (0x0406 ∷ 0x0C01 ∷ 0x0C03 ∷ []) (0 ∷ 0 ∷ 0 ∷ []) (5 ∷ 46 ∷ 47 ∷ [])

-- ---- the commands, and what the controller remembers of each: its opcode and its status, 0

-- the default mask and bit 61, LE Meta
abbrev pub set_mask : List ℕ
set_mask = 0x01 ∷ 0x01 ∷ 0x0C ∷ 0x08 ∷ 0xFF ∷ 0xFF ∷ 0xFF ∷ 0xFF ∷ 0xFF ∷ 0x1F ∷ 0x00 ∷ 0x20 ∷ []

abbrev pub mask_done : List ℕ
mask_done = 0x01 ∷ 0x0C ∷ 0x00 ∷ []

-- link 1, by the host's user (0x13)
abbrev pub disconnect : List ℕ
disconnect = 0x01 ∷ 0x06 ∷ 0x04 ∷ 0x03 ∷ 0x01 ∷ 0x00 ∷ 0x13 ∷ []

abbrev pub disconnect_done : List ℕ
disconnect_done = 0x06 ∷ 0x04 ∷ 0x00 ∷ []

abbrev pub reset : List ℕ
reset = 0x01 ∷ 0x03 ∷ 0x0C ∷ 0x00 ∷ []

abbrev pub reset_done : List ℕ
reset_done = 0x03 ∷ 0x0C ∷ 0x00 ∷ []

-- ---- the links

-- handle, interval, latency, timeout, the reason of a Disconnect that waits for the peer, and whether the peer asked for a key
abbrev pub connection : ℕ → ℕ → ℕ → ℕ → ℕ → ℕ → Connection
connection handle interval latency timeout terminating requested = record {
  handle = handle;
  interval = interval;
  latency = latency;
  timeout = timeout;
  tx_octets = 27;
  tx_time = 328;
  auth_payload_timeout = 3000;
  tx_phy = 1;
  rx_phy = 1;
  terminating = terminating;
  ltk_requested = requested;
}

-- link 1 as it opens, with new parameters, after its peer asked for a key, and after the host's Disconnect; link 2
abbrev pub one : Connection
one = connection 1 24 0 42 0 0

abbrev pub one_updated : Connection
one_updated = connection 1 40 4 300 0 0

abbrev pub one_asking : Connection
one_asking = connection 1 40 4 300 0 1

abbrev pub one_ending : Connection
one_ending = connection 1 40 4 300 0x13 1

abbrev pub two : Connection
two = connection 2 24 0 42 0 0

-- a packet of a link: how many octets it has, and the place of the pool that holds them
abbrev pub waits : ℕ → ℕ → ℕ → Waiting
waits h len place = record { handle = h; len = len; place = place }

-- ---- the states: the contracts leave open what stands past the counts; here it is always the same

-- n octets: these, and then 0
abbrev pub padded : ℕ → List ℕ → List ℕ
padded n octets = octets ++ replicate (n - length octets) 0

-- what changes along the run: the event mask, the octets of the last answers, three for each command, the connections, what
-- waits in them, how many packets are in flight, and how many data packets were counted. The rest is as a controller starts with
-- it. There are sixteen places for connections and thirty-two for waiting packets
abbrev pub state_with : ℕ → List ℕ → List Connection → List Waiting → ℕ → ℕ → Controller
state_with event_mask answers connections queue in_flight packets = record {
  masks = record { event = event_mask; event_page2 = 0; le_event = 0x1F };
  settings = default_settings;
  advertising = record {
    params = default_advertising.params;
    «data» = replicate 31 0;
    data_len = 0;
    scan_response = replicate 31 0;
    scan_response_len = 0;
    enabled = 0;
  };
  scanning = default_scanning;
  accept_list = record { octets = replicate 224 0; count = 0 };
  resolving_list = record { octets = replicate 128 0; count = 0 };
  links = record {
    connections = connections ++ replicate (16 - length connections) (connection 0 0 0 0 0 0);
    count = length connections;
    waiting = queue ++ replicate (32 - length queue) (waits 0 0 0);
    waiting_count = length queue;
    in_flight = in_flight;
  };
  counters = record { commands = length answers / 3; unknown_commands = 0; acl_packets = packets; acl_dropped = 0 };
  recent = record { octets = padded 96 answers; count = length answers / 3 };
}

-- at first, and after each of the three commands: connections, what waits in them, in flight, counted
abbrev pub start : Controller
start = state_with 0x1FFFFFFFFFFF [] [] [] 0 0

abbrev pub hearing : List Connection → List Waiting → ℕ → ℕ → Controller
hearing = state_with 0x20001FFFFFFFFFFF mask_done

abbrev pub disconnecting : List Connection → List Waiting → ℕ → ℕ → Controller
disconnecting = state_with 0x20001FFFFFFFFFFF (mask_done ++ disconnect_done)

abbrev pub restarted : List Connection → List Waiting → ℕ → ℕ → Controller
restarted = state_with 0x1FFFFFFFFFFF (mask_done ++ disconnect_done ++ reset_done)

-- ---- the packets, and the pool that holds them: two places of 32 octets

-- five octets for link 1, with boundary flag 2, as many as a packet may have for link 2, then three octets for link 1, and none
abbrev pub first : List ℕ
first = acl 1 2 (replicate 5 0xAA)

abbrev pub second : List ℕ
second = acl 2 0 (replicate 27 0xBB)

abbrev pub third : List ℕ
third = acl 1 0 (replicate 3 0xCC)

abbrev pub fourth : List ℕ
fourth = acl 1 0 []

-- longer than a packet may be, for a link that there is not
abbrev pub unfit : List ℕ
unfit = acl 9 0 (replicate 99 0xDD)

abbrev pub pool_with : List ℕ → List ℕ → List ℕ
pool_with a b = padded 32 a ++ padded 32 b

abbrev pub pool : List ℕ
pool = pool_with [] []

abbrev pub with_first : List ℕ
with_first = pool_with first []

abbrev pub with_second : List ℕ
with_second = pool_with first second

-- the third packet in the place of the first, and the fourth in that of the third: later octets of the place stay
abbrev pub with_third : List ℕ
with_third = pool_with (third ++ replicate 2 0xAA) second

abbrev pub with_fourth : List ℕ
with_fourth = pool_with (fourth ++ replicate 3 0xCC ++ replicate 2 0xAA) second

-- ---- the events

-- Command Complete of a command with status 0, and Command Status of Disconnect
abbrev pub complete : List ℕ → List ℕ
complete answer = 0x04 ∷ 0x0E ∷ 0x04 ∷ 0x05 ∷ answer

abbrev pub disconnect_status : List ℕ
disconnect_status = 0x04 ∷ 0x0F ∷ 0x04 ∷ 0x00 ∷ 0x05 ∷ 0x06 ∷ 0x04 ∷ []

-- LE Connection Complete: with Advertising Timeout (0x3C), and of link 2, whose peer has a random address
abbrev pub unanswered : List ℕ
unanswered = 0x04 ∷ 0x3E ∷ 0x13 ∷ 0x01 ∷ 0x3C ∷ replicate 17 0x00

abbrev pub peer : List ℕ
peer = 0x66 ∷ 0x55 ∷ 0x44 ∷ 0x33 ∷ 0x22 ∷ 0xC1 ∷ []

abbrev pub connected : List ℕ
connected =
    0x04 ∷ 0x3E ∷ 0x13 ∷ 0x01 ∷ 0x00 ∷ 0x02 ∷ 0x00 ∷ 0x01 ∷ 0x01 ∷ peer
    ++ 0x18 ∷ 0x00 ∷ 0x00 ∷ 0x00 ∷ 0x2A ∷ 0x00 ∷ 0x05 ∷ []

-- one packet of link 1 completed
abbrev pub reported : List ℕ
reported = 0x04 ∷ 0x13 ∷ 0x05 ∷ 0x01 ∷ 0x01 ∷ 0x00 ∷ 0x01 ∷ 0x00 ∷ []

-- LE Connection Update Complete, and LE Long Term Key Request with a random number and a diversifier, of link 1
abbrev pub updated : List ℕ
updated = 0x04 ∷ 0x3E ∷ 0x0A ∷ 0x03 ∷ 0x00 ∷ 0x01 ∷ 0x00 ∷ 0x28 ∷ 0x00 ∷ 0x04 ∷ 0x00 ∷ 0x2C ∷ 0x01 ∷ []

abbrev pub key_random : List ℕ
key_random = 0x01 ∷ 0x02 ∷ 0x03 ∷ 0x04 ∷ 0x05 ∷ 0x06 ∷ 0x07 ∷ 0x08 ∷ []

abbrev pub key_asked : List ℕ
key_asked = 0x04 ∷ 0x3E ∷ 0x0D ∷ 0x05 ∷ 0x01 ∷ 0x00 ∷ key_random ++ 0x34 ∷ 0x12 ∷ []

-- Disconnection Complete: the link, and the reason
abbrev pub disconnected : ℕ → ℕ → List ℕ
disconnected h reason = 0x04 ∷ 0x05 ∷ 0x04 ∷ 0x00 ∷ h ∷ 0x00 ∷ reason ∷ []

-- ---- the calls and their answers

abbrev pub sending : List ℕ → Call
sending p = on_packet (replicate 6 0) 0 p

abbrev pub opening : ℕ → Call
opening h = open_connection h 24 0 42

-- accepted: events, or a packet that was taken, at the front of a buffer of 71 octets
abbrev pub tells : List ℕ → Answer
tells octets = events 0 (length octets) (replicate 71 0) (padded 71 octets)

abbrev pub hands : List ℕ → Answer
hands octets = packets 0 (length octets) 1 (replicate 71 0) (padded 71 octets)

-- refused: question 5, a buffer of 70 octets
abbrev pub too_short : Answer
too_short = events 5 0 (replicate 70 0) (replicate 70 0)

-- a call, the state and the pool that it left, and its answer
abbrev pub entry : Call → Controller → List ℕ → Answer → Made Call Held Answer
entry c s octets a = record { call = c; left = held s octets; gave = a }

abbrev pub run : List (Made Call Held Answer)
run =
    -- 1 the host asks for LE events: Command Complete
    entry (sending set_mask) (hearing [] [] 0 0) pool (tells (complete mask_done))
    -- 2 the link tells that nobody answered the advertising: LE Connection Complete
    ∷ entry advertising_timeout (hearing [] [] 0 0) pool (tells unanswered)
    -- 3 link 1 opens
    ∷ entry (opening 1) (hearing (one ∷ []) [] 0 0) pool (plain 0)
    -- 4 a central connects, as link 2: LE Connection Complete
    ∷ entry (accept_connection 2 true peer 24 0 42 5) (hearing (one ∷ two ∷ []) [] 0 0) pool (tells connected)
    -- 5, 6 a packet for each link, so that both places are in use
    ∷ entry (sending first) (hearing (one ∷ two ∷ []) (waits 1 10 0 ∷ []) 0 1) with_first (tells [])
    ∷ entry (sending second) (hearing (one ∷ two ∷ []) (waits 1 10 0 ∷ waits 2 32 1 ∷ []) 0 2) with_second (tells [])
    -- 7, 8 both go into the air
    ∷ entry (take_transmit 1 1) (hearing (one ∷ two ∷ []) (waits 2 32 1 ∷ []) 1 2) with_second (hands first)
    ∷ entry (take_transmit 2 8) (hearing (one ∷ two ∷ []) [] 2 2) with_second (hands second)
    -- 9 the first has arrived: Number Of Completed Packets
    ∷ entry (completed 1 1) (hearing (one ∷ two ∷ []) [] 1 2) with_second (tells reported)
    -- 10 a call is refused: nothing changes
    ∷ entry (sending unfit) (hearing (one ∷ two ∷ []) [] 1 2) with_second too_short
    -- 11 the peer of link 1 changes its parameters: LE Connection Update Complete
    ∷ entry (peer_update 1 40 4 300) (hearing (one_updated ∷ two ∷ []) [] 1 2) with_second (tells updated)
    -- 12 and asks for a key: LE Long Term Key Request
    ∷ entry (request_ltk 1 key_random 0x1234) (hearing (one_asking ∷ two ∷ []) [] 1 2) with_second (tells key_asked)
    -- 13 the peer's user (0x13) ends link 2 while its packet is in the air: Disconnection Complete
    ∷ entry (remote_disconnect 2 0x13) (hearing (one_asking ∷ []) [] 1 2) with_second (tells (disconnected 2 0x13))
    -- 14 that packet is dropped
    ∷ entry (drop_in_flight 1) (hearing (one_asking ∷ []) [] 0 2) with_second (plain 0)
    -- 15 a packet waits in link 1
    ∷ entry (sending third) (hearing (one_asking ∷ []) (waits 1 8 0 ∷ []) 0 3) with_third (tells [])
    -- 16 the host disconnects link 1: Command Status
    ∷ entry (sending disconnect) (disconnecting (one_ending ∷ []) (waits 1 8 0 ∷ []) 0 3) with_third (tells disconnect_status)
    -- 17 the peer has acknowledged; the link ends, by the host (0x16), and its packet with it: Disconnection Complete
    ∷ entry (complete_disconnect 1) (disconnecting [] [] 0 3) with_third (tells (disconnected 1 0x16))
    -- 18 Reset: Command Complete
    ∷ entry (sending reset) (restarted [] [] 0 3) with_third (tells (complete reset_done))
    -- 19, 20 link 1 opens again and gets a packet, the one that is in use at the end
    ∷ entry (opening 1) (restarted (one ∷ []) [] 0 3) with_third (plain 0)
    ∷ entry (sending fourth) (restarted (one ∷ []) (waits 1 5 0 ∷ []) 0 4) with_fourth (tells [])
    ∷ []
