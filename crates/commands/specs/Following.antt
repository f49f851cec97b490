-- The events that follow an acknowledgement, as octets; none where the host has masked them (sections 7.3.1, 7.3.69 and 7.8.1).
-- For the definitions of the commands and of the link's notices.
use Rattle.std.specs.Prelude.{ℕ, List, [], ◌∷◌, ◌++◌, Bool, cond, eqb, replicate}
use Rattle.octets.specs.Octets.{le}
use Rattle.hci.specs.Packet.{event, meta_params}
use Rattle.hci.specs.Bits.{bit_of}
use Rattle.state.specs.State.{le_event_enabled}
use Rattle.state.specs.declared.Masks.{Masks}
use Rattle.commands.specs.Status.{success}

-- an event where a test passes
abbrev pub event_if : Bool → ℕ → List ℕ → List ℕ
event_if enabled code params = cond enabled (event code params) []

-- a bit of a mask is set
abbrev pub enabled_by : ℕ → ℕ → Bool
enabled_by mask bit = eqb (bit_of mask bit) 1

-- an LE Meta event (0x3E) where Event_Mask bit 61 and the subevent's bit are set
unfoldable pub le_meta_event : Masks → ℕ → List ℕ → List ℕ
le_meta_event masks subevent params = event_if (le_event_enabled masks subevent) 0x3E (meta_params subevent params)

-- 7.7.12 Read Remote Version Information Complete (0x0C), Event_Mask bit 11
unfoldable pub remote_version_complete : Masks → List ℕ → List ℕ
remote_version_complete masks params = event_if (enabled_by masks.event 11) 0x0C params

-- 7.7.8 Encryption Change: v2 (0x59) where Event_Mask_Page_2 bit 25 is set, else v1 (0x08) where Event_Mask bit 7 is. On, with
-- AES-CCM (0x01), and in v2 the size of the key, 16 octets
unfoldable pub encryption_change : Masks → ℕ → List ℕ
encryption_change masks handle =
    cond (enabled_by masks.event_page2 25) (event 0x59 (success ∷ le 2 handle ++ 0x01 ∷ 16 ∷ []))
    (event_if (enabled_by masks.event 7) 0x08 (success ∷ le 2 handle ++ 0x01 ∷ []))

-- the parameters of a link, as events have them
abbrev pub timing_of : ℕ → ℕ → ℕ → List ℕ
timing_of interval latency timeout = le 2 interval ++ le 2 latency ++ le 2 timeout

-- 7.7.65.3 LE Connection Update Complete
abbrev pub update_complete : Masks → ℕ → ℕ → ℕ → ℕ → List ℕ
update_complete masks handle interval latency timeout =
    le_meta_event masks 0x03 (success ∷ le 2 handle ++ timing_of interval latency timeout)

-- what a connection complete event says of a link: its parameters and the clock accuracy
abbrev pub connection_tail : ℕ → ℕ → ℕ → ℕ → List ℕ
connection_tail interval latency timeout accuracy = timing_of interval latency timeout ++ accuracy ∷ []

-- in the newest form that the masks enable, 7.7.65.10 LE Enhanced Connection Complete v2 (0x29) or v1 (0x0A), or 7.7.65.1 LE
-- Connection Complete: head is status, handle, role and the peer, tail the parameters of the link and the clock accuracy. In the
-- enhanced forms no resolvable addresses behind the peer, and in version 2 the advertising set and the periodic sync at the end
unfoldable pub connection_complete : Masks → List ℕ → List ℕ → List ℕ → List ℕ
connection_complete masks head tail sets =
    cond (le_event_enabled masks 0x29) (event 0x3E (meta_params 0x29 (head ++ replicate 12 0 ++ tail ++ sets)))
    (cond (le_event_enabled masks 0x0A) (event 0x3E (meta_params 0x0A (head ++ replicate 12 0 ++ tail)))
    (le_meta_event masks 0x01 (head ++ tail)))

-- a connection that failed: status and zeroes
unfoldable pub connection_failed : Masks → ℕ → List ℕ
connection_failed masks code = connection_complete masks (code ∷ replicate 10 0) (replicate 7 0) (replicate 3 0)
