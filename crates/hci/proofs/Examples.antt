-- Packets of document 01's bench lines and of Core's forms, as the definitions give them: worked examples for a reader.
use Rattle.std.specs.Prelude.{Ok, Err}
use mathlib.Core.Path.{◌≡◌, refl}
use mathlib.Core.Bool.{true, false}
use mathlib.Core.List.{[], ◌∷◌}
use Rattle.lists.specs.Lists.{any}
use Rattle.hci.specs.Packet.{event, complete_params, completed_params, status_params, acl, pairs}
use Rattle.hci.specs.Read.{parse_command, parse_acl, acl_data}
use Rattle.hci.specs.Bits.{with_bit}
use Rattle.hci.specs.Opcode.{is_async, opcode_of}
use Rattle.hci.specs.declared.read.ReadError.TheVariants.{ShortBody}

-- E 040e0405030c00: Reset is answered by Command Complete with status 0
reset_complete : event 0x0E (complete_params 5 0x0C03 (0 ∷ [])) ≡ 0x04 ∷ 0x0e ∷ 0x04 ∷ 0x05 ∷ 0x03 ∷ 0x0c ∷ 0x00 ∷ []
reset_complete = refl

-- Command Status 0x01 for opcode 0x2043
unknown_status : event 0x0F (status_params 5 0x01 0x2043) ≡ 0x04 ∷ 0x0f ∷ 0x04 ∷ 0x01 ∷ 0x05 ∷ 0x43 ∷ 0x20 ∷ []
unknown_status = refl

-- E 0413050101000100: one packet of handle 1 completed
one_completed : event 0x13 (completed_params (1 ∷ []) (1 ∷ [])) ≡ 0x04 ∷ 0x13 ∷ 0x05 ∷ 0x01 ∷ 0x01 ∷ 0x00 ∷ 0x01 ∷ 0x00 ∷ []
unfolding pairs
one_completed = refl

-- X 0201000100aa: one octet of data for handle 1
one_octet : acl 1 0 (0xaa ∷ []) ≡ 0x02 ∷ 0x01 ∷ 0x00 ∷ 0x01 ∷ 0x00 ∷ 0xaa ∷ []
one_octet = refl

-- P 01030c00: Reset
reset : parse_command (0x01 ∷ 0x03 ∷ 0x0c ∷ 0x00 ∷ []) ≡ Ok (record { opcode = 0x0C03; len = 0 })
unfolding parse_command
reset = refl

-- length octet 3 with two octets (a marked case of document 01)
short : parse_command (0x01 ∷ 0x06 ∷ 0x20 ∷ 0x03 ∷ 0x00 ∷ 0x00 ∷ []) ≡ Err ShortBody
unfolding parse_command
short = refl

-- the flags are no part of the handle: word 0x6001 is handle 1, boundary 2, broadcast 1
flags : parse_acl (0x02 ∷ 0x01 ∷ 0x60 ∷ 0x01 ∷ 0x00 ∷ 0xaa ∷ 0xbb ∷ [])
    ≡ Ok (record { handle = 1; boundary = 2; broadcast = 1; len = 1 })
unfolding parse_acl
flags = refl

-- octets past the length are no data
past : acl_data (0x02 ∷ 0x01 ∷ 0x20 ∷ 0x01 ∷ 0x00 ∷ 0xaa ∷ 0xbb ∷ []) ≡ 0xaa ∷ []
unfolding parse_acl
past = refl

-- LE Create Connection, group 8 command 13, is asynchronous; LE Read Channel Map, command 21, is not
async : is_async (opcode_of 8 13) ≡ true
unfolding is_async any
async = refl

not_async : is_async (opcode_of 8 21) ≡ false
unfolding is_async any
not_async = refl

-- bit 9 of a map is bit 1 of its second octet; past the end nothing changes
bit_nine : with_bit (0x00 ∷ 0x81 ∷ []) 9 ≡ 0x00 ∷ 0x83 ∷ []
bit_nine = refl

past_end : with_bit (0x00 ∷ 0x81 ∷ []) 16 ≡ 0x00 ∷ 0x81 ∷ []
past_end = refl
