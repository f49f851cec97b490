-- What a packet from the host is, read as a command or as ACL data (Core Vol 4 Part A section 2, Part E sections 5.4.1 and
-- 5.4.2), with the tests in the order of the source. For callers of the readers.
use Rattle.std.specs.Prelude.{ℕ, ◌-◌, ◌/◌, ◌%◌, List, [], Result, Ok, Err, Bool, true, false, cond, length, take, drop, ltb, eqb}
use Rattle.octets.specs.Octets.{octet, word}
use Rattle.hci.specs.declared.read.Command.{Command}
use Rattle.hci.specs.declared.read.Acl.{Acl}
use Rattle.hci.specs.declared.read.ReadError.{ReadError}
use Rattle.hci.specs.declared.read.ReadError.TheVariants.{ShortHeader, OtherKind, ShortBody}

-- 5.4.1: indicator 0x01, opcode, how many parameter octets, the parameters; what follows them is ignored
unfoldable pub parse_command : List ℕ → Result Command ReadError
parse_command p =
    cond (ltb (length p) 4) (Err ShortHeader)
    (cond (eqb (octet p 0) 0x01)
    (cond (ltb (length p - 4) (octet p 3)) (Err ShortBody)
    (Ok (record { opcode = word p 1; len = octet p 3 })))
    (Err OtherKind))

-- the parameters of a command packet: from its fifth octet, as many as its length says
abbrev pub parameters : List ℕ → List ℕ
parameters p = take (octet p 3) (drop 4 p)

-- 5.4.2: indicator 0x02, a word with the handle in its low 12 bits, the packet boundary flag in bits 12 and 13 and the broadcast
-- flag in bits 14 and 15, how many octets of data, the data; what follows them is ignored. "Reading an ACL header must also give
-- bits 12 and 13 (boundary) and bits 14 and 15 (broadcast)." (E2)
unfoldable pub parse_acl : List ℕ → Result Acl ReadError
parse_acl p =
    cond (ltb (length p) 5) (Err ShortHeader)
    (cond (eqb (octet p 0) 0x02)
    (cond (ltb (length p - 5) (word p 3)) (Err ShortBody)
    (Ok (record {
      handle = word p 1 % 4096;
      boundary = word p 1 / 4096 % 4;
      broadcast = word p 1 / 16384;
      len = word p 3;
    })))
    (Err OtherKind))

-- whether a packet is read
abbrev pub is_whole : Result Acl ReadError → Bool
is_whole (Ok header) = true
is_whole (Err e) = false

-- the data of a packet that is read, and none of another
abbrev pub acl_data : List ℕ → List ℕ
acl_data p = cond (is_whole (parse_acl p)) (take (word p 3) (drop 5 p)) []
