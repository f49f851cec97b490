-- What the readers and writers of HCI packets tell, as C gets it. For readers of the contracts of wegrulsta_read_*,
-- wegrulsta_write_* and wegrulsta_mask_has.
use Rattle.std.specs.Prelude.{◌≡◌, ℕ, List, Result, Ok, Err, Bool, length}
use Rattle.hci.specs.Packet.{event}
use Rattle.hci.specs.Write as write
use Rattle.hci.specs.Bits as bits
use Rattle.hci.specs.declared.write.WriteError.{WriteError}
use Rattle.hci.specs.declared.bits.MaskError.{MaskError}
use Rattle.hci.specs.declared.read.Command.{Command}
use Rattle.hci.specs.declared.read.Acl.{Acl}
use Rattle.hci.specs.declared.read.ReadError.{ReadError}
use Rattle.hci.specs.declared.read.ReadError.TheVariants.{ShortHeader, OtherKind, ShortBody}
use Rattle.capi.specs.declared.packets.ReadCommand.{ReadCommand}
use Rattle.capi.specs.declared.packets.ReadAcl.{ReadAcl}
use Rattle.capi.specs.declared.packets.Wrote.{Wrote}
use Rattle.capi.specs.declared.packets.MaskHas.{MaskHas}

-- a reader's answer is a kind (0 whole, 1 too short for its header, 2 another kind of packet, 3 shorter than its length field
-- says) and what the header says, 0 where the packet is not whole
abbrev pub kind_of : ReadError → ℕ
kind_of ShortHeader = 1
kind_of OtherKind = 2
kind_of ShortBody = 3

abbrev pub command_of : Result Command ReadError → ReadCommand
command_of (Ok c) = record { kind = 0; len = c.len; opcode = c.opcode }
command_of (Err e) = record { kind = kind_of e; len = 0; opcode = 0 }

abbrev pub acl_of : Result Acl ReadError → ReadAcl
acl_of (Ok c) = record { kind = 0; boundary = c.boundary; broadcast = c.broadcast; handle = c.handle; len = c.len }
acl_of (Err e) = record { kind = kind_of e; boundary = 0; broadcast = 0; handle = 0; len = 0 }

-- a writer's answer is its number and how many octets it wrote: what the writer of `hci` gives, in that form
pub record Writes (n most : ℕ) (packet out : List ℕ) (r : Wrote) (after : List ℕ) : Type 0 where
  pub given : Result ℕ WriteError
  pub wrote : write.Wrote n most packet out given after
  pub number : r.number ≡ write.number given
  pub written : r.written ≡ write.count given

-- the same of an event, whose length field is one octet
abbrev pub WritesEvent : ℕ → List ℕ → List ℕ → Wrote → List ℕ → Type 0
WritesEvent code params out r after = Writes (length params) 255 (event code params) out r after

-- the answer of `mask_has` is its number and whether the mask has the bit
pub record HasBit (mask bit : ℕ) (r : MaskHas) : Type 0 where
  pub given : Result Bool MaskError
  pub says : bits.MaskHas mask bit given
  pub number : r.number ≡ bits.number given
  pub has : r.has ≡ bits.says given
