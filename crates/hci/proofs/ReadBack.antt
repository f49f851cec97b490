-- What `acl` writes, `Acl::parse` and `acl_data` read back, whatever octets follow it; and what an opcode is made of. For
-- readers who want to see that readers and writers belong together.
use Rattle.std.specs.Prelude.{Ok}
use mathlib.Core.Path.{◌≡◌, ◌∙◌}
use Prim.Native.Nat.{ℕ, ◌+◌, ◌-◌, ◌*◌, ◌/◌, ◌%◌, ◌≤◌, ◌<◌}
use mathlib.Core.List.{List, ◌++◌, Memᴰ}
use mathlib.Core.Bool.{true}
use lib.ListN.{length, length-append}
use lib.Seq.{take-append_seam}
use lib.Bits.{or_shifted}
use native.Mathlib.Omega.{arith}
use Rattle.lists.proofs.Tests.{any_member, member_any}
use Rattle.octets.specs.Octets.{word}
use Rattle.hci.specs.Packet.{acl, acl_word}
use Rattle.hci.specs.Read.{parse_acl, acl_data}
use Rattle.hci.specs.Opcode.{opcode_of, is_async, async_opcodes}
use borrow.Author.Tests.{le-ltb}

module _ (handle boundary : ℕ) (load more : List ℕ) (fits : length load ≤ 65535) where
  abbrev packet : List ℕ
  packet = acl handle boundary load ++ more

  -- the length field is read back, and the word
  length_read : word packet 3 ≡ length load
  length_read = omega arith

  word_read : word packet 1 ≡ acl_word handle boundary
  word_read = omega arith

  read_back : parse_acl packet ≡ Ok (record {
    handle = acl_word handle boundary % 4096;
    boundary = acl_word handle boundary / 4096 % 4;
    broadcast = acl_word handle boundary / 16384;
    len = length load;
  })
  unfolding parse_acl
  read_back =
      let long : length load ≤ length (load ++ more) = omega (arith, length-append load more) in
      let whole : length load ≤ length packet - 5 = omega arith in
      simp (le-ltb (length packet) 5 (omega arith), word_read, length_read, le-ltb (length packet - 5) (length load) whole)

  -- the data is read back
  pub data_back : acl_data packet ≡ load
  data_back = rw (read_back, length_read) (take-append_seam load more)

  -- the handle and the boundary flag are read back, and broadcast 0
  pub parts_back : handle < 4096 → boundary < 4
      → parse_acl packet ≡ Ok (record { handle = handle; boundary = boundary; broadcast = 0; len = length load })
  parts_back h b =
      let w : acl_word handle boundary % 4096 ≡ handle = omega arith in
      let q : acl_word handle boundary / 4096 ≡ boundary % 4 = omega arith in
      let f : acl_word handle boundary / 4096 % 4 ≡ boundary = rw q (omega arith) in
      let g : acl_word handle boundary / 16384 ≡ 0 = omega arith in
      read_back ∙ rw (w, f, g)

-- the opcode of a group below 64 and a command below 1,024 (Core Vol 4 Part E section 5.4.1)
pub opcode_parts : (ogf ocf : ℕ) → ogf < 64 → ocf < 1024 → opcode_of ogf ocf ≡ ogf * 1024 + ocf
opcode_parts ogf ocf h k =
    let e : ogf % 64 ≡ ogf = omega arith in
    rw e (or_shifted ogf 10 ocf k)

-- an opcode is asynchronous exactly if it stands in the table
pub async_member : (op : ℕ) → is_async op ≡ true → Memᴰ op async_opcodes
unfolding is_async
async_member op e = any_member op async_opcodes e

pub member_async : (op : ℕ) → Memᴰ op async_opcodes → is_async op ≡ true
unfolding is_async
member_async op m = member_any op async_opcodes m
