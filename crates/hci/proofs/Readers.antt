-- What a packet that was read tells. For the proofs of those who call the readers.
use Rattle.std.specs.Prelude.{Result, Ok, Err}
use mathlib.Core.Path.{◌≡◌, refl}
use Prim.Native.Nat.{ℕ, ◌+◌, ◌-◌, ◌/◌, ◌%◌, ◌≤◌}
use mathlib.Core.List.{List}
use mathlib.Core.Bool.{Bool, true, false, cond}
use lib.ListN.{length}
use lib.Dec.{ltb, eqb}
use native.Mathlib.Omega.{arith}
use borrow.Author.Tests.{eqb-true, ltb-false}
use Rattle.octets.specs.Octets.{octet, word}
use Rattle.hci.specs.Read.{parse_command, parse_acl}
use Rattle.hci.specs.declared.read.Command.{Command}
use Rattle.hci.specs.declared.read.Acl.{Acl}
use Rattle.hci.specs.declared.read.ReadError.{ReadError}
use Rattle.hci.specs.declared.read.ReadError.TheVariants.{ShortHeader, OtherKind, ShortBody}

-- what the tests of a reader say of a packet that passed them all: its kind is k, it has a header of n octets and the m octets
-- after it that its length field announces
tests_passed : {A : Type 0} (p : List ℕ) (n k m : ℕ) {r it : A}
    → cond (ltb (length p) n) (Err ShortHeader)
    (cond (eqb (octet p 0) k) (cond (ltb (length p - n) m) (Err ShortBody) (Ok r)) (Err OtherKind)) ≡ Ok it
    → (octet p 0 ≡ k) × (n + m ≤ length p) × (r ≡ it)
tests_passed {A} p n k m {r} {it} = go (ltb (length p) n) refl (eqb (octet p 0) k) refl (ltb (length p - n) m) refl
  where
    go : (t : Bool) → ltb (length p) n ≡ t → (s : Bool) → eqb (octet p 0) k ≡ s → (u : Bool) → ltb (length p - n) m ≡ u
        → cond {A = Result A ReadError} t (Err ShortHeader) (cond s (cond u (Err ShortBody) (Ok r)) (Err OtherKind)) ≡ Ok it
        → (octet p 0 ≡ k) × (n + m ≤ length p) × (r ≡ it)
    go true a s b u d e = cc
    go false a false b u d e = cc
    go false a true b true d e = cc
    go false a true b false d e =
        (eqb-true (octet p 0) k b, omega (arith, ltb-false (length p) n a, ltb-false (length p - n) m d), cc)

-- what a packet that was read as a command tells
pub record CommandTells (p : List ℕ) (it : Command) : Type 0 where
  pub kind : octet p 0 ≡ 1
  pub op : it.opcode ≡ word p 1
  pub long : it.len ≡ octet p 3
  pub present : 4 + it.len ≤ length p

pub command_tells : (p : List ℕ) {it : Command} → parse_command p ≡ Ok it → CommandTells p it
unfolding parse_command
command_tells p {it} e =
    let t = tests_passed p 4 1 (octet p 3) e in
    rw (← t.2) (record { kind = t.0; op = refl; long = refl; present = t.1 })

-- and as ACL data
pub record AclTells (p : List ℕ) (it : Acl) : Type 0 where
  pub kind : octet p 0 ≡ 2
  pub connection : it.handle ≡ word p 1 % 4096
  pub bounds : it.boundary ≡ word p 1 / 4096 % 4
  pub casts : it.broadcast ≡ word p 1 / 16384
  pub long : it.len ≡ word p 3
  pub present : 5 + it.len ≤ length p

pub acl_tells : (p : List ℕ) {it : Acl} → parse_acl p ≡ Ok it → AclTells p it
unfolding parse_acl
acl_tells p {it} e =
    let t = tests_passed p 5 2 (word p 3) e in
    rw (← t.2) (record { kind = t.0; connection = refl; bounds = refl; casts = refl; long = refl; present = t.1 })
