-- What a writer's answer says of the octets that it put into the buffer, for the proofs of the writers and of those who
-- call them.
use Rattle.std.specs.Prelude.{Result, Ok}
use mathlib.Core.Path.{◌≡◌, ◌∙◌, sym}
use Prim.Native.Nat.{ℕ, ◌≤◌}
use mathlib.Core.List.{List}
use lib.ListN.{length}
use native.Mathlib.Omega.{arith}
use borrow.Author.Tests.{le-leb}
use Rattle.octets.specs.Octets.{Put}
use Rattle.octets.proofs.Writing.{splice_front}
use Rattle.hci.specs.Write.{Wrote, count, refusal}
use Rattle.hci.specs.declared.write.WriteError.{WriteError}

-- written
pub written : {n most : ℕ} {packet out : List ℕ} {k : ℕ} {after : List ℕ} → n ≤ most → Put out 0 packet k after
    → Wrote n most packet out (Ok k) after
unfolding refusal
written {n} {most} {packet} {out} {k} f p =
    let h : length packet ≤ length out = omega (arith, p.room) in
    let e : k ≡ length packet = omega (arith, p.next) in
    record {
      numbered = simp (le-leb n most f, le-leb (length packet) (length out) h);
      counted = simp (le-leb n most f, le-leb (length packet) (length out) h) e;
      leaves = simp (le-leb n most f, le-leb (length packet) (length out) h) (p.leaves ∙ splice_front out packet);
    }

-- and back: what no question refuses was written
pub wrote_put : {n most : ℕ} {packet out : List ℕ} {r : Result ℕ WriteError} {after : List ℕ}
    → Wrote n most packet out r after → n ≤ most → length packet ≤ length out
    → Put out 0 packet (count r) after
unfolding refusal
wrote_put {n} {most} {packet} {out} {r} w f h =
    let e : count r ≡ length packet = w.counted ∙ simp (le-leb n most f, le-leb (length packet) (length out) h) in
    record {
      room = omega arith;
      next = omega arith;
      leaves = w.leaves ∙ simp (le-leb n most f, le-leb (length packet) (length out) h) (sym (splice_front out packet));
    }
