-- `records::read::read_packet` meets its contract: after j turns the octets of the first j pairs stand in the buffer.
use Rattle.std.proofs.Common.{sym, ◌∙◌, arith}
use borrow.Author.Tests.{eqb-true, eqb-false}
use Rattle.records.proofs.Hex.{digit_yes, pair_high, pair_low, pairs_next, pairs_high, pairs_low, packet_odd, packet_long}
use Rattle.records.proofs.Hex.{packet_digit, packet_read}
use Rattle.records.proofs.read.read_packet.Goals.{then-not-is_empty-via-then-not-is_empty}
use Rattle.records.proofs.read.read_packet.Goals.{then-not-is_empty-via-else-not-is_empty+then-pairs-gt1024}
use Rattle.records.proofs.read.read_packet.Goals as goal

pub returns-then-not-is_empty : goal.returns-then-not-is_empty
returns-then-not-is_empty c =
    let back = c.as_chunks.ensures.back_len in
    let front = c.as_chunks.ensures.front_len in
    elim c.then-not-is_empty.branch [
      | then-not-is_empty-via-then-not-is_empty w ↦
          packet_odd _ (λ z. eqb-false _ _ (sym c.is_empty.ensures ∙ w.if-not-is_empty.true) (back ∙ z))
      | then-not-is_empty-via-else-not-is_empty+then-pairs-gt1024 w ↦ packet_long _ (omega (arith, w.if-pairs-gt1024.true))
    ]

pub returns-in_err-hex_value : goal.returns-in_err-hex_value
returns-in_err-hex_value c =
    let l = c.loop-j.invariant in
    let no = rw (pair_high c.args.rest.now c.loop-j.j c.as_chunks.ensures.front (omega arith)) at c.in_err-hex_value.ensures in
    rw c.from_residual.ensures (packet_digit _ (pairs_high l (omega arith) no))

pub overflow_mul-packet : goal.overflow_mul-packet
overflow_mul-packet c = let high = digit_yes _ c.in_ok-hex_value.ensures in omega (arith, high.1.1)

pub returns-in_err-packet : goal.returns-in_err-packet
returns-in_err-packet c =
    let l = c.loop-j.invariant in
    let no = rw (pair_low c.args.rest.now c.loop-j.j c.as_chunks.ensures.front (omega arith)) at c.in_err-packet.ensures in
    rw c.from_residual-in_err-packet.ensures (packet_digit _ (pairs_low l (omega arith) no))

pub overflow_add-packet : goal.overflow_add-packet
overflow_add-packet c =
    let high = digit_yes _ c.in_ok-hex_value.ensures in
    let low = digit_yes _ c.in_ok-packet.ensures in
    omega (arith, high.1.1, low.1.1)

pub loop-j-preserved : goal.loop-j-preserved
loop-j-preserved c =
    let f = c.args.rest.now in
    let e = c.as_chunks.ensures.front in
    let high = rw (pair_high f c.loop-j.j e (omega arith)) at c.in_ok-hex_value.ensures in
    let low = rw (pair_low f c.loop-j.j e (omega arith)) at c.in_ok-packet.ensures in
    pairs_next c.loop-j.invariant (omega arith) high low (omega arith)

pub returns : goal.returns
returns c =
    let even = sym c.as_chunks.ensures.back_len ∙ eqb-true _ _ (sym c.is_empty.ensures ∙ c.if-not-is_empty.false) in
    let half = c.as_chunks.ensures.front_len in
    rw half (packet_read _ c.loop-j.invariant even (omega arith) (omega arith))
