-- `records::print::Text::push_hex` meets its contract: the octets before the index are pushed.
use native.Mathlib.Omega.{arith}
use Rattle.records.specs.Text.{text_of}
use Rattle.records.proofs.Printing.{hex_begin, hex_room, hex_turn, hex_end}
use Rattle.records.proofs.print.Text.push_hex.Goals as goal

pub loop-x-init : goal.loop-x-init
loop-x-init c = hex_begin (text_of c.args.self.now) c.args.octets.now

pub push-requires : goal.push-requires
push-requires c = hex_room _ _ _ c.loop-x-test.true c.loop-x.invariant c.requires

pub loop-x-preserved : goal.loop-x-preserved
loop-x-preserved c =
    hex_turn _ _ _ c.loop-x-test.true c.loop-x.invariant
    (rw (c.hex_digit.ensures, c.hex_digit-in-loop-x.ensures) at c.push.ensures)

pub returns : goal.returns
returns c = hex_end _ _ _ (omega arith) c.loop-x.invariant
