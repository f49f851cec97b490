-- `records::print::Text::push_packet` meets its contract.
use mathlib.Core.List.{[], ◌∷◌}
use native.Mathlib.Omega.{arith}
use Rattle.records.specs.Text.{text_of}
use Rattle.records.proofs.Printing.{newline_fits}
use Rattle.records.proofs.print.Text.push_packet.Goals as goal

pub push-requires-2 : goal.push-requires-2
push-requires-2 c =
    newline_fits (text_of c.args.self.now) (c.args.letter ∷ 9 ∷ []) c.args.packet.now c.push.ensures c.push_hex.ensures
    (omega arith)
