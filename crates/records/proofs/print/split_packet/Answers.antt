-- `records::print::split_packet` meets its contract.
use mathlib.Core.Path.{sym, ap, ◌∙◌}
use Rattle.std.specs.Prelude.{Ok}
use Rattle.h4.proofs.Reading.{whole_more}
use Rattle.records.proofs.Printing.{whole_untold, told, split_whole}
use Rattle.records.proofs.print.split_packet.Goals as goal

pub returns-in_err-ok : goal.returns-in_err-ok
returns-in_err-ok c =
    rw c.from_residual.ensures (whole_untold _ _ c.h4_packet_len.ensures (sym c.ok.ensures.value ∙ c.in_err-ok.was))

pub returns-in_err-n : goal.returns-in_err-n
returns-in_err-n c =
    rw c.from_residual-in_err-n.ensures
    (whole_more _ (sym c.h4_packet_len.ensures ∙ told _ _ (sym c.ok.ensures.value ∙ c.in_ok-ok.was) ∙ ap Ok c.in_err-n.was))

pub returns : goal.returns
returns c =
    split_whole _ c.in_ok-n.n _ (λ p. p.0.now) (λ p. p.1.now)
    (sym c.h4_packet_len.ensures ∙ told _ _ (sym c.ok.ensures.value ∙ c.in_ok-ok.was) ∙ ap Ok c.in_ok-n.was)
    c.split_at_checked.ensures.cases
