-- `controller::queries::wegrulsta_terminating` meets its contract.
use Rattle.std.specs.Prelude.{unwrap_or}
use Rattle.controller.proofs.Finding.{finds_told, numbered}
use Rattle.controller.proofs.queries.wegrulsta_terminating.Goals as goal

pub returns : goal.returns
returns c =
    rw (numbered _ c.number_of.ensures, c.unwrap_or-2.ensures, c.unwrap_or.ensures)
    (finds_told (λ o. unwrap_or o 0) _ _ _ _ _ _ c.terminating-found.ensures)
