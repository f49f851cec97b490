-- `transmit::lowest_free` meets its contract.
use Rattle.std.proofs.Common.{◌≡◌, ℕ, Option, length, ap, ◌∙◌, rules, tests}
use Rattle.std.specs.List.{position}
use Rattle.std.proofs.lemmas.Iterator.{YieldsList-from_slice}
use Rattle.std.proofs.lemmas.Iterator.Search.{position_from_yields_List}
use Rattle.std.specs.Option.{unwrap_or}
use Rattle.lists.proofs.Search.{position_or}
use Rattle.transmit.specs.Steps.{is_free}
use Rattle.transmit.proofs.lowest_free.Goals as goal

pub returns : goal.returns
returns c =
    let owned = c.args.owned.now in
    let found : c.position.result ≡ position is_free owned =
    position_from_yields_List is_free _ _ c.position.result c.position.ensures.ran (YieldsList-from_slice owned (cc))
    (λ x b q k. search (rules, tests)) in
    c.unwrap_or.ensures ∙ ap (λ (o : Option ℕ). unwrap_or o (length owned)) found ∙ position_or is_free owned
