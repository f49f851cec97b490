-- `filters::keys::place_of` meets its contract.
use Rattle.std.proofs.Common.{◌≡◌, length, eqb, refl, ◌∙◌, rules, tests}
use Rattle.std.proofs.lemmas.Iterator.{YieldsList-from_slice, YieldsList-from_map}
use Rattle.std.proofs.lemmas.Iterator.Search.{position_from_yields_List}
use Rattle.filters.specs.Filters.{has_identity}
use Rattle.filters.specs.Keys.{key_of, IsEntry}
use Rattle.filters.proofs.Flat.{place_within}
use Rattle.filters.proofs.Identities.{told, told_key, position_told}
use Rattle.filters.proofs.keys.place_of.Goals as goal

pub returns-clause-found : goal.returns-clause-found
returns-clause-found g c =
    let xs = c.args.entries.now in
    let identity = c.args.identity in
    let key = c.key_of-key in
    let is = key.ensures.octets in
    let seven : length identity ≡ 7 = search rules in
    position_from_yields_List (λ k. eqb k key.result) _ _ c.position.result c.position.ensures.ran
    (YieldsList-from_map _ (told identity) (YieldsList-from_slice xs cc) refl
    (λ x r q k.
    let number : r ≡ key_of x.now = search (rules, tests) in
    let entry : IsEntry x.now = search (rules, tests) in
    (refl, number ∙ told_key identity seven is x.now entry)))
    (λ x b q k. search (rules, tests)) ∙ position_told identity key.result key.ensures.number xs

pub returns-clause-within : goal.returns-clause-within
returns-clause-within g c =
    place_within (has_identity c.args.identity) c.args.entries.now c.position.result (returns-clause-found g c)
