-- `filters::keys::key_of` meets its contract.
use Rattle.std.proofs.Common.{◌≤◌, length, rules, ℕ, Fits, w8}
use Rattle.octets.specs.Octets.{octet}
use Rattle.filters.proofs.keys.key_of.Goals as goal

pub returns-clause-octets : goal.returns-clause-octets
returns-clause-octets g c =
    let l = c.args.entry.now in
    let long : 7 ≤ length l = search rules in
    let below : (k : ℕ) → Fits w8 (octet c.octets_at.result k) = λ k. search rules in
    (long, λ k. rw (← c.octets_at.ensures) (below k).fits)
