-- `air::advertising::load_of` meets its contract.
use Rattle.std.proofs.Common.{rules, ◌≡◌, ◌≤◌, ◌<◌, ℕ, List, length, take, drop, refl, arith}
use Rattle.std.specs.Prelude.{Option, Some, None, MatchResult, ok_or}
use Rattle.std.specs.Slice.{IsGetRangeResult}
use lib.Seq.{take_all}
use denote.Ref.{Bor}
use Rattle.commands.specs.declared.error.ErrorCode.{ErrorCode}
use Rattle.air.proofs.advertising.load_of.Goals as goal

-- by whether there are so many octets
by_length : (rest : List ℕ) (n : ℕ) (found : Option (Bor (List ℕ))) (code : ErrorCode) → length rest ≡ 31
    → IsGetRangeResult rest 0 n found
    → MatchResult (ok_or found code) (λ load. (n ≤ 31) × (load.now ≡ take n rest)) (λ e. (31 < n) × (e ≡ code))
by_length rest n (Some load) code long found = (omega (arith, long, found.0.1), search rules)
by_length rest n None code long found = (omega (arith, long, found.0), refl)

pub returns : goal.returns
returns c =
    let long : length (drop 1 c.args.p.now) ≡ 31 = search rules in
    let part = rw (take_all 31 (drop 1 c.args.p.now) (omega (arith, long)), c.from.ensures) at c.get.ensures.lookup in
    rw c.ok_or.ensures.value (by_length _ _ c.get.result _ long part)
