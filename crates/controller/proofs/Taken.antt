-- What `take_transmit` promises, from what `transmit::take` gives: the pool and the links as it wants them where questions 1, 3
-- and 4 have the answer "yes", and the call's contract where one of them or question 7 has "no" and where none has. For `taking`.
use mathlib.Core.Path.{◌≡◌, refl, sym, ap, ◌∙◌}
use Prim.Native.Nat.{ℕ, ◌*◌}
use mathlib.Core.List.{List, [], ◌∷◌}
use mathlib.Core.Bool.{Bool, false}
use native.Mathlib.Omega.{arith}
use lib.Dec.{leb}
use lib.ListN.{length}
use borrow.Author.Tests.{leb-true}
use Rattle.profile.specs.declared.ControllerRow.{ControllerRow}
use Rattle.profile.specs.Profile.{within_limits}
use Rattle.profile.proofs.Limits.{within_limits_lem}
use Rattle.links.specs.Links as links
use Rattle.transmit.specs.Transmit.{PoolFits, with_taken, Took, taken_octets, room_for}
use Rattle.transmit.specs.declared.Taken.{Taken}
use Rattle.state.specs.State.{view}
use Rattle.state.specs.Holding.{state_holds, place_size}
use Rattle.state.specs.declared.Controller.{Controller}
use Rattle.commands.specs.Parts.{with_links}
use Rattle.commands.specs.Put.{put_links}
use Rattle.commands.proofs.Giving.{holds_links}
use Rattle.calls.specs.Calls.{first_no, take_transmit, held}
use Rattle.calls.specs.Gives.{GivesAnyRows, packets}
use Rattle.controller.specs.declared.refusal.Refusal.{Refusal}
use Rattle.controller.specs.Asked.{number_of, question, about_pool}
use Rattle.controller.proofs.Asking.{some, more_refused, pool_asked}

-- questions 1, 3 and 4 answered "yes": the links and the pool are as `take` wants them
pub take_fits : (k : ControllerRow) (s : Controller) (pool : List ℕ) {held_yes : Bool} → held_yes ≡ state_holds s k
    → 0 ≡ about_pool k held_yes (length pool) → PoolFits s.links (place_size k) k.acl_count pool
take_fits k s pool same e =
    let asked = pool_asked k s (length pool) same e in
    let limits = within_limits_lem k asked.0.limits in
    record {
      held = asked.0.held.links;
      most = limits.most_count;
      small = omega (arith, limits.most_len);
      room = leb-true (k.acl_count * place_size k) (length pool) asked.1;
    }

module _ {k : ControllerRow} {s : Controller} {pool : List ℕ} {held_yes : Bool} (same : held_yes ≡ state_holds s k) where
  module _ {handle most : ℕ} {out : List ℕ} where
    -- one of them has the answer "no"
    pub take_not : {t : Controller} {number written count : ℕ} (refusal : Refusal)
        → number_of refusal ≡ about_pool k held_yes (length pool)
        → (number ≡ number_of refusal) × (t ≡ s) × (count ≡ 0) × (written ≡ 0)
        → GivesAnyRows k (take_transmit handle most) (held s pool) (held t pool) (packets number written count out out)
    take_not refusal e gave = λ opcodes answers bits. record {
      number =
          gave.0
          ∙ more_refused refusal
          (question 1 (within_limits k) ∷ question 3 (state_holds s k)
          ∷ question 4 (leb (k.acl_count * place_size k) (length pool)) ∷ [])
          (question 7 (room_for handle most (links.view s.links (place_size k) pool) out) ∷ []) (rw same at e);
      refused = λ p. record { same = ap (λ (x : Controller). held x pool) gave.1; buffer = refl; nothing = (gave.3, gave.2) };
      accepted = λ z. absurd (some refusal (sym gave.0 ∙ z));
    }

    module _ {after : List ℕ} (e : 0 ≡ about_pool k held_yes (length pool)) where
      -- question 7 has the answer "no"
      pub take_no_room : {t : Controller} {number written count : ℕ}
          → (room_for handle most (links.view s.links (place_size k) pool) out ≡ false) × (after ≡ out)
          → (number ≡ 7) × (t ≡ s) × (count ≡ 0) × (written ≡ 0)
          → GivesAnyRows k (take_transmit handle most) (held s pool) (held t pool) (packets number written count out after)
      unfolding first_no
      take_no_room short gave =
          let asked = pool_asked k s (length pool) same e in
          λ opcodes answers bits. record {
            number = rw (asked.0.limits, asked.0.together, asked.1, short.0) gave.0;
            refused = λ p. record {
              same = ap (λ (x : Controller). held x pool) gave.1;
              buffer = short.1;
              nothing = (gave.3, gave.2);
            };
            accepted = λ zero. absurd (omega (arith, gave.0));
          }

      -- all have "yes": the packets, and the links without them
      pub take_gives : {r : Taken} → Took s.links (place_size k) k.acl_count handle most pool out r after
          → GivesAnyRows k (take_transmit handle most) (held s pool) (held (put_links (with_taken r s.links) s) pool)
          (packets 0 r.len r.count out after)
      unfolding first_no
      take_gives {r} took =
          let asked = pool_asked k s (length pool) same e in
          let octets = taken_octets handle most (links.view s.links (place_size k) pool) in
          let room = leb-true (length octets) (length out) took.asked in
          λ opcodes answers bits. record {
            number = rw (asked.0.limits, asked.0.together, asked.1, took.asked);
            refused = λ p. absurd (omega arith);
            accepted = λ zero. record {
              viewed = ap (λ (x : links.Model). with_links x (view s (place_size k) pool)) took.viewed;
              written = record {
                room = omega (arith, room, took.measured);
                next = omega (arith, took.measured);
                leaves = took.written;
              };
              counted = took.counted;
              together = holds_links asked.0.held took.held;
              pool = refl;
            };
          }
