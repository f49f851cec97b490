-- The state after a notice, from what the functions of the links ensure: a state with other links, and with advertising off. For
-- the functions of `notices`.
use mathlib.Core.Path.{◌≡◌, sym, ap, ◌∙◌}
use Prim.Native.Nat.{ℕ}
use mathlib.Core.List.{List}
use Rattle.profile.specs.declared.ControllerRow.{ControllerRow}
use Rattle.answers.specs.declared.Answer.{Answer}
use Rattle.answers.specs.Answers.{AnswerModel}
use Rattle.links.specs.declared.Links.{Links}
use Rattle.links.specs.Links as links
use Rattle.links.specs.Holding.{LinksHold}
use Rattle.state.specs.State.{Model, view}
use Rattle.state.specs.Holding.{StateHolds, place_size}
use Rattle.state.specs.declared.Advertising.{Advertising}
use Rattle.state.specs.declared.Controller.{Controller}
use Rattle.commands.specs.Parts.{with_links}
use Rattle.commands.specs.Put.{put_advertising, put_links}
use Rattle.commands.specs.Outcome.{Outcome, outcome, Answers, Gives}
use Rattle.commands.proofs.Giving.{gives_answer, holds_advertising, holds_links}

-- u is the state s, or s with another part; its links changed by g to r, which hold
pub gives_links : {f : Model → Outcome} {k : ControllerRow} {s u : Controller} {r : Links} {expected : AnswerModel} {a : Answer}
    (g : links.Model → links.Model) → ((size : ℕ) (pool : List ℕ) → links.view r size pool ≡ g (links.view u.links size pool))
    → LinksHold r k.acl_count (place_size k) → Answers expected a
    → ((size : ℕ) (pool : List ℕ)
    → f (view s size pool) ≡ outcome expected (with_links (g (view u size pool).links) (view u size pool)))
    → StateHolds u k → Gives f k s (put_links r u) a
gives_links {u = u} {expected = expected} g viewed part answers same held =
    gives_answer answers
    (λ size pool. same size pool ∙ ap (λ (y : links.Model). outcome expected (with_links y (view u size pool)))
    (sym (viewed size pool)))
    (holds_links held part)

-- advertising off
abbrev pub advertising_off : Controller → Advertising
advertising_off s = record {
  params = s.advertising.params;
  «data» = s.advertising.«data»;
  data_len = s.advertising.data_len;
  scan_response = s.advertising.scan_response;
  scan_response_len = s.advertising.scan_response_len;
  enabled = 0;
}

pub off_holds : {s : Controller} {k : ControllerRow} → StateHolds s k → StateHolds (put_advertising (advertising_off s) s) k
off_holds held =
    holds_advertising held (record { short_data = held.advertising.short_data; short_response = held.advertising.short_response })
