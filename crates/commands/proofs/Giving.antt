-- From what a command's functions ensure to what the table asks: an answer that is the definition's, alone and beside the state
-- after the command; and that the state holds together with its new part. For the crates of the commands.
use mathlib.Core.Path.{◌≡◌, sym, ap, ◌∙◌}
use Prim.Native.Nat.{ℕ, ◌≤◌}
use mathlib.Core.List.{List}
use Rattle.std.proofs.Common.{rules}
use Rattle.profile.specs.declared.ControllerRow.{ControllerRow}
use Rattle.answers.specs.declared.Answer.{Answer}
use Rattle.answers.specs.Answers.{AnswerModel, followed}
use Rattle.filters.specs.declared.accept.AcceptList.{AcceptList}
use Rattle.filters.specs.declared.resolving.ResolvingList.{ResolvingList}
use Rattle.links.specs.declared.Connection.{Connection}
use Rattle.links.specs.declared.Links.{Links}
use Rattle.links.specs.Links as links
use Rattle.links.specs.Holding.{LinksHold}
use Rattle.links.specs.Change.{Changes}
use Rattle.links.proofs.Keeping.{changed_holds}
use Rattle.state.specs.State.{Model, view}
use Rattle.state.specs.Holding.{StateHolds, SettingsHold, AdvertisingHolds, AcceptHolds, ResolvingHolds, place_size}
use Rattle.state.specs.declared.Settings.{Settings}
use Rattle.state.specs.declared.Advertising.{Advertising}
use Rattle.state.specs.declared.Counters.{Counters}
use Rattle.state.specs.declared.Recent.{Recent}
use Rattle.state.specs.declared.Controller.{Controller}
use Rattle.commands.specs.Parts.{with_links}
use Rattle.commands.specs.Put.{put_settings, put_advertising, put_accept_list}
use Rattle.commands.specs.Put.{put_resolving_list, put_links, put_counters, put_recent}
use Rattle.commands.specs.Outcome.{Outcome, outcome, Answers, Gives}
use Rattle.commands.specs.Refused.{GivesStatus}

-- ---- an answer alone

-- with an event behind it
pub answered_then : {octets : List ℕ} {expected a b : AnswerModel} → b ≡ followed octets a → a ≡ expected
    → b ≡ followed octets expected
answered_then {octets} f e = f ∙ ap (followed octets) e

-- ---- the state with a new part holds together, where the part does
module _ {s : Controller} {k : ControllerRow} (h : StateHolds s k) where
  pub holds_settings : {x : Settings} → SettingsHold x → StateHolds (put_settings x s) k
  holds_settings part = search rules

  pub holds_advertising : {x : Advertising} → AdvertisingHolds x → StateHolds (put_advertising x s) k
  holds_advertising part = search rules

  pub holds_accept_list : {x : AcceptList} → AcceptHolds x k.accept_list_size → StateHolds (put_accept_list x s) k
  holds_accept_list part = search rules

  pub holds_resolving_list : {x : ResolvingList} → ResolvingHolds x k.resolving_list_size → StateHolds (put_resolving_list x s) k
  holds_resolving_list part = search rules

  pub holds_links : {x : Links} → LinksHold x k.acl_count (place_size k) → StateHolds (put_links x s) k
  holds_links part = search rules

  pub holds_counters : (x : Counters) → StateHolds (put_counters x s) k
  holds_counters x = search rules

  pub holds_recent : {x : Recent} → x.count ≤ 32 → StateHolds (put_recent x s) k
  holds_recent part = search rules

-- ---- an answer beside the state after the command

module _ {f : Model → Outcome} {k : ControllerRow} {s : Controller} where
  -- the state t and the answer are those of the definition f
  pub gives_answer : {t : Controller} {expected : AnswerModel} {a : Answer} → Answers expected a
      → ((size : ℕ) (pool : List ℕ) → f (view s size pool) ≡ outcome expected (view t size pool)) → StateHolds t k
      → Gives f k s t a
  gives_answer {t} e same held = record {
    viewed = λ size pool. ap (λ (x : AnswerModel). outcome x (view t size pool)) e ∙ sym (same size pool);
    held = held;
  }

  -- the connection of handle h changed by g, which keeps its handle
  pub gives_changed : {r : Links} {expected : AnswerModel} {a : Answer} (h : ℕ) (g : Connection → Connection)
      → ((c : Connection) → (g c).handle ≡ c.handle) → Changes h g s.links r → Answers expected a
      → ((size : ℕ) (pool : List ℕ)
      → f (view s size pool) ≡ outcome expected (with_links (links.changed h g (view s size pool).links) (view s size pool)))
      → StateHolds s k → Gives f k s (put_links r s) a
  gives_changed {r} {expected} h g keeps x answers same held =
      gives_answer answers
      (λ size pool. same size pool
      ∙ ap (λ (y : links.Model). outcome expected (with_links y (view s size pool))) (sym (x.viewed size pool)))
      (holds_links held (changed_holds s.links held.links h g keeps x))

  -- a part y of the state, given as x, that `put` puts back; where it is the part that s has, nothing changed
  pub gives_part : {A : Type 0} (put : A → Controller → Controller) {x y : A} {expected : AnswerModel} {a : Answer}
      → (x ≡ y) × Answers expected a
      → ((size : ℕ) (pool : List ℕ) → f (view s size pool) ≡ outcome expected (view (put y s) size pool)) → StateHolds (put y s) k
      → Gives f k s (put x s) a
  gives_part put e same held = rw e.0 (gives_answer e.1 same held)

  -- a definition g that says of the state u what f says of s
  pub gives_as : {g : Model → Outcome} {u t : Controller} {a : Answer} → Gives f k s t a
      → ((size : ℕ) (pool : List ℕ) → f (view s size pool) ≡ g (view u size pool)) → Gives g k u t a
  gives_as h same = record { viewed = λ size pool. h.viewed size pool ∙ same size pool; held = h.held }

-- ---- the status of a command that may be refused, beside the state after it

module _ {form : ℕ → AnswerModel} {f : Model → Outcome} {k : ControllerRow} {s : Controller} {code : ℕ} where
  -- the definition f says so
  pub gives_status : {t : Controller}
      → ((size : ℕ) (pool : List ℕ) → f (view s size pool) ≡ outcome (form code) (view t size pool)) → StateHolds t k
      → GivesStatus form f k s t code
  gives_status same held = record { viewed = λ size pool. sym (same size pool); held = held }

  -- the connection of handle h changed by g, which keeps its handle
  pub gives_status_changed : {r : Links} (h : ℕ) (g : Connection → Connection)
      → ((c : Connection) → (g c).handle ≡ c.handle) → Changes h g s.links r
      → ((size : ℕ) (pool : List ℕ)
      → f (view s size pool) ≡ outcome (form code) (with_links (links.changed h g (view s size pool).links) (view s size pool)))
      → StateHolds s k → GivesStatus form f k s (put_links r s) code
  gives_status_changed h g keeps x same held =
      gives_status
      (λ size pool. same size pool
      ∙ ap (λ (y : links.Model). outcome (form code) (with_links y (view s size pool))) (sym (x.viewed size pool)))
      (holds_links held (changed_holds s.links held.links h g keeps x))
