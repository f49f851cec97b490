-- What a command leaves: the building blocks. The events behind an answer, the answers, an outcome that changes no link and no
-- mask, one that changes a connection but not its handle, and the tests and cases that definitions are made of. For the laws of
-- each family.
use Rattle.std.specs.Prelude.{Option, Some, None}
use mathlib.Core.Path.{◌≡◌, refl, ◌∙◌}
use Prim.Native.Nat.{ℕ, ◌≤◌}
use native.Mathlib.Omega.{arith}
use mathlib.Core.List.{List, [], ◌∷◌}
use mathlib.Core.Logic.{inl, inr}
use mathlib.Core.Bool.{Bool, true, false, cond}
use lib.Dec.{lit≤}
use lib.ListN.{length}
use Rattle.hci.specs.Packet.{event, meta_params}
use Rattle.lists.proofs.Update.{map_update}
use Rattle.answers.specs.Answers.{AnswerModel, complete, status, silent, followed}
use Rattle.links.specs.declared.Connection.{Connection}
use Rattle.links.specs.Links.{changed, has_handle}
use Rattle.links.specs.Holding.{handle_of}
use Rattle.state.specs.State.{Model, le_event_enabled}
use Rattle.state.specs.declared.Masks.{Masks}
use Rattle.commands.specs.Parts.{with_links}
use Rattle.commands.specs.Outcome.{Outcome, outcome, done, done_handle, at_link}
use Rattle.commands.specs.Following.{le_meta_event, remote_version_complete, encryption_change}
use Rattle.commands.specs.Following.{update_complete, connection_complete, connection_failed}
use Rattle.commands.specs.Leaves.{Follows, follows_code, Modest, Leaves}

-- ---- events that follow

-- what may stand behind an answer: one event at most, within the 37 octets that an answer has for it
pub record Behind (octets : List ℕ) : Type 0 where
  pub short : length octets ≤ 37
  pub follows : Follows octets

pub no_event : Behind []
no_event = record { short = omega arith; follows = inl refl }

pub one_event : (code : ℕ) (params : List ℕ) → follows_code code ≡ true → length params ≤ 34 → Behind (event code params)
one_event code params allowed h = record {
  short = omega arith;
  follows = inr (record { code = code; params = params; allowed = allowed; short = omega arith; same = refl });
}

pub behind_cond : (b : Bool) {x y : List ℕ} → Behind x → Behind y → Behind (cond b x y)
behind_cond true h k = h
behind_cond false h k = k

pub le_behind : (masks : Masks) (subevent : ℕ) (params : List ℕ) → length params ≤ 33
    → Behind (le_meta_event masks subevent params)
unfolding le_meta_event
le_behind masks subevent params h =
    behind_cond (le_event_enabled masks subevent) (one_event 0x3E (meta_params subevent params) refl (omega arith)) no_event

pub version_behind : (masks : Masks) (params : List ℕ) → length params ≤ 34 → Behind (remote_version_complete masks params)
unfolding remote_version_complete
version_behind masks params h = search (behind_cond, one_event, no_event)

pub encryption_behind : (masks : Masks) (handle : ℕ) → Behind (encryption_change masks handle)
unfolding encryption_change
encryption_behind masks handle = search (behind_cond, one_event, lit≤, tt, no_event)

pub update_behind : (masks : Masks) (handle interval latency timeout : ℕ)
    → Behind (update_complete masks handle interval latency timeout)
update_behind masks handle interval latency timeout = le_behind masks 0x03 _ (omega arith)

pub failed_behind : (masks : Masks) (code : ℕ) → Behind (connection_failed masks code)
unfolding connection_failed connection_complete
failed_behind masks code = search (behind_cond, one_event, le_behind, lit≤, tt)

-- ---- answers

pub completes : (octets : List ℕ) → length octets ≤ 65 → Modest (complete octets)
completes octets h = record { short = omega arith; told = omega arith; follows = inl refl }

pub one_done : (code : ℕ) → Modest (done code)
one_done code = completes (code ∷ []) (omega arith)

pub one_handle : (code handle : ℕ) → Modest (done_handle code handle)
one_handle code handle = completes _ (omega arith)

pub one_status : (code : ℕ) → Modest (status code)
one_status code = record { short = omega arith; told = omega arith; follows = inl refl }

pub no_answer : Modest silent
no_answer = record { short = omega arith; told = omega arith; follows = inl refl }

-- with an event behind it
pub then_event : {octets : List ℕ} {a : AnswerModel} → Behind octets → Modest a → length a.octets ≤ 28
    → Modest (followed octets a)
then_event b h few = record { short = omega (arith, b.short); told = h.told; follows = b.follows }

-- a test, and the cases of a handle
pub modest_cond : (b : Bool) {x y : AnswerModel} → Modest x → Modest y → Modest (cond b x y)
modest_cond true h k = h
modest_cond false h k = k

pub modest_link : (f : Option Connection) {none : AnswerModel} {some : Connection → AnswerModel} → Modest none
    → ((c : Connection) → Modest (some c)) → Modest (at_link f none some)
modest_link None h k = h
modest_link (Some c) h k = k c

-- ---- outcomes

module _ {s : Bool} {m : Model} where
  -- nothing changed
  pub same_state : {a : AnswerModel} → Modest a → Leaves s m (outcome a m)
  same_state h = record { handles = refl; queue = refl; flying = refl; mask = λ e. refl; answer = h }

  -- what changes before or after is neither a link nor the event mask
  pub leaves_before : {n : Model} {o : Outcome} → n.links ≡ m.links → n.masks.event ≡ m.masks.event → Leaves s n o → Leaves s m o
  leaves_before links mask h = record {
    handles = rw links at h.handles;
    queue = rw links at h.queue;
    flying = rw links at h.flying;
    mask = λ e. h.mask e ∙ mask;
    answer = h.answer;
  }

  pub leaves_after : {o : Outcome} {n : Model} → n.links ≡ o.state.links → n.masks.event ≡ o.state.masks.event → Leaves s m o
      → Leaves s m (outcome o.answer n)
  leaves_after links mask h = record {
    handles = rw links h.handles;
    queue = rw links h.queue;
    flying = rw links h.flying;
    mask = λ e. mask ∙ h.mask e;
    answer = h.answer;
  }

  pub leaves_kept : {a : AnswerModel} {n : Model} → n.links ≡ m.links → n.masks.event ≡ m.masks.event → Modest a
      → Leaves s m (outcome a n)
  leaves_kept links mask modest = leaves_after links mask (same_state modest)

  -- where more may set the mask
  pub leaves_weaker : {t : Bool} {o : Outcome} → (s ≡ false → t ≡ false) → Leaves t m o → Leaves s m o
  leaves_weaker less h =
      record { handles = h.handles; queue = h.queue; flying = h.flying; mask = λ e. h.mask (less e); answer = h.answer }

  -- a test, and the cases of a handle
  pub leaves_cond : (b : Bool) {x y : Outcome} → Leaves s m x → Leaves s m y → Leaves s m (cond b x y)
  leaves_cond true h k = h
  leaves_cond false h k = k

  pub leaves_link : (f : Option Connection) {none : Outcome} {some : Connection → Outcome} → Leaves s m none
      → ((c : Connection) → Leaves s m (some c)) → Leaves s m (at_link f none some)
  leaves_link None h k = h
  leaves_link (Some c) h k = k c

  -- one connection changed, its handle kept
  pub leaves_changed : {a : AnswerModel} (h : ℕ) (f : Connection → Connection) → ((c : Connection) → (f c).handle ≡ c.handle)
      → Modest a → Leaves s m (outcome a (with_links (changed h f m.links) m))
  unfolding changed
  leaves_changed h f keeps modest = record {
    handles = map_update (has_handle h) f handle_of m.links.connections (λ c e. keeps c);
    queue = refl;
    flying = refl;
    mask = λ e. refl;
    answer = modest;
  }

-- ---- what `search` proves a command's law from: these, that a length computes, and that a part computes to itself
pub ruleset leaving = (
  leaves_cond,
  leaves_link,
  same_state,
  leaves_kept,
  leaves_changed,
  modest_cond,
  modest_link,
  one_done,
  one_status,
  one_handle,
  no_answer,
  completes,
  then_event,
  le_behind,
  version_behind,
  encryption_behind,
  update_behind,
  failed_behind,
  behind_cond,
  no_event,
  lit≤,
  tt,
)
