-- The operations on the links, as the rules of credits have them: what each does to the buffers that the claim reads. For the
-- proof of demand 3.
use Prim.Native.Nat.{ℕ}
use mathlib.Core.Bool.{not}
use mathlib.Core.Path.{◌≡◌, refl, ap, ◌∙◌}
use mathlib.Core.List.{List, [], ◌∷◌, ◌++◌, map}
use lib.Dec.{eqb}
use lib.ListN.{length, length-map}
use Rattle.lists.specs.Lists.{keep, taken}
use Rattle.lists.proofs.Tests.{any_map}
use Rattle.lists.proofs.Filter.{keep_map}
use Rattle.lists.proofs.Update.{map_update}
use Rattle.lists.proofs.Taking.{taken_map, leaving_map}
use Rattle.links.specs.declared.Connection.{Connection}
use Rattle.links.specs.Links.{Model, has_handle, packet_for, has, can_open, in_use, ended, opened_last, enqueued, taken_from}
use Rattle.links.specs.Links.{after_taking, settled, changed}
use Rattle.links.specs.Fields.{with_parameters, with_ltk_requested}
use Rattle.links.specs.Holding.{handle_of}
use Rattle.credits.specs.Credits as credits
use Rattle.credits.specs.Steps as steps
use Rattle.agreement.specs.Agreement.{owner_of}

-- what `buffers_of` reads of a state, of its links alone
abbrev pub buffers_in : Model → credits.Buffers
buffers_in m = record { handles = map handle_of m.connections; waiting = map owner_of m.queue; in_flight = m.in_flight }

-- ---- looking

pub has_handle_lem : (h : ℕ) (m : Model) → steps.has h (buffers_in m).handles ≡ has h m.connections
has_handle_lem h m = any_map handle_of (λ x. eqb x h) m.connections

pub in_use_lem : (m : Model) → credits.in_use (buffers_in m) ≡ in_use m
in_use_lem m = rw (length-map m.queue owner_of)

pub can_open_lem : (h : ℕ) (m : Model) → steps.can_open h (buffers_in m) ≡ can_open h m.connections
can_open_lem h m = rw (has_handle_lem h m, length-map m.connections handle_of)

pub given_follows : (h most : ℕ) (m : Model) → steps.given h most (buffers_in m) ≡ length (taken_from h most m)
unfolding taken_from
given_follows h most m =
    ap length (taken_map owner_of (packet_for h) (λ x. eqb x h) (λ p. refl) most m.queue)
    ∙ length-map (taken (packet_for h) most m.queue) owner_of

-- ---- changing

pub ended_follows : (h : ℕ) (m : Model) → buffers_in (ended h m) ≡ steps.ended h (buffers_in m)
unfolding ended
ended_follows h m = rw (
  keep_map handle_of (λ c. not (has_handle h c)) (λ x. not (eqb x h)) m.connections (λ c. refl),
  keep_map owner_of (λ p. not (packet_for h p)) (λ x. not (eqb x h)) m.queue (λ p. refl),
)

map_push : {A : Type 0} (f : A → ℕ) (l : List A) (a : A) → map f (l ++ (a ∷ [])) ≡ map f l ++ (f a ∷ [])
map_push f [] a = refl
map_push f (x ∷ l) a = ap (◌∷◌ (f x)) (map_push f l a)

pub opened_follows : (c : Connection) (m : Model) → buffers_in (opened_last c m) ≡ steps.opened c.handle (buffers_in m)
unfolding ended opened_last
opened_follows c m = rw (
  map_push handle_of (keep (λ x. not (has_handle c.handle x)) m.connections) c,
  keep_map handle_of (λ x. not (has_handle c.handle x)) (λ x. not (eqb x c.handle)) m.connections (λ x. refl),
  keep_map owner_of (λ p. not (packet_for c.handle p)) (λ x. not (eqb x c.handle)) m.queue (λ p. refl),
)

pub enqueued_follows : (h : ℕ) (octets : List ℕ) (m : Model) → buffers_in (enqueued h octets m) ≡ steps.queued h (buffers_in m)
unfolding enqueued
enqueued_follows h octets m = rw (map_push owner_of m.queue (record { handle = h; octets = octets }))

pub taken_follows : (h most : ℕ) (m : Model) → buffers_in (after_taking h most m) ≡ steps.after_take h most (buffers_in m)
unfolding after_taking
taken_follows h most m =
    rw (given_follows h most m, leaving_map owner_of (packet_for h) (λ x. eqb x h) (λ p. refl) most m.queue)

pub settled_follows : (n : ℕ) (m : Model) → buffers_in (settled n m) ≡ steps.settled n (buffers_in m)
unfolding settled
settled_follows n m = refl

-- a change of a connection that keeps its handle
pub changed_follows : (h : ℕ) (f : Connection → Connection) → ((c : Connection) → (f c).handle ≡ c.handle)
    → (m : Model) → buffers_in (changed h f m) ≡ buffers_in m
unfolding changed
changed_follows h f same m = rw (map_update (has_handle h) f handle_of m.connections (λ c e. same c))

pub parameters_follow : (h interval latency timeout : ℕ) (m : Model)
    → buffers_in (changed h (with_parameters interval latency timeout) m) ≡ buffers_in m
parameters_follow h interval latency timeout = changed_follows h (with_parameters interval latency timeout) (λ c. refl)

pub requested_follows : (h : ℕ) (requested : ℕ) (m : Model)
    → buffers_in (changed h (with_ltk_requested requested) m) ≡ buffers_in m
requested_follows h requested = changed_follows h (with_ltk_requested requested) (λ c. refl)
