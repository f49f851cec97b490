-- What the book reads of octets that are one event, or one and another behind it. For the proof of demand 3.
use Prim.Native.Nat.{ℕ}
use mathlib.Core.Path.{◌≡◌, refl, sym, ap, ◌∙◌}
use mathlib.Core.List.{List, [], ◌∷◌, ◌++◌, map, flatten, append-nil}
use Rattle.hci.specs.Packet.{event}
use Rattle.h4.specs.Framing.{packets, ArePackets}
use Rattle.h4.proofs.Splitting.{packets_flattened}
use Rattle.hci.proofs.Split.{event_packet}
use Rattle.credits.specs.Credits as book
use Rattle.agreement.specs.Agreement.{event_fed, events_fed}

-- whole packets end to end are read one by one
fed_packets : (octets : List ℕ) (ps : List (List ℕ)) → ArePackets ps → flatten ps ≡ octets
    → events_fed octets ≡ flatten (map event_fed ps)
fed_packets octets ps are same =
    ap (λ (l : List (List ℕ)). flatten (map event_fed l)) (ap packets (sym same) ∙ packets_flattened ps are)

-- no octets, no events
pub fed_nothing : events_fed [] ≡ []
unfolding flatten
fed_nothing = fed_packets [] [] tt refl

-- one event
pub fed_one : (code : ℕ) (params : List ℕ) → events_fed (event code params) ≡ event_fed (event code params)
unfolding flatten
fed_one code params =
    let e : List ℕ = event code params in
    fed_packets e (e ∷ []) (event_packet code params, tt) (append-nil e) ∙ append-nil (event_fed e)

-- an event, and another behind it
pub fed_two : (code : ℕ) (params : List ℕ) (code' : ℕ) (params' : List ℕ)
    → events_fed (event code params ++ event code' params') ≡ event_fed (event code params) ++ event_fed (event code' params')
unfolding flatten
fed_two code params code' params' =
    let e : List ℕ = event code params in
    let f : List ℕ = event code' params' in
    fed_packets (e ++ f) (e ∷ f ∷ []) (event_packet code params, (event_packet code' params', tt))
    (ap (λ (r : List ℕ). e ++ r) (append-nil f))
    ∙ ap (λ (r : List book.Event). event_fed e ++ r) (append-nil (event_fed f))
