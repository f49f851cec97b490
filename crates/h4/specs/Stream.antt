-- A stream of octets framed into packets over a lent buffer: what feeding it answers and leaves. For callers of H4Stream.
-- The buffer's first `ready` octets are the packets of the last feed, end to end; the next `held` octets belong to no
-- whole packet yet.
use Rattle.std.specs.Prelude.{◌≡◌, ℕ, ◌+◌, ◌-◌, List, [], ◌∷◌, ◌++◌, Result, Ok, Err, Bool, cond, ◌&&◌, length}
use Rattle.std.specs.Prelude.{take, drop, leb, is_err}
use Rattle.octets.specs.Octets.{splice}
use Rattle.h4.specs.Framing.{packets, rest, framed}
use Rattle.h4.specs.declared.H4Stream.{H4Stream}
use Rattle.h4.specs.declared.UndefinedIndicator.{UndefinedIndicator}
use Rattle.h4.specs.declared.StreamError.{StreamError}
use Rattle.h4.specs.declared.StreamError.TheVariants.{Undefined, NoRoom}

-- the octets that wait for the rest of their packet
abbrev pub held_octets : H4Stream → List ℕ → List ℕ
held_octets s buffer = take s.held (drop s.ready buffer)

-- the buffer holds what the stream says is in it, and it holds the octets that wait with the new ones behind them
abbrev pub fits : H4Stream → List ℕ → List ℕ → Bool
fits s buffer bytes = leb (s.ready + s.held) (length buffer) && leb (s.held + length bytes) (length buffer)

-- the stream after framing so many octets at the front of its buffer; where framing is lost all of them stay held
abbrev pub stream_of : Result ℕ UndefinedIndicator → ℕ → H4Stream
stream_of (Ok n) count = record { ready = n; held = count - n }
stream_of (Err indicator) count = record { ready = 0; held = count }

-- an indicator that is not defined, and what framing gives, as a stream answers them
abbrev pub stream_error : UndefinedIndicator → StreamError
stream_error indicator = Undefined indicator.0

abbrev pub told : Result ℕ UndefinedIndicator → Result ℕ StreamError
told (Ok n) = Ok n
told (Err indicator) = Err (stream_error indicator)

-- What H4Stream::feed answers, and the stream and the buffer after it. Where there is no room it says so and changes nothing.
-- That answer has no number: document 01's numbers are for the controller's calls and the HCI writers, each for its own cause
-- alone
pub record Feeds (s : H4Stream) (buffer bytes : List ℕ) (answer : Result ℕ StreamError) (t : H4Stream) (after : List ℕ)
    : Type 0 where
  pub answers : answer ≡ cond (fits s buffer bytes) (told (framed (held_octets s buffer ++ bytes))) (Err NoRoom)
  pub stream : t
      ≡ cond (fits s buffer bytes) (stream_of (framed (held_octets s buffer ++ bytes)) (length (held_octets s buffer ++ bytes))) s
  pub leaves : after ≡ cond (fits s buffer bytes) (splice buffer 0 (held_octets s buffer ++ bytes)) buffer

-- Feeding as a host sees it, octets alone: what is handed out, and what then waits

-- framing is lost where an undefined indicator follows the whole packets
abbrev pub lost : List ℕ → Bool
lost p = is_err (framed p)

-- the packets handed out when bytes are fed to a stream in which p waits; none where framing is lost
unfoldable pub handed_out : List ℕ → List ℕ → List (List ℕ)
handed_out p bytes = cond (lost (p ++ bytes)) [] (packets (p ++ bytes))

-- what waits after it
unfoldable pub waiting : List ℕ → List ℕ → List ℕ
waiting p bytes = cond (lost (p ++ bytes)) (p ++ bytes) (rest (p ++ bytes))

-- the same for a list of pieces fed one after the other
unfoldable pub handed_out_all : List ℕ → List (List ℕ) → List (List ℕ)
handed_out_all p [] = []
handed_out_all p (bytes ∷ more) = handed_out p bytes ++ handed_out_all (waiting p bytes) more

unfoldable pub waiting_all : List ℕ → List (List ℕ) → List ℕ
waiting_all p [] = p
waiting_all p (bytes ∷ more) = waiting_all (waiting p bytes) more

-- a caller's feeds, one piece after the other, each of which finds room: the packets that all of them hand out, and the
-- stream and the buffer after them
abbrev pub FeedsAll : H4Stream → List ℕ → List (List ℕ) → List (List ℕ) → H4Stream → List ℕ → Type 0
FeedsAll s buffer [] out t after = (out ≡ []) × (t ≡ s) × (after ≡ buffer)
FeedsAll s buffer (bytes ∷ more) out t after =
    (answer : Result ℕ StreamError) × (r : H4Stream) × (mid : List ℕ) × (later : List (List ℕ))
    × Feeds s buffer bytes answer r mid × (answer ≡ Err NoRoom → ⊥)
    × (out ≡ packets (take r.ready mid) ++ later) × FeedsAll r mid more later t after
