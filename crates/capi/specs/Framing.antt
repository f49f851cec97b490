-- What framing tells, as C gets it: a kind (0 a packet, or packets; 1 too few octets to tell; 2 the indicator is not defined; 3
-- no room) and the numbers that go with it, 0 where none does. For readers of the contracts of wegrulsta_packet_length and
-- wegrulsta_stream_*.
use Rattle.std.specs.Prelude.{◌≡◌, ℕ, List, Option, Some, None, Result, Ok, Err}
use Rattle.h4.specs.declared.StreamError.{StreamError}
use Rattle.h4.specs.declared.StreamError.TheVariants.{Undefined, NoRoom}
use Rattle.h4.specs.declared.H4Stream.{H4Stream}
use Rattle.h4.specs.declared.UndefinedIndicator.{UndefinedIndicator}
use Rattle.h4.specs.Stream as h4
use Rattle.capi.specs.declared.stream.PacketLength.{PacketLength}
use Rattle.capi.specs.declared.stream.StreamFed.{StreamFed}

abbrev pub length_of : Result (Option ℕ) UndefinedIndicator → PacketLength
length_of (Ok (Some n)) = record { kind = 0; indicator = 0; len = n }
length_of (Ok None) = record { kind = 1; indicator = 0; len = 0 }
length_of (Err indicator) = record { kind = 2; indicator = indicator.0; len = 0 }

-- how many octets are packets is the stream's `ready`
abbrev pub fed_of : H4Stream → Result ℕ StreamError → StreamFed
fed_of stream (Ok n) = record { stream = stream; kind = 0; indicator = 0 }
fed_of stream (Err (Undefined indicator)) = record { stream = stream; kind = 2; indicator = indicator }
fed_of stream (Err NoRoom) = record { stream = stream; kind = 3; indicator = 0 }

-- what `H4Stream::feed` gives, in that form
pub record Feeds (s : H4Stream) (buffer bytes : List ℕ) (r : StreamFed) (after : List ℕ) : Type 0 where
  pub given : Result ℕ StreamError
  pub feeds : h4.Feeds s buffer bytes given r.stream after
  pub told : r ≡ fed_of r.stream given
