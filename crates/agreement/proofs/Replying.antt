-- What of an accepted packet is to be shown, in terms of the reply that its definition gives. For the proof of demand 3.
use Rattle.state.specs.State.{Model}
use Rattle.calls.specs.Packets.{Profile, Reply}
use Rattle.credits.specs.Credits as book
use Rattle.credits.specs.Steps.{Step, events}
use Rattle.agreement.specs.Agreement.{events_fed, limits_of}
use Rattle.agreement.proofs.ByDefinition.{seen}

-- a packet that the book takes for q, and its reply at m, follow a rule
abbrev pub ReplyFollows : Profile → book.Packet → Model → Reply → Type 0
ReplyFollows g q m r = Step (limits_of g) (book.Call.packet q) (seen m) (seen r.state) (events (events_fed r.octets))
