-- What is to be shown of one accepted call: that it follows a rule of `Rattle.credits.specs.Steps`. For the proof of demand 3.
use mathlib.Core.Bool.{Bool}
use Rattle.state.specs.Holding.{StateHolds}
use Rattle.commands.specs.Following.{enabled_by}
use Rattle.calls.specs.Packets.{Profile}
use Rattle.calls.specs.Calls.{Call, Held, model_of}
use Rattle.calls.specs.Gives.{Answer}
use Rattle.credits.specs.Steps.{Step}
use Rattle.credits.proofs.Credits.{state_of}
use Rattle.agreement.specs.Agreement.{call_fed, answer_fed, limits_of, reading}

-- bit 4 of the event mask, Disconnection Complete
abbrev pub unmasked : Profile → Held → Bool
unmasked g s = enabled_by (model_of g s).masks.event 4

-- what goes on holding along a list
abbrev pub Good : Profile → Held → Type 0
Good g s = StateHolds s.state g.controller

-- the call c at s follows a rule to t, with the answer a
abbrev pub FollowsRule : Profile → Call → Held → Held → Answer → Type 0
FollowsRule g c s t a =
    Step (limits_of g) (call_fed g c) (state_of (reading g) (unmasked g) s) (state_of (reading g) (unmasked g) t) (answer_fed c a)
