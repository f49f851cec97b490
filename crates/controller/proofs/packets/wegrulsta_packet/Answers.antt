-- `packets::wegrulsta_packet` meets its contract: what the function gives that the packet's task calls for, or the number of a
-- refusal.
use Rattle.std.specs.Prelude.{◌≡◌, ℕ, List, Ok, length}
use borrow.Author.Rules.{rules}
use Rattle.state.specs.Holding.{state_holds}
use Rattle.dispatch.specs.declared.Part.{Part}
use Rattle.commands.specs.Outcome.{given}
use Rattle.command.specs.declared.Told.{Told}
use Rattle.command.specs.Calling.{carried_by, CanCarry, Gave}
use Rattle.calls.specs.Calls.{on_packet, held}
use Rattle.calls.specs.Gives.{profile_of}
use Rattle.receive.specs.Receiving.{IsCommand}
use Rattle.controller.specs.Asked.{about_packet, CanReceive}
use Rattle.controller.proofs.Received.{can_receive, can_carry}
use Rattle.controller.proofs.Received.{GivesTold, gives_nothing, gives_data, gives_answered, gives_carried}
use Rattle.controller.proofs.packets.wegrulsta_packet.Goals.{In-Ok, In-Carried}
use Rattle.controller.proofs.packets.wegrulsta_packet.Goals as goal

-- no question refuses
asked : (c : In-Ok)
    → 0 ≡ about_packet c.args.profile c.args.opcodes.now c.args.answers.now c.args.bits.now (state_holds c.args.s c.args.profile)
    (length c.args.pool.now) (length c.args.out.now)
asked c = rw c.holds-held.ensures at c.in-Ok.ensures.asked

can : (c : In-Ok) → CanReceive c.args.s c.args.profile c.args.pool.now c.args.out.now
can c = can_receive c.args.profile c.args.opcodes.now c.args.answers.now c.args.bits.now c.args.s _ _ (asked c)

-- a command that is carried out: what it is, what carrying it out counts on, and what the call gives by what that gave
command : (c : In-Carried)
    → IsCommand c.args.opcodes.now c.args.answers.now c.args.s.settings.advertising_family c.args.packet.now c.in-Carried.op
    (Ok c.in-Carried.part)
command c = rw (c.in-Ok.ensures.same.0, c.in-Ok.ensures.same.1) at c.in-Carried.ensures

counts : (c : In-Carried) {part : Part} → c.in-Carried.part ≡ part
    → CanCarry c.args.s c.args.profile c.in-Carried.op part c.parameters-p.result.now c.args.out.now
counts c same =
    let able = can (goal.at.In-Carried c).In-Ok in
    rw (← same)
    (can_carry able.store.ready (search (rules, c.well_formed)) (search (rules, c.well_formed)) (search (rules, c.well_formed))
    able.room (command c) c.parameters-p.ensures)

gives : (c : In-Carried) {r : Told} {after : List ℕ}
    → Gave (carried_by (given c.args.profile c.args.address.now c.args.random c.parameters-p.result.now) c.in-Carried.op)
    c.args.profile c.in-Carried.op c.args.s c.args.out.now r after
    → GivesTold (profile_of c.args.profile c.args.opcodes.now c.args.answers.now c.args.bits.now)
    (on_packet c.args.address.now c.args.random c.args.packet.now) (held c.args.s c.args.pool.now) c.args.out.now r
    c.args.pool.now after
gives c does =
    gives_carried c.args.bits.now c.args.address.now c.args.random (asked (goal.at.In-Carried c).In-Ok) (command c)
    c.parameters-p.ensures does

pub returns-in-Nothing : goal.returns-in-Nothing
returns-in-Nothing c =
    gives_nothing c.args.bits.now c.args.address.now c.args.random (asked (goal.at.returns-in-Nothing c).In-Ok)
    c.in-Nothing.ensures c.unchanged.ensures

pub data-requires : goal.data-requires
data-requires c = (can (goal.at.data-requires c).In-Ok).store

pub returns-in-Data : goal.returns-in-Data
returns-in-Data c =
    gives_data c.args.bits.now c.args.address.now c.args.random (asked (goal.at.returns-in-Data c).In-Ok) c.in-Data.ensures
    c.data.ensures c.told-in-Data.ensures

pub answered-requires : goal.answered-requires
answered-requires c = let able = can (goal.at.answered-requires c).In-Ok in (able.store.ready, able.room)

pub returns-in-Answered : goal.returns-in-Answered
returns-in-Answered c =
    rw c.told-in-Answered.ensures
    (gives_answered c.args.bits.now c.args.address.now c.args.random (asked (goal.at.returns-in-Answered c).In-Ok)
    (rw (c.in-Ok.ensures.same.0, c.in-Ok.ensures.same.1) at c.in-Answered.ensures) c.answered.ensures)

pub read-requires : goal.read-requires
read-requires c = counts (goal.at.read-requires c).In-Carried c.in-Nothing-part.is

pub returns-in-Nothing-part : goal.returns-in-Nothing-part
returns-in-Nothing-part c =
    rw c.told-in-Nothing-part.ensures (gives (goal.at.returns-in-Nothing-part c).In-Carried c.read.ensures)

pub carried-requires : goal.carried-requires
carried-requires c = counts (goal.at.carried-requires c).In-Carried c.in-Masks.is

pub returns-in-Masks : goal.returns-in-Masks
returns-in-Masks c =
    rw c.told-in-Masks.ensures
    (gives (goal.at.returns-in-Masks c).In-Carried (c.carried.ensures c.args.address.now c.args.random))

pub carried-requires-in-Settings : goal.carried-requires-in-Settings
carried-requires-in-Settings c = counts (goal.at.carried-requires-in-Settings c).In-Carried c.in-Settings.is

pub returns-in-Settings : goal.returns-in-Settings
returns-in-Settings c =
    rw c.told-in-Settings.ensures
    (gives (goal.at.returns-in-Settings c).In-Carried (c.carried-in-Settings.ensures c.args.address.now c.args.random))

pub carried-requires-in-Advertising : goal.carried-requires-in-Advertising
carried-requires-in-Advertising c = counts (goal.at.carried-requires-in-Advertising c).In-Carried c.in-Advertising.is

pub returns-in-Advertising : goal.returns-in-Advertising
returns-in-Advertising c =
    rw c.told-in-Advertising.ensures
    (gives (goal.at.returns-in-Advertising c).In-Carried (c.carried-in-Advertising.ensures c.args.address.now c.args.random))

pub carried-requires-in-Scanning : goal.carried-requires-in-Scanning
carried-requires-in-Scanning c = counts (goal.at.carried-requires-in-Scanning c).In-Carried c.in-Scanning.is

pub returns-in-Scanning : goal.returns-in-Scanning
returns-in-Scanning c =
    rw c.told-in-Scanning.ensures
    (gives (goal.at.returns-in-Scanning c).In-Carried (c.carried-in-Scanning.ensures c.args.address.now c.args.random))

pub carried-requires-in-AcceptList : goal.carried-requires-in-AcceptList
carried-requires-in-AcceptList c = counts (goal.at.carried-requires-in-AcceptList c).In-Carried c.in-AcceptList.is

pub returns-in-AcceptList : goal.returns-in-AcceptList
returns-in-AcceptList c =
    rw c.told-in-AcceptList.ensures
    (gives (goal.at.returns-in-AcceptList c).In-Carried (c.carried-in-AcceptList.ensures c.args.address.now c.args.random))

pub carried-requires-in-ResolvingList : goal.carried-requires-in-ResolvingList
carried-requires-in-ResolvingList c = counts (goal.at.carried-requires-in-ResolvingList c).In-Carried c.in-ResolvingList.is

pub returns-in-ResolvingList : goal.returns-in-ResolvingList
returns-in-ResolvingList c =
    rw c.told-in-ResolvingList.ensures
    (gives (goal.at.returns-in-ResolvingList c).In-Carried (c.carried-in-ResolvingList.ensures c.args.address.now c.args.random))

pub carried-requires-in-Links : goal.carried-requires-in-Links
carried-requires-in-Links c = counts (goal.at.carried-requires-in-Links c).In-Carried c.in-Links.is

pub returns-in-Links : goal.returns-in-Links
returns-in-Links c =
    rw c.told-in-Links.ensures
    (gives (goal.at.returns-in-Links c).In-Carried (c.carried-in-Links.ensures c.args.address.now c.args.random))

pub carried-requires-in-Everything : goal.carried-requires-in-Everything
carried-requires-in-Everything c = counts (goal.at.carried-requires-in-Everything c).In-Carried c.in-Everything.is

pub returns-in-Everything : goal.returns-in-Everything
returns-in-Everything c =
    rw c.told-in-Everything.ensures
    (gives (goal.at.returns-in-Everything c).In-Carried (c.carried-in-Everything.ensures c.args.address.now c.args.random))
