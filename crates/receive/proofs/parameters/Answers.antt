-- `receive::parameters` meets its contract.
use mathlib.Core.Path.{◌≡◌, sym, ◌∙◌}
use Prim.Native.Nat.{◌+◌, ◌-◌}
use native.Mathlib.Omega.{arith}
use Rattle.octets.specs.Octets.{octet}
use Rattle.hci.proofs.Readers.{command_tells}
use Rattle.receive.proofs.parameters.Goals as goal

pub slice_bounds-result-end : goal.slice_bounds-result-end
slice_bounds-result-end c = omega (arith, c.from.ensures, (command_tells _ (sym c.parse.ensures ∙ c.in-Ok.is)).present)

pub returns-in-Ok : goal.returns-in-Ok
returns-in-Ok c =
    let read = sym c.parse.ensures ∙ c.in-Ok.is in
    let long : 4 + c.from.result - 4 ≡ octet c.args.packet.now 3 = omega (arith, c.from.ensures, (command_tells _ read).long) in
    rw (read, long)
