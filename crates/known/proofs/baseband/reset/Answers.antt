-- `known::baseband::reset` meets its contract.
use Rattle.std.proofs.Common.{rules}
use Rattle.state.specs.declared.Controller.{Controller}
use Rattle.commands.specs.Known.{reset}
use Rattle.commands.proofs.Giving.{gives_part}
use Rattle.known.proofs.baseband.reset.Goals as goal

pub returns : goal.returns
unfolding reset
returns c k held =
    gives_part (λ (t s : Controller). t) c.done.ensures (λ size pool. search rules) (c.reset.ensures.held held.recent k)
