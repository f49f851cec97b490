-- `state::default_state` meets its contract.
use Rattle.std.proofs.Common.{arith}
use Rattle.state.proofs.start.default_state.Goals as goal

pub returns-clause-held : goal.returns-clause-held
returns-clause-held c = c.fresh_state.ensures.held (omega (arith, c.new.ensures.1))
