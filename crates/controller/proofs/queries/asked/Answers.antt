-- `queries::asked` meets its contract: questions 1 and 3 say that the state holds together.
use Rattle.controller.proofs.Asking.{state_asked}
use Rattle.controller.proofs.queries.asked.Goals as goal

pub query-requires : goal.query-requires
query-requires g c = c.requires (state_asked c.args.profile c.args.s c.holds.ensures c.in_ok-about_state.ensures).held
