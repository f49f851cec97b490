-- `notices::changing::request_ltk` meets its contract.
use Rattle.std.proofs.Common.{rules, refl}
use Rattle.links.specs.Fields.{with_ltk_requested}
use Rattle.commands.proofs.Giving.{answered_then, gives_changed}
use Rattle.notices.specs.Notices.{request_ltk}
use Rattle.notices.proofs.changing.request_ltk.Goals as goal

pub returns : goal.returns
unfolding request_ltk
returns c k held =
    gives_changed c.args.handle (with_ltk_requested 1) (λ x. refl) c.set_ltk_requested.ensures
    (answered_then c.followed_by_le.ensures c.silent-answer.ensures) (λ size pool. search rules) held
