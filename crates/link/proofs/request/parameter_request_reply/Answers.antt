-- `link::request::parameter_request_reply` meets its contract.
use Rattle.std.proofs.Common.{rules, refl}
use Rattle.links.specs.Fields.{with_parameters}
use Rattle.commands.specs.Link.{parameter_request_reply}
use Rattle.commands.proofs.Giving.{answered_then, gives_changed}
use Rattle.link.proofs.request.parameter_request_reply.Goals as goal

pub returns-in-Ok : goal.returns-in-Ok
unfolding parameter_request_reply
returns-in-Ok c k held =
    let timing = c.in-Ok.timing in
    let applied = c.apply.ensures in
    gives_changed c.word_at-handle.result (with_parameters timing.interval timing.latency timing.timeout) (λ x. refl)
    applied.changed
    (answered_then applied.same c.done_handle.ensures) (λ size pool. search rules) held
