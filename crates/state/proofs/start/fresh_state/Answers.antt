-- `fresh_state` meets its contract.
use Rattle.links.proofs.Keeping.{empty_holds}
use Rattle.state.proofs.Keeping.{accept_empty, resolving_empty}
use Rattle.state.proofs.Fresh.{settings_fresh, links_fresh}
use Rattle.state.proofs.start.fresh_state.Goals as goal

pub returns : goal.returns
returns c = record {
  viewed = λ size pool.
      rw (
        c.default_settings.ensures,
        c.default_advertising.ensures.0,
        c.new.ensures,
        c.new-2.ensures,
        links_fresh size pool c.new-3.ensures,
      );
  held = λ h k. record {
    settings = settings_fresh c.default_settings.ensures;
    advertising = c.default_advertising.ensures.1;
    recent = h;
    links = empty_holds c.new-3.ensures;
    accept = accept_empty _ c.new.ensures;
    resolving = resolving_empty _ c.new-2.ensures;
  };
}
