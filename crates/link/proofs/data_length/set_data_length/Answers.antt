-- `link::data_length::set_data_length` meets its contract.
use Rattle.std.proofs.Common.{rules, refl}
use Rattle.links.specs.Fields.{with_data_length}
use Rattle.commands.specs.Link.{set_data_length}
use Rattle.commands.proofs.Giving.{gives_changed}
use Rattle.link.proofs.data_length.set_data_length.Goals as goal

pub returns-in-Ok : goal.returns-in-Ok
unfolding set_data_length
returns-in-Ok c k held =
    let new = c.new_data_length-new.result in
    gives_changed c.word_at-handle.result (with_data_length new.octets new.time) (λ x. refl) c.set_data_length.ensures
    c.data_length_change.ensures (λ size pool. search rules) held
