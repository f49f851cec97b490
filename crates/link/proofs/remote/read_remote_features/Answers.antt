-- `link::remote::read_remote_features` meets its contract.
use Rattle.std.proofs.Common.{rules, ◌≡◌}
use Rattle.octets.specs.Octets.{le, splice}
use Rattle.commands.specs.Link.{read_remote_features}
use Rattle.commands.specs.Following.{le_meta_event}
use Rattle.link.proofs.remote.read_remote_features.Goals as goal

pub returns : goal.returns
unfolding read_remote_features splice le_meta_event
returns c =
    let features : c.to_le_bytes-2.result ≡ le 8 c.args.profile.le_features = search rules in
    search rules
