-- `commands::events::newest_params` meets its contract.
use Rattle.std.proofs.Common.{rules, ◌∙◌, length-append}
use mathlib.Core.List.{append_assoc}
use Rattle.octets.proofs.Writing.{put_then, put_whole}
use Rattle.commands.proofs.events.newest_params.Goals as goal

pub returns : goal.returns
returns c =
    put_whole (put_then (put_then c.put_two-peer_end.ensures c.put_two-at.ensures) c.put_two.ensures)
    (simp length-append (search rules))
    ∙ rw (c.as_flattened.ensures.value ∙ c.timing_octets.ensures) (simp append_assoc)
