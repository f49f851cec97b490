-- Document 01's table of marked cases. Each computes.
use mathlib.Core.Path.{refl}
use Rattle.lists.specs.Lists.{any, keep}
use Rattle.hci.specs.Read.{parse_command, parse_acl}
use Rattle.links.specs.Links.{ended, opened_last, enqueued}
use Rattle.notices.specs.Notices.{open_connection}
use Rattle.calls.specs.Packets.{on_packet, data_packet}
use Rattle.commands.proofs.Marked as commands
use Rattle.agreement.specs.Cases.{MarkedCases}

pub marked_cases : MarkedCases
unfolding any keep parse_command parse_acl ended opened_last enqueued open_connection on_packet data_packet
marked_cases = record {
  commands = commands.marked_cases;
  short_command = λ g address random low high first second m. refl;
  third_packet = λ g address random longest count. (rw (longest, count), rw (longest, count));
}
