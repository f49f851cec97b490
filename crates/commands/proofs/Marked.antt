-- Document 01's marked cases about commands. Each computes.
use mathlib.Core.Path.{refl}
use Rattle.hci.specs.Read.{parse_command}
use Rattle.commands.specs.Checks.{connection_params_valid}
use Rattle.commands.specs.Known.{write_auth_payload_timeout, payload_timeout_short}
use Rattle.commands.specs.Air.{set_advertising_data}
use Rattle.commands.specs.Test.{write_path_compensation}
use Rattle.commands.specs.Table.{find}
use Rattle.commands.specs.Command.{command, by_row, listed_row, modelled, other_family, family_of}
use Rattle.commands.specs.Cases.{MarkedCases}

pub marked_cases : MarkedCases
unfolding connection_params_valid parse_command find command by_row listed_row modelled other_family family_of
    write_auth_payload_timeout payload_timeout_short set_advertising_data write_path_compensation
marked_cases = record {
  greatest_of20 = refl;
  greatest_of19 = refl;
  timeout_of3 = λ g low high m c p link interval latency. rw (p, link, interval, latency);
  timeout_of2 = λ g low high m c p link interval latency. rw (p, link, interval, latency);
  compensation_fb00 = λ g m p. rw p;
  compensation_faff = λ g m p. rw p;
  second_faff = λ g m p. rw p;
  data_of31 = λ g m load p long family. rw (p, family, long);
  data_of32 = λ g m load p long family. rw (p, family, long);
  short_of_parameters = λ low high first second. refl;
}
