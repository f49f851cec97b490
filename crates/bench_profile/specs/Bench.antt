-- The profile of document 01, "Bench lines", without its rows. For `records`, which adds the rows of the bench, and for the
-- example of `agreement`, which adds those of three commands.
use Rattle.std.specs.Prelude.{pos, replicate}
use Rattle.profile.specs.declared.ControllerRow.{ControllerRow}

-- acl_len 27, acl_count 2, both lists 2, num_command_packets 5, le_features 0x100, tx_power_max 9, max_tx_octets 251,
-- max_tx_time 2,120, rest 0
abbrev pub bench_controller : ControllerRow
bench_controller = record {
  hci_version = 0;
  hci_subversion = 0;
  lmp_version = 0;
  company = 0;
  lmp_subversion = 0;
  supported_commands = replicate 64 0;
  lmp_features = replicate 8 0;
  le_features = 0x100;
  supported_states = replicate 8 0;
  acl_len = 27;
  acl_count = 2;
  accept_list_size = 2;
  resolving_list_size = 2;
  adv_tx_power = pos 0;
  tx_power_min = pos 0;
  tx_power_max = pos 9;
  max_tx_octets = 251;
  max_tx_time = 2120;
  max_adv_data_len = 0;
  adv_sets = 0;
  num_command_packets = 5;
}
