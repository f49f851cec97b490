-- The statuses that commands answer with (Core Vol 1 Part F section 1.3). For the definitions of the commands.
use Rattle.std.specs.Prelude.{ℕ}

abbrev pub success : ℕ
success = 0x00

abbrev pub unknown_command : ℕ
unknown_command = 0x01

abbrev pub unknown_connection : ℕ
unknown_connection = 0x02

abbrev pub memory_capacity_exceeded : ℕ
memory_capacity_exceeded = 0x07

abbrev pub command_disallowed : ℕ
command_disallowed = 0x0C

abbrev pub unsupported_feature : ℕ
unsupported_feature = 0x11

abbrev pub invalid_parameters : ℕ
invalid_parameters = 0x12
