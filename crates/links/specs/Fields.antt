-- A connection with some of its fields set: what each command and notice about one link changes.
use Rattle.std.specs.Prelude.{ℕ}
use Rattle.links.specs.declared.Connection.{Connection}

-- interval, latency and timeout: apply_params, peer_update
abbrev pub with_parameters : ℕ → ℕ → ℕ → Connection → Connection
with_parameters interval latency timeout c = record c { interval = interval; latency = latency; timeout = timeout }

-- 0x2022
abbrev pub with_data_length : ℕ → ℕ → Connection → Connection
with_data_length octets time c = record c { tx_octets = octets; tx_time = time }

-- 0x2032
abbrev pub with_phys : ℕ → ℕ → Connection → Connection
with_phys tx rx c = record c { tx_phy = tx; rx_phy = rx }

-- request_ltk sets it, the host's replies clear it
abbrev pub with_ltk_requested : ℕ → Connection → Connection
with_ltk_requested requested c = record c { ltk_requested = requested }

-- 0x0C7C
abbrev pub with_auth_payload_timeout : ℕ → Connection → Connection
with_auth_payload_timeout timeout c = record c { auth_payload_timeout = timeout }

-- disconnect
abbrev pub with_terminating : ℕ → Connection → Connection
with_terminating reason c = record c { terminating = reason }
