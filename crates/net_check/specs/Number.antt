-- The numbers 2 to 4 of a memory port by port, as the code tries them.
use Rattle.std.specs.Prelude.{ℕ, min, []}
use Rattle.rules.specs.Cell.{WritePort, ReadPort, Mem, write_wide_log2, read_wide_log2}
use Rattle.rules.specs.Refusals.{number_by_of}
use Rattle.rules.specs.Conditions.{bad_write_shape, bad_read_shape, indivisible, bad_write_nets, bad_read_nets}
use Rattle.rules.specs.Limits.{max_ports}
use Rattle.net_memory.specs.declared.Memory.{Memory}
use Rattle.net_memory.specs.View.{no_read_port, read_by}
use Rattle.net_check.specs.declared.Bounds.{Bounds}

-- what the ports of a memory are tested against
abbrev pub bounds_by : Memory → ℕ → Bounds
bounds_by m next = record { depth = m.depth; width = m.width; writes = min max_ports m.write_count; next = next }

unfoldable pub write_number : ℕ → Mem → WritePort → ℕ
write_number next m p = number_by_of (bad_write_shape m p) (indivisible m.depth (write_wide_log2 m p)) (bad_write_nets next p)

unfoldable pub read_number : ℕ → Mem → ReadPort → ℕ
read_number next m p = number_by_of (bad_read_shape m p) (indivisible m.depth (read_wide_log2 m p)) (bad_read_nets next p)

-- what stands where there is no read port
abbrev pub no_read_of : ReadPort
no_read_of = read_by no_read_port [] []
