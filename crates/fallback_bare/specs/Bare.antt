-- A struct with other read ports, and with all of them without flip-flops.
use Rattle.std.specs.Prelude.{List, map}
use Rattle.net_memory.specs.declared.MemoryReadPort.{MemoryReadPort}
use Rattle.net_memory.specs.declared.Memory.{Memory}
use Rattle.port_unmap.specs.Call.{without}

abbrev pub with_ports : Memory → List MemoryReadPort → Memory
with_ports m ps = record {
  depth = m.depth;
  width = m.width;
  init_len = m.init_len;
  write_count = m.write_count;
  read_count = m.read_count;
  write_ports = m.write_ports;
  read_ports = ps;
}

abbrev pub bare_of : Memory → Memory
bare_of m = with_ports m (map without m.read_ports)
