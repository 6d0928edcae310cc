-- What a test of a pair of ports takes of its read port.
use Rattle.std.specs.Prelude.{◌≡◌}
use Rattle.rules.specs.Cell.{ReadPort, Mem, read_wide_log2}
use Rattle.port_transparency.specs.declared.Reading.{Reading}

-- x has the k and the address of read port p
abbrev pub ReadBy : Mem → ReadPort → Reading → Type 0
ReadBy m p x = (x.k ≡ read_wide_log2 m p) × (x.addr.now ≡ p.addr)
