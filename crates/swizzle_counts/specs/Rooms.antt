-- The room that the resulting memories of a swizzle take, port by port, by the new wide logs.
use Rattle.std.specs.Prelude.{ℕ, ◌+◌, ◌-◌, ◌*◌, ◌^◌}
use Rattle.std.proofs.Math.Option.{Option, none, some}
use Rattle.rules.specs.Cell.{ReadFlipFlop, ReadPort}
use Rattle.rules.specs.Geometry.{Layout, columns}

-- the columns of all new rows
abbrev pub wide_of : Layout → ℕ → ℕ
wide_of q n = 2 ^ n * columns q

-- a write port's address, data and mask; a read port's address
abbrev pub write_room : Layout → ℕ → ℕ
write_room q n = (q.hard - n) + 2 * wide_of q n

abbrev pub read_room : Layout → ℕ → ℕ
read_room q n = q.hard - n

-- a clocked read port's clear, reset and init
abbrev pub trits_by : Layout → Option ReadFlipFlop → ℕ → ℕ
trits_by q none n = 0
trits_by q (some f) n = 3 * wide_of q n

abbrev pub trit_room : Layout → ReadPort × ℕ → ℕ
trit_room q x = trits_by q x.0.flip_flop x.1
