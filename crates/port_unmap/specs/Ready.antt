-- What numbers 1, 2, 14 and 15 leave true of a memory and its clocked port i.
use Rattle.std.specs.Prelude.{◌≡◌, ℕ, ◌<◌, ◌≤◌, min, false, List, length}
use Rattle.lists.specs.Lists.{any}
use Rattle.rules.specs.Limits.{max_ports}
use Rattle.rules.specs.Cell.{ReadFlipFlop, read_at_of, transparent_ports}
use Rattle.rules.specs.Conditions.{bad_write_shape, bad_read_shape, short_pair}
use Rattle.net_flip_flop.specs.declared.Controls.{Controls}
use Rattle.net_memory.specs.declared.Memory.{Memory}
use Rattle.std.specs.Prelude.{Some}
use Rattle.port_unmap.specs.declared.Clocked.{Clocked}
use Rattle.net_memory.specs.View.{memory_of, read_port, read_trits, clocked_by}

-- the flip-flop of port i
abbrev pub own_flip_flop : Memory → List ℕ → ℕ → Controls → ReadFlipFlop
own_flip_flop m trits i c = clocked_by c (read_port m i) (read_trits m trits i)

-- numbers 1, 2 and 15
pub record PortShape (m : Memory) (nets trits : List ℕ) (i : ℕ) (c : Controls) : Type 0 where
  pub there : i < min max_ports m.read_count
  pub clocked : (read_port m i).flip_flop ≡ Some c
  pub thin : m.width ≤ 128
  pub writes_good : any (bad_write_shape (memory_of m nets trits)) (memory_of m nets trits).writes ≡ false
  pub read_good : bad_read_shape (memory_of m nets trits) (read_at_of (memory_of m nets trits) i) ≡ false
  pub related : length (own_flip_flop m trits i c).relations ≡ length (memory_of m nets trits).writes
  pub few : length (memory_of m nets trits).writes ≤ 8

-- and 14
pub record Ready (m : Memory) (nets trits : List ℕ) (i : ℕ) (c : Controls) : Type 0 where
  pub port : PortShape m nets trits i c
  pub long : any (short_pair (memory_of m nets trits) (read_at_of (memory_of m nets trits) i)) (transparent_ports (own_flip_flop m trits i c)) ≡ false

-- the same of the struct that holds them
abbrev pub flip_flop_in : Clocked → ReadFlipFlop
flip_flop_in p = own_flip_flop p.given.memory p.given.trits.now p.i p.controls

abbrev pub ReadyIn : Clocked → Type 0
ReadyIn p = Ready p.given.memory p.given.nets.now p.given.trits.now p.i p.controls
