-- All read ports unmapped as the code does it: each from the memory and the outputs as given, its void nets stored in a room for the outputs after.
use Rattle.std.specs.Prelude.{◌≡◌, ℕ, ◌≤◌, false, List, [], ◌∷◌, map, length, ltb}
use Rattle.std.proofs.Math.Option.{Option, none, some}
use Rattle.std.proofs.lemmas.List.Edits.{sets}
use Rattle.lists.specs.Choice.{when◌then◌else◌}
use Rattle.lists.specs.Lists.{any, up_from}
use Rattle.rules.specs.Limits.{max_merge}
use Rattle.rules.specs.Value.{Value}
use Rattle.rules.specs.Cell.{ReadFlipFlop, ReadPort, Mem, read_at_of, read_wide_log2, flip_flop_of, output_start, output_slice, with_reads}
use Rattle.rules.specs.Conditions.{bad_write_shape, bad_read_shape, short_ports}
use Rattle.rules.specs.Log.{Trace, ◌>>=◌, ◌>>◌, done, add_void_of}
use Rattle.port_transparency.specs.Pairs.{reading, plain}
use Rattle.port_overlay.specs.Laid.{laid_from, behind}
use Rattle.port_unmap.specs.Trace.{related}

-- unmap_read_dff of clocked port i: the void nets take its place in the room
unfoldable pub unmapped_to : Mem → ℕ → Value → ReadFlipFlop → Value → Trace Value
unmapped_to m i output f room = do
  v ← add_void_of (read_at_of m i).data_len
  o ← laid_from m (read_wide_log2 m (read_at_of m i)) (reading (read_at_of m i).addr (read_at_of m i).data_len) 0 (related f) (plain v)
  behind (flip_flop_of f o.bits) (output_slice m i output)
  done (sets room (output_start m i) v)

-- more nets than a merge takes, which no port of a memory has, give nothing; so does a port without a flip-flop
unfoldable pub unmapped_of : Option ReadFlipFlop → Mem → ℕ → Value → Value → Trace Value
unmapped_of none m i output room = done room
unmapped_of (some f) m i output room = when ltb max_merge (read_at_of m i).data_len then done room else unmapped_to m i output f room

unfoldable pub unmapped_at : Mem → ℕ → Value → Value → Trace Value
unmapped_at m i output room = unmapped_of (read_at_of m i).flip_flop m i output room

-- each of these ports in turn
unfoldable pub unmapped_each : List ℕ → Mem → Value → Value → Trace Value
unmapped_each [] m output room = done room
unmapped_each (i ∷ is) m output room = do
  x ← unmapped_at m i output room
  unmapped_each is m output x

-- all of them
unfoldable pub unmapped_all : Mem → Value → Value → Trace Value
unmapped_all m output room = unmapped_each (up_from 0 (length m.reads)) m output room

-- a port without its flip-flop, and a memory of such ports
abbrev pub bare : ReadPort → ReadPort
bare p = record { addr = p.addr; data_len = p.data_len; flip_flop = none }

unfoldable pub all_bare : Mem → Mem
all_bare m = with_reads m (map bare m.reads)

-- what numbers 1, 2 and 14 leave true of a memory
pub record AllReady (m : Mem) : Type 0 where
  pub thin : m.width ≤ 128
  pub few : length m.writes ≤ 8
  pub reads_few : length m.reads ≤ 8
  pub writes_good : any (bad_write_shape m) m.writes ≡ false
  pub reads_good : any (bad_read_shape m) m.reads ≡ false
  pub long : short_ports m ≡ false
