-- `can_lower_fallback` and `lower_fallback`: each row a memory of depth 1.
use Rattle.std.specs.Prelude.{ℕ, ◌-◌, ◌*◌, ◌^◌, max, Bool, List, [], ◌∷◌, map, length, take, drop}
use Rattle.lists.specs.Lists.{all, up_from}
use Rattle.rules.specs.Numbers.{largest}
use Rattle.rules.specs.Value.{Value, of_const, same_control}
use Rattle.rules.specs.Cell.{WritePort, ReadPort, Mem, Plan, new_flip_flop, with_init, write_wide_log2, read_wide_log2, write_at}
use Rattle.rules.specs.Log.{Trace, ◌>>=◌, ◌>>◌, done, add_void_of, add_dff_of, replace_value_of}
use Rattle.rules.specs.Merge.{add_bitwise_mux_of}
use Rattle.rules.specs.Ports.{Driving, unmap_all}
use Rattle.rules.specs.Swizzle.{swizzle}

unfoldable pub can_lower_fallback : Mem → Bool
can_lower_fallback m = all (λ p. same_control p.clock (write_at m 0).clock) m.writes

-- the largest k of the ports
unfoldable pub max_wide_log2 : Mem → ℕ
max_wide_log2 m = max (largest (map (write_wide_log2 m) m.writes)) (largest (map (read_wide_log2 m) m.reads))

-- a memory for each row
unfoldable pub fallback_plan : Mem → Plan
fallback_plan m = record {
  entries = up_from 0 m.width;
  soft_mask = 2 ^ max_wide_log2 m - 1;
  write_wide = map (λ p. 0) m.writes;
  read_wide_of = map (λ p. 0) m.reads;
  hard = 0;
  unit = m.width;
}

-- the write ports in order, the last one winning
unfoldable pub write_muxes : List WritePort → Value → Trace Value
write_muxes [] v = done v
write_muxes (p ∷ ps) v = do
  w ← add_bitwise_mux_of p.mask p.bits v
  write_muxes ps w

-- a row's nets: its flip-flop's, or its trits where nothing writes
unfoldable pub row_flip_flop : Mem → Trace Value
row_flip_flop m = do
  q ← add_void_of m.width
  v ← write_muxes m.writes q
  f ← add_dff_of (with_init (new_flip_flop v (write_at m 0).clock) m.init)
  replace_value_of q f
  done q

unfoldable pub row_value : List WritePort → Mem → Trace Value
row_value [] m = done (of_const m.init)
row_value (p ∷ ps) m = row_flip_flop m

-- each read port's part of the outputs is the row
unfoldable pub drive_outputs : List ReadPort → Value → Value → Trace Unit
drive_outputs [] output v = done tt
drive_outputs (p ∷ ps) output v = do
  replace_value_of (take (length v) output) v
  drive_outputs ps (drop (length v) output) v

unfoldable pub lower_rows : List Driving → Trace Unit
lower_rows [] = done tt
lower_rows (d ∷ ds) = do
  v ← row_value d.memory.writes d.memory
  drive_outputs d.memory.reads d.output v
  lower_rows ds

-- nothing is given but what is logged
unfoldable pub lower_fallback : Mem → Value → Trace Unit
lower_fallback m output = do
  x ← unmap_all m output
  ds ← swizzle x.memory x.output (fallback_plan x.memory)
  lower_rows ds

-- the nets of scratch that a call is lent: the data and the mask of each write port for all rows
unfoldable pub fallback_scratch : Mem → ℕ
fallback_scratch m = 2 * length m.writes * (m.depth * m.width)
