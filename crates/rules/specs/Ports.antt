-- memory/src/lib.rs, the calls on ports: transparency_mux, extract_read_ports, the two unmappings and emulate_read_before_write.
use Rattle.std.specs.Prelude.{ℕ, suc, ◌-◌, Bool, true, false, ◌&&◌, not, List, [], ◌∷◌, map, length, get_or, take, drop, replicate, ltb}
use Rattle.std.proofs.Math.Option.{Option, none, some}
use Rattle.lists.specs.Choice.{when◌then◌else◌}
use Rattle.lists.specs.Lists.{any, up_from, concat_map}
use Rattle.rules.specs.Logic.{is_undef, undef, zeros, ones}
use Rattle.rules.specs.Value.{Value, x_nets, zext, inverse, is_always, Pos}
use Rattle.rules.specs.Cell.{FlipFlop, Relation, WritePort, ReadFlipFlop, ReadPort, Mem, new_flip_flop, with_init, flip_flop_of, write_wide_log2, read_wide_log2, write_at, read_at_of, output_slice, with_output, with_reads, with_flip_flop, or_empty, flip_flops, is_transparent, is_read_before_write, transparent_ports, Undefined}
use Rattle.rules.specs.Log.{Trace, ◌>>=◌, ◌>>◌, done, add_void_of, add_or_of, add_eq_of, add_shl_of, add_ushr_of, add_dff_of, replace_value_of}
use Rattle.rules.specs.Merge.{add_dedup_mux_of, add_dedup_dff_of, add_bitwise_mux_of}

-- ---- transparency_mux
-- the select bits: the low part of the narrower port's address
unfoldable pub narrower_select : ℕ → ℕ → Value → Value → Value
narrower_select kw kr waddr raddr = when ltb kw kr then take (kr - kw) waddr else take (kw - kr) raddr

-- a write port as a read port sees it: the two addresses to compare, and data and mask of the read port's width
pub record Seen : Type 0 where
  pub write_addr : Value
  pub read_addr : Value
  pub bits : Value
  pub mask : Value

-- read wider than write: the write data is moved up to its place
unfoldable pub seen_wider : Value → ℕ → WritePort → ReadPort → Trace Seen
seen_wider select d w r = do
  v ← add_shl_of (length w.bits) select (zext w.bits r.data_len)
  n ← add_shl_of (length w.mask) select (zext w.mask r.data_len)
  done (record { write_addr = drop d w.addr; read_addr = r.addr; bits = v; mask = n })

-- write wider than read: the place's part of the write data is taken out
unfoldable pub seen_narrower : Value → ℕ → WritePort → ReadPort → Trace Seen
seen_narrower select d w r = do
  v ← add_ushr_of r.data_len select w.bits
  n ← add_ushr_of r.data_len select w.mask
  done (record { write_addr = w.addr; read_addr = drop d r.addr; bits = take r.data_len v; mask = take r.data_len n })

unfoldable pub seen : ℕ → ℕ → WritePort → ReadPort → Trace Seen
seen kw kr w r =
    let select = narrower_select kw kr w.addr r.addr in
    when ltb kw kr then seen_wider select (kr - kw) w r
    else when ltb kr kw then seen_narrower select (kw - kr) w r
    else done (record { write_addr = w.addr; read_addr = r.addr; bits = w.bits; mask = w.mask })

-- data, and a mask where one is wanted, laid over what a port reads
pub record Overlay : Type 0 where
  pub bits : Value
  pub mask : Option Value

-- the mask after: the write mask is added to it where the addresses are equal
unfoldable pub overlaid_mask : ℕ → Value → Option Value → Trace (Option Value)
overlaid_mask e wmask none = done none
overlaid_mask e wmask (some m) = do
  o ← add_or_of m wmask
  n ← add_dedup_mux_of (Pos e) o m
  done (some n)

unfoldable pub transparency_mux : Mem → ℕ → ℕ → Overlay → Trace Overlay
transparency_mux m i j o =
    let r = read_at_of m i in
    let w = write_at m j in
    do
      s ← seen (write_wide_log2 m w) (read_wide_log2 m r) w r
      e ← add_eq_of (zext s.read_addr (length s.write_addr)) (zext s.write_addr (length s.read_addr))
      select ← add_dedup_mux_of (Pos e) s.mask (replicate (length s.mask) 0)
      v ← add_bitwise_mux_of select s.bits o.bits
      n ← overlaid_mask e s.mask o.mask
      done (record { bits = v; mask = n })

-- over each of these write ports in turn
unfoldable pub transparencies : Mem → ℕ → List ℕ → Overlay → Trace Overlay
transparencies m i [] o = done o
transparencies m i (j ∷ js) o = do
  p ← transparency_mux m i j o
  transparencies m i js p

-- ---- extract_read_ports
-- a memory and the outputs that it drives
pub record Driving : Type 0 where
  pub memory : Mem
  pub output : Value

unfoldable pub extract_read_ports : Mem → List ℕ → Value → Driving
extract_read_ports m ports output = record {
  memory = with_reads m (map (read_at_of m) ports);
  output = concat_map (λ i. output_slice m i output) ports;
}

-- ---- unmap_read_dff: the port reads at once, and the flip-flop stands behind it
unfoldable pub unmap_dff : Mem → ℕ → Value → ReadFlipFlop → Trace Driving
unmap_dff m i output f = do
  v ← add_void_of (read_at_of m i).data_len
  o ← transparencies m i (transparent_ports f) (record { bits = v; mask = none })
  q ← add_dff_of (flip_flop_of f o.bits)
  replace_value_of (output_slice m i output) q
  done (record { memory = with_flip_flop m i none; output = with_output m i v output })

unfoldable pub unmap_read_dff_of : Option ReadFlipFlop → Mem → ℕ → Value → Trace Driving
unmap_read_dff_of none m i output = done (record { memory = m; output = output })
unmap_read_dff_of (some f) m i output = unmap_dff m i output f

unfoldable pub unmap_read_dff : Mem → ℕ → Value → Trace Driving
unmap_read_dff m i output = unmap_read_dff_of (read_at_of m i).flip_flop m i output

-- each of these ports in turn
unfoldable pub unmap_each : List ℕ → Mem → Value → Trace Driving
unmap_each [] m output = done (record { memory = m; output = output })
unmap_each (i ∷ is) m output = do
  x ← unmap_read_dff m i output
  unmap_each is x.memory x.output

unfoldable pub unmap_all : Mem → Value → Trace Driving
unmap_all m output = unmap_each (up_from 0 (length m.reads)) m output

-- ---- unmap_read_init_reset_transparency
unfoldable pub has_init : ReadFlipFlop → Bool
has_init f = not (is_undef f.init_value)

unfoldable pub has_reset : ReadFlipFlop → Bool
has_reset f = not (is_always 0 f.controls.reset)

unfoldable pub has_clear : ReadFlipFlop → Bool
has_clear f = not (is_always 0 f.controls.clear)

-- the transparent relations that are to go
unfoldable pub wanted : Bool → ReadFlipFlop → List ℕ
wanted incl f = when incl then transparent_ports f else []

unfoldable pub is_empty : List ℕ → Bool
is_empty [] = true
is_empty (a ∷ l) = false

-- there is nothing to unmap
unfoldable pub is_plain : Bool → ReadFlipFlop → Bool
is_plain incl f = not (has_init f) && (not (has_reset f) && (not (has_clear f) && is_empty (wanted incl f)))

unfoldable pub no_transparent : Relation → Relation
no_transparent r = when is_transparent r then Undefined else r

-- the port's flip-flop after: no clear, reset or init
unfoldable pub unmapped_reset : Bool → ℕ → ReadFlipFlop → ReadFlipFlop
unmapped_reset incl n f = record {
  controls = record { clock = f.controls.clock; clear = Pos 0; reset = Pos 0; enable = f.controls.enable; reset_over_enable = f.controls.reset_over_enable };
  clear_value = undef n;
  reset_value = undef n;
  init_value = undef n;
  relations = when incl then map no_transparent f.relations else f.relations;
}

-- the mask's flip-flop: 1 after clear, reset and, where there is an init, at the start
unfoldable pub mask_flip_flop : ReadFlipFlop → ℕ → Option Value → FlipFlop
mask_flip_flop f n mask = record {
  bits = or_empty mask;
  controls = f.controls;
  clear_value = ones n;
  reset_value = ones n;
  init_value = when has_init f then ones n else undef n;
}

unfoldable pub unmap_reset : Mem → ℕ → Bool → Value → ReadFlipFlop → Trace Driving
unmap_reset m i incl output f =
    let n = (read_at_of m i).data_len in
    do
      o ← transparencies m i (wanted incl f) (record { bits = x_nets n; mask = some (replicate n 0) })
      d ← add_dff_of (flip_flop_of f o.bits)
      k ← add_dedup_dff_of (mask_flip_flop f n o.mask)
      v ← add_void_of n
      b ← add_bitwise_mux_of k d v
      replace_value_of (output_slice m i output) b
      done (record { memory = with_flip_flop m i (some (unmapped_reset incl n f)); output = with_output m i v output })

unfoldable pub unmap_reset_of : Option ReadFlipFlop → Mem → ℕ → Bool → Value → Trace Driving
unmap_reset_of none m i incl output = done (record { memory = m; output = output })
unmap_reset_of (some f) m i incl output =
    when is_plain incl f then done (record { memory = m; output = output }) else unmap_reset m i incl output f

unfoldable pub unmap_read_init_reset_transparency : Mem → ℕ → Bool → Value → Trace Driving
unmap_read_init_reset_transparency m i incl output = unmap_reset_of (read_at_of m i).flip_flop m i incl output

-- ---- emulate_read_before_write
-- some read port has such a relation to write port j
unfoldable pub relates_to : (Relation → Bool) → Mem → ℕ → Bool
relates_to is m j = any (λ f. is (get_or f.relations j Undefined)) (flip_flops m.reads)

-- a write port half a cycle later; the mask starts X for an all-X image, else 0
unfoldable pub delayed : Bool → WritePort → Trace WritePort
delayed allX p =
    let n = length p.bits in
    do
      a ← add_dff_of (new_flip_flop p.addr p.clock)
      v ← add_dff_of (new_flip_flop p.bits p.clock)
      k ← add_dedup_dff_of (with_init (new_flip_flop p.mask p.clock) (when allX then undef n else zeros n))
      done (record { addr = a; bits = v; mask = k; clock = inverse p.clock })

unfoldable pub delay_writes : Mem → ℕ → List WritePort → Trace (List WritePort)
delay_writes m j [] = done []
delay_writes m j (p ∷ ps) = do
  q ← (when relates_to is_read_before_write m j then delayed (is_undef m.init) p else done p)
  qs ← delay_writes m (suc j) ps
  done (q ∷ qs)

-- relations from write port j on: those to a delayed port are Undefined
unfoldable pub settled : Mem → ℕ → List Relation → List Relation
settled m j [] = []
settled m j (r ∷ rs) = (when relates_to is_read_before_write m j then Undefined else r) ∷ settled m (suc j) rs

unfoldable pub settled_flip_flop : Mem → Option ReadFlipFlop → Option ReadFlipFlop
settled_flip_flop m none = none
settled_flip_flop m (some f) = some (record { controls = f.controls; clear_value = f.clear_value; reset_value = f.reset_value; init_value = f.init_value; relations = settled m 0 f.relations })

unfoldable pub settled_port : Mem → ReadPort → ReadPort
settled_port m p = record { addr = p.addr; data_len = p.data_len; flip_flop = settled_flip_flop m p.flip_flop }

unfoldable pub emulate_read_before_write : Mem → Trace Mem
emulate_read_before_write m = do
  ws ← delay_writes m 0 m.writes
  done (record { depth = m.depth; width = m.width; init = m.init; writes = ws; reads = map (settled_port m) m.reads })
