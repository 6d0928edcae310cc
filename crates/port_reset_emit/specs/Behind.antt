-- unmap_read_init_reset_transparency without its numbers: the write ports laid over no data, the flip-flops of data and mask, and the muxes by them.
use Rattle.std.specs.Prelude.{ℕ, Bool, not, List, [], replicate, ltb}
use Rattle.lists.specs.Choice.{when◌then◌else◌}
use Rattle.rules.specs.Limits.{max_merge, trit_x}
use Rattle.rules.specs.Logic.{undef, ones, is_undef}
use Rattle.rules.specs.Value.{Value, x_nets}
use Rattle.rules.specs.Cell.{Controls, FlipFlop, Relation, ReadPort, Mem, or_empty}
use Rattle.rules.specs.Log.{Trace, ◌>>=◌, ◌>>◌, done, add_void_of, add_dff_of, replace_value_of}
use Rattle.rules.specs.Merge.{add_dedup_dff_of, add_bitwise_mux_of}
use Rattle.net_flip_flop.specs.View.{controls_of}
use Rattle.net_flip_flop.specs.declared.FlipFlop as machine
use Rattle.port_transparency.specs.Pairs.{with_mask}
use Rattle.port_overlay.specs.Laid.{laid_from}

-- the trit that the mask's flip-flop starts with
abbrev pub start_trit : Bool → ℕ
start_trit initial = when initial then 1 else trit_x

-- the flip-flop of a mask of n nets
unfoldable pub mask_behind : Controls → Bool → ℕ → Value → FlipFlop
mask_behind c initial n mask = record { bits = mask; controls = c; clear_value = ones n; reset_value = ones n; init_value = when initial then ones n else undef n }

-- the mask's flip-flop behind this one
abbrev pub mask_of : machine.FlipFlop → ℕ → Value → FlipFlop
mask_of f n mask = mask_behind (controls_of f.controls) (not (is_undef f.init.now)) n mask

-- muxes whose results take the place of these nets
unfoldable pub choice : Value → Value → Value → Value → Trace Value
choice k d v from = do
  b ← add_bitwise_mux_of k d v
  replace_value_of from b
  done v

-- the two flip-flops, the void nets that the port reads into, and the muxes
unfoldable pub reset_behind : FlipFlop → FlipFlop → ℕ → Value → Trace Value
reset_behind f g n from = do
  d ← add_dff_of f
  k ← add_dedup_dff_of g
  v ← add_void_of n
  choice k d v from

-- behind the write ports that these relations are Transparent to, laid over no data
unfoldable pub reset_laid : Mem → ℕ → ReadPort → ℕ → List Relation → (Value → FlipFlop) → (Value → FlipFlop) → Value → Trace Value
reset_laid m kr r n xs f g from = do
  o ← laid_from m kr r 0 xs (with_mask (x_nets n) (replicate n 0))
  reset_behind (f o.bits) (g (or_empty o.mask)) n from

-- more nets than a merge takes, which no port of a memory has, give nothing
unfoldable pub reset_if : Mem → ℕ → ReadPort → ℕ → List Relation → (Value → FlipFlop) → (Value → FlipFlop) → Value → Trace Value
reset_if m kr r n xs f g from = when ltb max_merge n then done [] else reset_laid m kr r n xs f g from
