-- The write ports that a read port is transparent to, laid over what it reads one after the other; and the flip-flop behind it.
use Rattle.std.specs.Prelude.{ℕ, suc, ltb, List, [], ◌∷◌}
use Rattle.rules.specs.Limits.{max_merge}
use Rattle.lists.specs.Choice.{when◌then◌else◌}
use Rattle.rules.specs.Value.{Value}
use Rattle.rules.specs.Cell.{FlipFlop, Relation, ReadPort, Mem, write_at, write_wide_log2, is_transparent}
use Rattle.rules.specs.Log.{Trace, ◌>>=◌, done, add_void_of, add_dff_of, replace_value_of}
use Rattle.rules.specs.Ports.{Overlay}
use Rattle.net_flip_flop.specs.View.{controls_of, flip_flop}
use Rattle.net_flip_flop.specs.declared.FlipFlop as machine
use Rattle.port_transparency.specs.Pairs.{plain, laid_if}

-- write port j over what a read port of this k reads
unfoldable pub laid_by : Mem → ℕ → ReadPort → ℕ → Overlay → Trace Overlay
laid_by m kr r j o = laid_if (write_wide_log2 m (write_at m j)) kr (write_at m j) r o

-- the same by the relation to it
unfoldable pub laid_as : Mem → ℕ → ReadPort → Relation → ℕ → Overlay → Trace Overlay
laid_as m kr r x j o = when is_transparent x then laid_by m kr r j o else done o

-- all of them, from write port j on
unfoldable pub laid_from : Mem → ℕ → ReadPort → ℕ → List Relation → Overlay → Trace Overlay
laid_from m kr r j [] o = done o
laid_from m kr r j (x ∷ xs) o = do
  p ← laid_as m kr r x j o
  laid_from m kr r (suc j) xs p

-- a flip-flop whose results take the place of these nets
unfoldable pub behind : FlipFlop → Value → Trace Value
behind f from = do
  q ← add_dff_of f
  replace_value_of from q

-- a flip-flop with other bits
abbrev pub with_bits : machine.FlipFlop → Value → FlipFlop
with_bits f b = flip_flop (controls_of f.controls) b f.clear.now f.reset.now f.init.now

-- unmap_read_dff of a port of n nets: its void nets, the write ports over them, and the flip-flop behind
unfoldable pub unmapped : Mem → ℕ → ReadPort → ℕ → List Relation → (Value → FlipFlop) → Value → Trace Value
unmapped m kr r n xs f from = do
  v ← add_void_of n
  o ← laid_from m kr r 0 xs (plain v)
  behind (f o.bits) from

-- more nets than a merge takes, which no port of a memory has, give nothing
unfoldable pub unmapped_if : Mem → ℕ → ReadPort → ℕ → List Relation → (Value → FlipFlop) → Value → Trace Value
unmapped_if m kr r n xs f from = when ltb max_merge n then done [] else unmapped m kr r n xs f from
