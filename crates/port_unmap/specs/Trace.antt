-- The entries of one clocked port, as port_overlay gives them.
use Rattle.std.specs.Prelude.{◌≡◌, ℕ, List, take}
use Rattle.rules.specs.Limits.{max_ports}
use Rattle.rules.specs.Value.{Value}
use Rattle.rules.specs.Cell.{ReadFlipFlop, Mem, read_at_of, read_wide_log2, flip_flop_of, output_slice}
use Rattle.rules.specs.Log.{Trace}
use Rattle.net_flip_flop.specs.declared.FlipFlop.{FlipFlop}
use Rattle.net_flip_flop.specs.View.{controls_of}
use Rattle.port_transparency.specs.Pairs.{reading}
use Rattle.port_overlay.specs.Laid.{unmapped_if}

-- a flip-flop as a cell of its own, but for its bits
pub record FlipFlopOf (f : FlipFlop) (g : ReadFlipFlop) : Type 0 where
  pub controls_are : controls_of f.controls ≡ g.controls
  pub clear_is : f.clear.now ≡ g.clear_value
  pub reset_is : f.reset.now ≡ g.reset_value
  pub init_is : f.init.now ≡ g.init_value

-- a port's relations, of which a struct has eight at most
abbrev pub related : ReadFlipFlop → List ℕ
related f = take max_ports f.relations

abbrev pub port_trace : Mem → ℕ → Value → ReadFlipFlop → Trace Value
port_trace m i output f =
    unmapped_if m (read_wide_log2 m (read_at_of m i)) (reading (read_at_of m i).addr (read_at_of m i).data_len) (read_at_of m i).data_len (related f) (flip_flop_of f) (output_slice m i output)
