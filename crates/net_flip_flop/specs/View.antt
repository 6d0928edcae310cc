-- What a machine's controls and flip-flops are in terms of the rules.
use Rattle.std.specs.Prelude.{ℕ, List}
use Rattle.rules.specs.Cell as rules
use Rattle.net_value.specs.View.{control_of}
use Rattle.net_flip_flop.specs.declared.Controls.{Controls}
use Rattle.net_flip_flop.specs.declared.FlipFlop.{FlipFlop}

abbrev pub controls_of : Controls → rules.Controls
controls_of c = record {
  clock = control_of c.clock;
  clear = control_of c.clear;
  reset = control_of c.reset;
  enable = control_of c.enable;
  reset_over_enable = c.reset_over_enable;
}

-- controls, data, and clear, reset and init trits
abbrev pub flip_flop : rules.Controls → List ℕ → List ℕ → List ℕ → List ℕ → rules.FlipFlop
flip_flop c bits clear reset init = record { bits = bits; controls = c; clear_value = clear; reset_value = reset; init_value = init }

abbrev pub flip_flop_of : FlipFlop → rules.FlipFlop
flip_flop_of f = flip_flop (controls_of f.controls) f.bits.now f.clear.now f.reset.now f.init.now
