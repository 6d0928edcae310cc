-- A read port's flip-flop, which is its controls, or none.
use Rattle.std.specs.Prelude.{Option}
use Rattle.net_flip_flop.specs.declared.Controls.{Controls}

abbrev pub MemoryReadFlipFlop : Type 0
MemoryReadFlipFlop = Option Controls
