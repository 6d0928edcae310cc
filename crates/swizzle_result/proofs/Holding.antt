-- The wide ports that the traces of the rules give are held by a struct with their lengths, wide logs, controls and first output net.
use mathlib.Core.Path.{◌≡◌, refl, sym, ap, ◌∙◌}
use Prim.Native.Nat.{ℕ, ◌*◌, ◌^◌}
use mathlib.Core.Option.{Option, none, some}
use mathlib.Core.List.{List}
use lib.ListN.{length}
use Rattle.rules.specs.Cell as rules
use Rattle.rules.specs.Log.{◌>>=◌, done}
use Rattle.rules.specs.Geometry.{Layout, columns}
use Rattle.rules.specs.Swizzle.{Split, swizzle_write, wide_flip_flop}
use Rattle.net_value.specs.View.{control_of}
use Rattle.net_flip_flop.specs.View.{controls_of}
use Rattle.net_memory.specs.FlipFlop.{MemoryReadFlipFlop}
use Rattle.std.specs.Prelude.{None, Some}
use Rattle.swizzle_laws.proofs.Whole.{bits_whole, mask_whole, const_whole}
use Rattle.swizzle_result.specs.declared.WideWritePort.{WideWritePort}
use Rattle.swizzle_result.specs.Held.{HeldWrite, HeldFlipFlop}

-- ---- a write port
module _ (q : Layout) (s : Split) (p : rules.WritePort) (n : ℕ) where
  write_split : (swizzle_write q s p n).value.split ≡ s
  unfolding swizzle_write ◌>>=◌ done
  write_split = refl

  write_addr_lem : (swizzle_write q s p n).value.port.addr ≡ s.addr
  unfolding swizzle_write ◌>>=◌ done
  write_addr_lem = refl

  write_clock : (swizzle_write q s p n).value.port.clock ≡ p.clock
  unfolding swizzle_write ◌>>=◌ done
  write_clock = refl

-- ---- a read port
-- the flip-flop of the port before, and what stands for it
abbrev pub SameFlipFlop : MemoryReadFlipFlop → List ℕ → Option rules.ReadFlipFlop → Type 0
SameFlipFlop None relations none = Unit
SameFlipFlop None relations (some x) = ⊥
SameFlipFlop (Some f) relations none = ⊥
SameFlipFlop (Some f) relations (some x) = (controls_of f ≡ x.controls) × (relations ≡ x.relations)

pub holding_clock : (q : Layout) (s : Split) (f : MemoryReadFlipFlop) (relations : List ℕ) (x : Option rules.ReadFlipFlop) → SameFlipFlop f relations x → HeldFlipFlop f relations q s (wide_flip_flop q s x)
unfolding wide_flip_flop
holding_clock q s None relations none h = tt
holding_clock q s None relations (some x) h = absurd h
holding_clock q s (Some f) relations none h = absurd h
holding_clock q s (Some f) relations (some x) h = record {
  controls_are = h.0;
  relations_are = h.1;
  clear_whole = const_whole q s x.clear_value;
  reset_whole = const_whole q s x.reset_value;
  init_whole = const_whole q s x.init_value;
}
