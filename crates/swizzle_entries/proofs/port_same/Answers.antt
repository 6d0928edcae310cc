-- `swizzle_entries::port_same` meets its contract.
use Prim.Native.Nat.{ℕ, ◌/◌}
use mathlib.Core.Path.{ap, ◌∙◌}
use native.Mathlib.Nat.{div-le_self}
use native.Mathlib.Omega.{arith}
use mathlib.Core.List.{List}
use lib.ListN.{length}
use Rattle.net_memory.specs.Ports.{write_of}
use Rattle.swizzle_entries.proofs.Changes.{unchanged_by}
use Rattle.swizzle_entries.proofs.port_same.Goals as goal

pub overflow_cast-count : goal.overflow_cast-count
overflow_cast-count c = omega (arith, div-le_self (length c.bits.result.now) c.args.width, c.bits.ensures.1)

pub returns : goal.returns
returns c =
    let v = c.args in
    λ m w. c.masks_same.ensures ∙ unchanged_by m (write_of v.port) v.bit v.width _ _ w c.mask.ensures (ap (λ (l : List ℕ). length l / v.width) c.bits.ensures.0)
