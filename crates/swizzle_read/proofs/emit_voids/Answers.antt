-- `swizzle_read::emit_voids` meets its contract.
use Prim.Native.Nat.{◌-◌}
use native.Mathlib.Omega.{arith}
use Rattle.log_entries.specs.View.{lent_of}
use Rattle.swizzle_read.proofs.Steps.{voids_start, voids_turn, voids_end}
use Rattle.swizzle_read.proofs.emit_voids.Goals as goal

pub loop-init : goal.loop-init
loop-init c = voids_start c.args.width _ c.args.count (lent_of c.args.log.now) (omega arith)

pub loop-preserved : goal.loop-preserved
loop-preserved c =
    voids_turn c.args.width (lent_of c.loop.log) (lent_of c.emit_void.new.self) c.emit_void.ensures (c.args.count - c.loop.counter) _ _ (omega arith) c.loop.invariant

pub returns : goal.returns
returns c = voids_end c.args.width _ (lent_of c.loop.log) _ (omega arith) c.loop.invariant
