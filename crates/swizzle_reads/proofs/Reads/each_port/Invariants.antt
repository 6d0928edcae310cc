-- The invariants of `swizzle_reads::Reads::each_port`.
use mathlib.Core.Path.{◌≡◌}
use Prim.Native.Nat.{◌*◌, ◌≤◌}
use lib.ListN.{length, drop}
use Rattle.image_geometry.specs.View.{layout_of}
use Rattle.swizzle_reads.specs.Going.{going_of, in_ports, ports_from, AllKept}
use Rattle.swizzle_reads.proofs.Reads.each_port.Given as goal

abbrev pub invariant-loop-i : goal.invariant-loop-i
invariant-loop-i l = record {
  in_range : l.at ≤ l.i * 4294967296;
  ports : ports_from (layout_of l.fn.rows.layout) (length l.initial.scratch) l.i (drop l.i (in_ports l.fn.given.memory l.fn.given.nets.now l.fn.given.trits.now)) (drop l.i l.wide) (drop l.at l.output) (going_of l.log l.self) ≡ ports_from (layout_of l.fn.rows.layout) (length l.initial.scratch) 0 (in_ports l.fn.given.memory l.fn.given.nets.now l.fn.given.trits.now) l.wide l.output (going_of l.initial.log l.initial.self);
  kept : AllKept (layout_of l.fn.rows.layout) (in_ports l.fn.given.memory l.fn.given.nets.now l.fn.given.trits.now) l.wide l.initial.scratch l.scratch;
}
