-- The invariants of `swizzle_parts::memories::Memories::read_start`.
use Rattle.std.proofs.Common.{◌≡◌, ◌≤◌, ◌+◌, ◌*◌, take}
use Rattle.lists.specs.Lists.{sum_by}
use Rattle.swizzle_result.specs.View.{addr_size, reads_start}
use Rattle.swizzle_parts.proofs.memories.Memories.read_start.Given as goal

abbrev pub invariant-loop-port : goal.invariant-loop-port
invariant-loop-port l = record {
  sum : l.at ≡ reads_start l.fn.self.g + sum_by addr_size (take l.port-index l.port-items);
  most : l.at ≤ 0x1000000000 + l.port-index * 0x100000000;
}
