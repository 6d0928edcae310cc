-- The invariants of `swizzle_parts::memories::Memories::write_start`.
use Rattle.std.proofs.Common.{◌≡◌, ◌≤◌, ◌*◌, take}
use Rattle.lists.specs.Lists.{sum_by}
use Rattle.swizzle_result.specs.View.{write_size}
use Rattle.swizzle_parts.proofs.memories.Memories.write_start.Given as goal

abbrev pub invariant-loop-port : goal.invariant-loop-port
invariant-loop-port l = record { sum : l.at ≡ sum_by (write_size l.fn.self.g) (take l.port-index l.port-items); most : l.at ≤ l.port-index * 0x200000000 }
