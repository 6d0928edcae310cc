-- `swizzle_parts::memories::Memories::read_start` meets its contract.
use Rattle.std.proofs.Common.{refl, take, arith}
use Rattle.lists.proofs.Sum.{sum_take_more}
use Rattle.swizzle_result.specs.View.{addr_size}
use Rattle.swizzle_parts.specs.Parts.{no_read_of}
use Rattle.swizzle_parts.proofs.memories.Memories.read_start.Goals as goal

pub loop-port-preserved : goal.loop-port-preserved
loop-port-preserved c =
    let l = c.loop-port in
    record { sum = omega (arith, sum_take_more addr_size no_read_of refl (take c.args.i c.args.self.g.read_ports) l.port-index); most = omega arith }
