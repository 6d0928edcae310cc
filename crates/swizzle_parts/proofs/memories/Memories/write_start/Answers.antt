-- `swizzle_parts::memories::Memories::write_start` meets its contract.
use Rattle.std.proofs.Common.{take, arith}
use Rattle.swizzle_result.specs.View.{write_size}
use Rattle.swizzle_parts.specs.Parts.{no_write_of}
use Rattle.swizzle_parts.proofs.Found.{sum_more}
use Rattle.swizzle_parts.proofs.memories.Memories.write_start.Goals as goal

pub loop-port-preserved : goal.loop-port-preserved
loop-port-preserved c =
    let l = c.loop-port in
    record { sum = omega (arith, sum_more (write_size c.args.self.g) no_write_of (take c.args.j c.args.self.g.write_ports) l.port-index c.loop-port-test.true); most = omega arith }
