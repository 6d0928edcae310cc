-- `try_kit::samples::with_write` meets its contract.
use mathlib.Core.Path.{sym, ap}
use native.Mathlib.Omega.{arith}
use lib.Seq.{set_out}
use Rattle.net_memory.proofs.Sized.{write_ports_8}
use Rattle.try_kit.specs.Build.{with_writes}
use Rattle.try_kit.proofs.samples.with_write.Goals as goal

pub returns-else-i-lt8 : goal.returns-else-i-lt8
returns-else-i-lt8 c =
    let a = c.args in
    let e = write_ports_8 a.m _ c.well_formed.0 in
    sym (ap (with_writes a.m) (set_out a.m.write_ports a.i a.p (omega (arith, e))))
