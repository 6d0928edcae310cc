-- `try_kit::samples::with_read` meets its contract.
use mathlib.Core.Path.{sym, ap}
use native.Mathlib.Omega.{arith}
use lib.Seq.{set_out}
use Rattle.net_memory.proofs.Sized.{read_ports_8}
use Rattle.try_kit.specs.Build.{with_reads}
use Rattle.try_kit.proofs.samples.with_read.Goals as goal

pub returns-else-i-lt8 : goal.returns-else-i-lt8
returns-else-i-lt8 c =
    let a = c.args in
    let e = read_ports_8 a.m _ c.well_formed.0 in
    sym (ap (with_reads a.m) (set_out a.m.read_ports a.i a.p (omega (arith, e))))
