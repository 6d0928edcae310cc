-- `record_reader::array_bytes` meets its contract.
use Rattle.rules.specs.Record.{array_bytes}
use Rattle.rules.specs.Numbers.{ceil_div}
use native.Mathlib.Omega.{arith}
use Rattle.record_reader.proofs.array_bytes.Goals as goal

-- src/lib.rt:244:1
pub returns : goal.returns
unfolding array_bytes ceil_div
returns c = (omega arith, omega arith)
