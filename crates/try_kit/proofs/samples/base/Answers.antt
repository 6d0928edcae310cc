-- `try_kit::samples::base` meets its contract.
use Rattle.try_kit.proofs.samples.base.Goals as goal

pub returns : goal.returns
returns c =
    let p = c in
    let q = p in
    rw (
      c.with_read.ensures,
      c.with_read-m.ensures,
      p.clocked_port-2.ensures,
      p.with_write-m.ensures,
      p.write_port-2.ensures,
      q.memory-m.ensures,
      q.clocked_port.ensures,
      q.write_port.ensures,
      q.read_by-none.ensures,
    )
