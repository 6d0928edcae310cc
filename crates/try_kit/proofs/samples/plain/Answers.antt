-- `try_kit::samples::plain` meets its contract.
use Rattle.try_kit.proofs.samples.plain.Goals as goal

pub returns : goal.returns
returns c = rw (c.memory.ensures, c.read_port.ensures, c.write_port.ensures)
