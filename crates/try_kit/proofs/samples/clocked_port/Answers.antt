-- `try_kit::samples::clocked_port` meets its contract.
use Rattle.try_kit.proofs.samples.clocked_port.Goals as goal

pub returns : goal.returns
returns c = rw (c.read_by.ensures, c.usual.ensures)
