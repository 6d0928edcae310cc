-- `try_kit::nets::net_at` meets its contract.
use Rattle.try_kit.proofs.nets.net_at.Goals as goal

pub returns : goal.returns
returns c = rw (c.cell_net.ensures, c.last_net-last.ensures)
