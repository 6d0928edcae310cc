-- `try_kit::spoilt::control_or` meets its contract.
use Rattle.try_kit.proofs.spoilt.control_or.Goals as goal

pub returns-then-bad : goal.returns-then-bad
returns-then-bad c = rw c.if-bad.true
