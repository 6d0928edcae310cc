-- `try_kit::nets::select_of` meets its contract.
use Rattle.try_kit.proofs.nets.select_of.Goals as goal

pub returns-then-neg : goal.returns-then-neg
returns-then-neg c = rw c.if-neg.true

pub returns : goal.returns
returns c = rw c.if-neg.false
