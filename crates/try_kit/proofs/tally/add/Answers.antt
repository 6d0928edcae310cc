-- `try_kit::tally::add` meets its contract.
use Rattle.try_kit.proofs.tally.add.Goals as goal

pub returns : goal.returns
returns c = λ i. record { made = c.more.ensures i; failed = c.more-2.ensures i }
