-- `try_lent::cases::BothWaysCountedTrial::tried` meets its contract.
use Rattle.try_kit.specs.Numbered.{one_case_more}
use Rattle.try_lent.proofs.cases.BothWaysCountedTrial.tried.Goals as goal

pub returns : goal.returns
unfolding one_case_more
returns c = (_, (_, c.add.ensures))
