-- `try_log::cells::OneEntryCountedTrial::tried` meets its contract.
use Rattle.try_kit.specs.Numbered.{one_case_more}
use Rattle.try_log.proofs.cells.OneEntryCountedTrial.tried.Goals as goal

pub returns : goal.returns
unfolding one_case_more
returns c = (_, (_, c.add.ensures))
