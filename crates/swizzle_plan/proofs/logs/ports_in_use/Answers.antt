-- `swizzle_plan::logs::ports_in_use` meets its contract.
use Rattle.std.proofs.Common.{ap, ◌∙◌}
use Rattle.lists.specs.Lists.{up_from}
use Rattle.swizzle_plan.proofs.Whole.{first_ports}
use Rattle.swizzle_plan.proofs.logs.ports_in_use.Goals as goal

pub returns : goal.returns
returns c = c.part.ensures.part ∙ first_ports _ c.ports_used.ensures.1 ∙ ap (up_from 0) c.ports_used.ensures.0
