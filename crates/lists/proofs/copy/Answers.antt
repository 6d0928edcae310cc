-- `lists::copy` meets its contract.
use Rattle.std.proofs.Common.{◌∙◌}
use Rattle.lists.proofs.Store.{copy_done}
use Rattle.lists.proofs.Mids.{sets_from}
use Rattle.lists.proofs.copy.Goals as goal

pub returns : goal.returns
returns g c =
    copy_done c.args.to.now c.copy_part.new.to c.min-start.result c.min-n.result c.args.from.now c.copy_part.ensures c.min-n.ensures
    ∙ sets_from c.args.to.now c.args.from.now c.args.at c.min-start.result c.min-start.ensures
