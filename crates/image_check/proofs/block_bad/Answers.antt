-- `image_check::block_bad` meets its contract.
use mathlib.Core.Path.{◌∙◌}
use Rattle.image_check.proofs.Marking.{block_is}
use Rattle.image_check.proofs.block_bad.Goals as goal

pub returns : goal.returns
returns c = c.unmarked.ensures ∙ block_is c.args.base c.args.entries.now _ c.args.count c.mark_all.ensures c.requires
