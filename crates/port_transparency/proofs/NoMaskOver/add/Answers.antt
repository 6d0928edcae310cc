-- `port_transparency::NoMaskOver::add` meets its contract.
use lib.ListN.{take}
use Rattle.log_entries.specs.View.{lent_of}
use Rattle.port_transparency.proofs.Covered.{no_mask}
use Rattle.port_transparency.proofs.NoMaskOver.add.Goals as goal

pub returns-clause-mask_after : goal.returns-clause-mask_after
returns-clause-mask_after c = λ few. no_mask c.args.same (take c.args.n c.args.overlay.now.mask) (lent_of c.args.log.now)
