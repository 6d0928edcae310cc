-- `table_read::Header::is_bad` meets its contract.
use Rattle.rules.specs.Beside.Shape.{laid_shape}
use Rattle.std.proofs.Common.{ap, ◌∙◌}
use Rattle.table_read.specs.View.{layout_given}
use Rattle.table_read.proofs.Tables.{bad_by}
use Rattle.table_read.proofs.Header.is_bad.Goals as goal

pub returns : goal.returns
returns c =
    c.is_err.ensures.value
    ∙ bad_by (layout_given c.args.self.now.params c.args.self.now.entries) c.check_layout.result (c.check_layout.ensures.shape ∙ ap laid_shape c.layout.ensures)
