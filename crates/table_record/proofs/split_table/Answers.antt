-- `table_record::split_table` meets its contract.
use Rattle.std.proofs.Common.{ap, ◌∙◌}
use Rattle.table_record.proofs.Records.{of_text}
use Rattle.table_record.proofs.Mapped.{called}
use Rattle.table_record.specs.Split.{Split}
use Rattle.image_geometry.specs.View.{layout_of}
use Rattle.table_record.proofs.split_table.Goals as goal

pub returns : goal.returns
returns c =
    ap (λ (a : Split). record { answer = a; out = c.record_of.new.out }) (called c.record_of.result c.map_err.result c.map_err.ensures.cases)
    ∙ of_text c.args.table.now c.args.out.now c.record_of.new.out (layout_of c.layout.result) c.trits.result.now _ c.layout.ensures c.trits.ensures c.record_of.ensures
