-- `record_listing::list_record` meets its contract.
use Rattle.record_listing.proofs.Rooms.{record_whole}
use mathlib.Core.Path.{◌∙◌}
use Rattle.record_listing.proofs.list_record.Goals as goal

pub returns : goal.returns
returns c =
    let a = c.args in
    c.list_input.ensures ∙ record_whole a.out.now a.bytes.now
