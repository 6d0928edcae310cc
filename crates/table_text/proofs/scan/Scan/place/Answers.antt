-- `table_text::scan::Scan::place` meets its contract.
use Rattle.table_text.specs.Scan.{place_of}
use Rattle.table_text.proofs.scan.Scan.place.Goals as goal

pub returns : goal.returns
unfolding place_of
returns c = cc
