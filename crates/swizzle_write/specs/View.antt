-- What the machine's port with a row of its mask logs and stores.
use Rattle.std.specs.Prelude.{List, ℕ}
use Rattle.lists.specs.Lists.{up_from}
use Rattle.rules.specs.Log.{Trace}
use Rattle.swizzle_laws.specs.Stores.{spill_masks}
use Rattle.swizzle_columns.specs.Wide.{port_starts}
use Rattle.swizzle_write.specs.declared.Masked.{Masked}

-- its pieces in turn, into a room that holds this
abbrev pub masks_by : Masked → List ℕ → Trace (List ℕ)
masks_by m to = spill_masks m.port.mems m.port.rows m.port.unit m.per_row (port_starts m.port m.per_row) m.mux.now m.row.now (up_from 0 m.port.pieces) to
