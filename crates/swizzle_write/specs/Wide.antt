-- What a write port leaves, for any numbers: nothing where they pass the limits.
use Rattle.std.specs.Prelude.{ℕ, ◌≤◌, Bool, ◌&&◌, List, length, replicate, leb}
use Rattle.lists.specs.Choice.{when◌then◌else◌}
use Rattle.lists.specs.Lists.{up_from}
use Rattle.rules.specs.Limits.{X}
use Rattle.rules.specs.Value.{Value}
use Rattle.rules.specs.Log.{Trace, done}
use Rattle.rules.specs.Swizzle.{repeating}
use Rattle.swizzle_laws.specs.Rooms.{mux_room}
use Rattle.swizzle_laws.specs.Stores.{spill_masks}
use Rattle.swizzle_columns.specs.declared.WidePort.{WidePort}
use Rattle.swizzle_columns.specs.Rows.{all_sources}
use Rattle.swizzle_columns.specs.Wide.{sizes_fit, rows_fit, PortFits, port_starts}

unfoldable pub can_write : WidePort → ℕ → ℕ → ℕ → Bool
can_write p len short size = sizes_fit p size && (rows_fit p len && leb short mux_room)

-- the same as facts
pub record Writes (p : WidePort) (len short size : ℕ) : Type 0 where
  pub port : PortFits p len size
  pub few : short ≤ mux_room

-- the comparisons and muxes, whose value is the mask of all columns
unfoldable pub port_masks : WidePort → Value → List ℕ → Value → ℕ → Trace (List ℕ)
port_masks p mux es mask size =
    spill_masks p.mems p.rows p.unit (length es) (port_starts p (length es)) mux (repeating X (all_sources p.olds p.width es) mask) (up_from 0 p.pieces) (replicate size 0)

-- ---- any numbers: `room` is what a lent room holds before
unfoldable pub masks_of : WidePort → Value → List ℕ → Value → List ℕ → Trace (List ℕ)
masks_of p mux es mask room = when can_write p (length es) (length mux) (length room) then port_masks p mux es mask (length room) else done room
