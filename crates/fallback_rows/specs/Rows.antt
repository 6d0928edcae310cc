-- The rows as registers as the code makes them: by the numbers of the ports and of the memories that a struct and the lent arrays hold.
use Rattle.std.specs.Prelude.{ℕ, ◌+◌, ◌*◌, min, ◌||◌, List, [], ◌∷◌, length, eqb, ltb}
use Rattle.lists.specs.Choice.{when◌then◌else◌}
use Rattle.lists.specs.Lists.{up_from}
use Rattle.rules.specs.Limits.{max_ports, max_unit, max_columns}
use Rattle.rules.specs.Logic.{Const}
use Rattle.rules.specs.Value.{Value, Control, of_const}
use Rattle.rules.specs.Cell.{Mem, write_at}
use Rattle.rules.specs.Log.{Trace, ◌>>=◌, ◌>>◌, done, add_void_of}
use Rattle.net_value.specs.View.{control_of}
use Rattle.swizzle_result.specs.declared.WideMemory.{WideMemory}
use Rattle.swizzle_parts.specs.Parts.{write_port, read_port, memory_at}
use Rattle.fallback_row.specs.Row.{over_if, held_back, driven_by}

-- these write ports over a row of w nets
unfoldable pub writes_by : ℕ → Mem → List ℕ → Value → Trace Value
writes_by w m [] v = done v
writes_by w m (j ∷ js) v = do
  x ← over_if w (write_at m j).mask (write_at m j).bits v
  writes_by w m js x

-- all write ports, and the clock of the first
abbrev pub write_numbers : WideMemory → List ℕ
write_numbers g = up_from 0 (min max_ports g.write_count)

abbrev pub clock_of : WideMemory → Control
clock_of g = control_of (write_port g 0).clock

unfoldable pub register_by : WideMemory → Mem → Const → Trace Value
register_by g m init = do
  q ← add_void_of g.unit
  v ← writes_by g.unit m (write_numbers g) q
  held_back (clock_of g) init v q
  done q

-- without write ports the trits
unfoldable pub row_by : WideMemory → Mem → Const → Trace Value
row_by g m init = when eqb g.write_count 0 then done (of_const init) else register_by g m init

-- memory n's outputs of these read ports are the row
unfoldable pub drives : WideMemory → ℕ → Value → List ℕ → Trace Unit
drives g n v [] = done tt
drives g n v (i ∷ is) = do
  driven_by ((read_port g i).first + n * g.unit) g.unit v
  drives g n v is

abbrev pub read_numbers : WideMemory → List ℕ
read_numbers g = up_from 0 (min max_ports g.read_count)

unfoldable pub row_trace : WideMemory → Mem → Const → ℕ → Trace Unit
row_trace g m init n = do
  v ← row_by g m init
  drives g n v (read_numbers g)

-- memory n, whose trits are those of one row
abbrev pub mem_at : WideMemory → List ℕ → List ℕ → ℕ → Mem
mem_at g nets image n = (memory_at g nets [] image n).memory

unfoldable pub row_if : WideMemory → List ℕ → List ℕ → ℕ → Trace Unit
row_if g nets image n =
    when eqb (length (mem_at g nets image n).init) g.unit then row_trace g (mem_at g nets image n) (mem_at g nets image n).init n else done tt

-- these memories in turn
unfoldable pub rows_of : WideMemory → List ℕ → List ℕ → List ℕ → Trace Unit
rows_of g nets image [] = done tt
rows_of g nets image (n ∷ ns) = do
  row_if g nets image n
  rows_of g nets image ns

-- all of them; a struct whose numbers pass the limits of a swizzle gives nothing
unfoldable pub lowered : WideMemory → List ℕ → List ℕ → Trace Unit
lowered g nets image = when ltb max_unit g.unit || ltb max_columns g.mems then done tt else rows_of g nets image (up_from 0 g.mems)
