-- The parts of a row's register as the code makes them, for any lengths.
use Rattle.std.specs.Prelude.{ℕ, Bool, ◌||◌, not, [], length, eqb, ltb}
use Rattle.lists.specs.Choice.{when◌then◌else◌}
use Rattle.lists.specs.Lists.{up_from}
use Rattle.rules.specs.Limits.{max_merge, max_nets}
use Rattle.rules.specs.Logic.{Const}
use Rattle.rules.specs.Value.{Value, Control}
use Rattle.rules.specs.Cell.{plain_controls}
use Rattle.rules.specs.Log.{Trace, done, add_void_of, replace_value_of}
use Rattle.rules.specs.Merge.{add_bitwise_mux_of}
use Rattle.net_flip_flop.specs.View.{flip_flop}
use Rattle.port_overlay.specs.Laid.{behind}

-- the void nets; a row of more nets than a merge takes keeps what it has
unfoldable pub start_if : ℕ → Value → Trace Value
start_if w v = when ltb max_merge w then done v else add_void_of w

-- a write port over the nets v
abbrev pub over : Value → Value → Value → Trace Value
over mask bits v = add_bitwise_mux_of mask bits v

-- one whose data or mask is not w nets gives nothing
unfoldable pub unfit : ℕ → Value → Value → Bool
unfit w mask bits = ltb max_merge w || (not (eqb (length mask) w) || not (eqb (length bits) w))

unfoldable pub over_if : ℕ → Value → Value → Value → Trace Value
over_if w mask bits v = when unfit w mask bits then done v else over mask bits v

-- the flip-flop of the nets v, whose results take the place of q
abbrev pub held_back : Control → Const → Value → Value → Trace Value
held_back clock init v q = behind (flip_flop (plain_controls clock) v init init init) q

unfoldable pub held_if : ℕ → Control → Const → Value → Value → Trace Value
held_if w clock init v q = when ltb max_merge w then done [] else held_back clock init v q

-- w outputs from net `first` on are the row
unfoldable pub driven_by : ℕ → ℕ → Value → Trace Value
driven_by first w v = when ltb max_merge w || ltb max_nets first then done [] else replace_value_of (up_from first w) v
