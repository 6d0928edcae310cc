-- Parts of into_pos and remap_reset_over_enable.
use Rattle.std.specs.Prelude.{ℕ, get_or}
use Rattle.rules.specs.Limits.{X}
use Rattle.rules.specs.Value.{Control, Pos, Neg}
use Rattle.rules.specs.Cell.{Controls}
use Rattle.rules.specs.Log.{Trace, ◌>>=◌, done, into_pos_of, add_and_of, with_reset}

-- the nots that into_pos logs
unfoldable pub nots_of : Control → ℕ
nots_of (Pos n) = 0
nots_of (Neg n) = 1

-- the reset of a flip-flop whose enable is over it, where neither is a constant that settles it
unfoldable pub gated_reset : Controls → Trace Controls
gated_reset c = do
  r ← into_pos_of c.reset
  e ← into_pos_of c.enable
  n ← add_and_of r e
  done (with_reset c (Pos (get_or n 0 X)))
