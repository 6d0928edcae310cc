-- The swizzle of a memory of depth 0 as the code does it: all read ports unmapped, and the outputs after replaced by X.
use Rattle.std.specs.Prelude.{List, [], length, ltb}
use Rattle.lists.specs.Choice.{when◌then◌else◌}
use Rattle.rules.specs.Limits.{max_outputs}
use Rattle.rules.specs.Value.{Value, x_nets}
use Rattle.rules.specs.Cell.{Mem}
use Rattle.rules.specs.Log.{Trace, ◌>>=◌, ◌>>◌, done, replace_value_of}
use Rattle.rules.specs.Ports.{Driving}
use Rattle.port_unmap_all.specs.All.{unmapped_all}

unfoldable pub emptied : Mem → Value → Trace (List Driving)
emptied m output = do
  v ← unmapped_all m output output
  replace_value_of v (x_nets (length v))
  done []

-- more outputs, which no memory has, give nothing
unfoldable pub emptied_if : Mem → Value → Trace (List Driving)
emptied_if m output = when ltb max_outputs (length output) then done [] else emptied m output
