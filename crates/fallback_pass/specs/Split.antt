-- The words and nets of the split of a memory without flip-flops by the plan of a fallback, in closed form.
use Rattle.std.specs.Prelude.{ℕ, ◌+◌, ◌*◌, eqb}
use Rattle.lists.specs.Choice.{when◌then◌else◌}
use Rattle.rules.specs.Cell.{Mem, output_len}
use Rattle.rules.specs.Fallback.{fallback_plan}
use Rattle.rules.specs.Beside.Counts.{Count, swizzle_count}
use Rattle.port_unmap_all.specs.All.{all_bare}

-- of the rows
unfoldable pub split_rows : Mem → Count
split_rows m = swizzle_count (all_bare m) (fallback_plan (all_bare m))

-- depth 0 replaces the outputs by X
unfoldable pub split_words : Mem → ℕ
split_words m = when eqb m.depth 0 then 4 + 2 * output_len m else (split_rows m).words

unfoldable pub split_nets : Mem → ℕ
split_nets m = when eqb m.depth 0 then 0 else (split_rows m).nets
