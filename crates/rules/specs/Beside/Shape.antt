-- The sizes that a layout gives and the place of an entry: calls that document 01 does not name, with their numbers and whole answers.
use Rattle.std.specs.Prelude.{ℕ, ◌*◌, ◌≤◌, ◌<◌, ◌||◌, List, length}
use Rattle.std.proofs.Math.Option.{Option, none, some}
use Rattle.lists.specs.Choice.{when◌then◌else◌}
use Rattle.rules.specs.Geometry.{Layout, row_len_of, full_depth_of, part_depth_of, full_mems, all_mems, columns, swizzle_depths}
use Rattle.rules.specs.Image.{Place, place_of, index_of, trits, image_size, Laid}
use Rattle.rules.specs.Conditions.{bad_entries, indivisible, result_too_large, not_below, no_room_of, bad_layout_sizes, bad_layout}
use Rattle.rules.specs.Numbers.{top_bits}
use Rattle.rules.specs.Limits.{addr_bits, max_depth, max_width, max_bits, max_row, max_unit, max_hard}
use Rattle.rules.specs.Answers.{Answer, answer_of, Filled, filled}

-- ---- sizes
-- within number 1's limits
pub record Small (depth width len unit hard : ℕ) : Type 0 where
  pub depth_max : depth ≤ max_depth
  pub width_max : width ≤ max_width
  pub bits_max : depth * width ≤ max_bits
  pub len_max : len ≤ max_row
  pub unit_pos : 0 < unit
  pub unit_max : unit ≤ max_unit
  pub hard_max : hard ≤ max_hard

pub record Shape : Type 0 where
  pub full_mems : ℕ
  pub all_mems : ℕ
  pub full_depth_of : ℕ
  pub part_depth_of : ℕ
  pub columns : ℕ
  pub trits : ℕ
  pub image_size : ℕ

unfoldable pub shape_of : Layout → Shape
shape_of q = record {
  full_mems = full_mems q;
  all_mems = all_mems q;
  full_depth_of = full_depth_of q;
  part_depth_of = part_depth_of q;
  columns = columns q;
  trits = trits q;
  image_size = image_size q;
}

-- 1, of what a layout holds
unfoldable pub shape_number : Layout → ℕ
shape_number q = when bad_layout_sizes q.depth q.width (row_len_of q) q.unit q.hard then 1 else 0

unfoldable pub shape_call : Layout → Answer Shape
shape_call q = answer_of (shape_number q) (shape_of q)

-- the depths into lent room
unfoldable pub depths_refusal : ℕ → Layout → ℕ
depths_refusal room q =
    when bad_layout_sizes q.depth q.width (row_len_of q) q.unit q.hard then 1 else when no_room_of room (all_mems q) then 20 else 0

unfoldable pub depths_call : List ℕ → Layout → Filled
depths_call out q = filled (depths_refusal (length out) q) out (swizzle_depths q)

-- ---- the tests of a plan
unfoldable pub entries_number : ℕ → List ℕ → ℕ
entries_number width es = when bad_entries width es then 7 else 0

unfoldable pub soft_mask_number : ℕ → ℕ → ℕ
soft_mask_number depth mask = when indivisible depth (top_bits addr_bits mask) then 8 else 0

-- 10, and 1 where the sizes pass their limits
unfoldable pub result_number : Layout → ℕ
result_number q =
    when bad_layout_sizes q.depth q.width (row_len_of q) q.unit q.hard then 1 else when result_too_large q then 10 else 0

-- the laid-out state of a layout: none where no accepted swizzle has it
unfoldable pub handed_on : Layout → Laid
handed_on q = when bad_layout q then none else some q

-- its sizes
unfoldable pub laid_shape : Layout → Option Shape
laid_shape q = when bad_layout q then none else some (shape_of q)

-- ---- the place of entry i of a row
pub record Located : Type 0 where
  pub place : Place
  -- in the flat image
  pub index : ℕ

unfoldable pub place_number : Layout → ℕ → ℕ → ℕ
place_number q row i =
    when bad_layout_sizes q.depth q.width (row_len_of q) q.unit q.hard then 1
    else when not_below q.depth row || not_below (row_len_of q) i then 15
    else 0

unfoldable pub place_call : Layout → ℕ → ℕ → Answer Located
place_call q row i = answer_of (place_number q row i) (record { place = place_of q row i; index = index_of q row i })
