-- Where a trit goes: places, and the image laid out.
use Rattle.std.specs.Prelude.{ℕ, zero, suc, ◌+◌, ◌-◌, ◌*◌, ◌/◌, ◌%◌, min, Bool, true, false, List, [], ◌∷◌, get_or, set, eqb, ltb}
use Rattle.std.proofs.Math.Option.{Option}
use Rattle.rules.specs.Limits.{addr_bits, None}
use Rattle.lists.specs.Choice.{when◌then◌else◌}
use Rattle.lists.specs.Lists.{part}
use Rattle.rules.specs.Logic.{Const, undef}
use Rattle.rules.specs.Geometry.{Layout, row_len_of, full_depth_of, part_depth_of, full_mems, all_mems, Spot, walk}

-- ---- places
unfoldable pub spot_of : Layout → ℕ → Spot
spot_of q row = walk addr_bits q.soft_mask q.hard row

-- the column of entry i
unfoldable pub column : Layout → ℕ → ℕ → ℕ
column q row i = (spot_of q row).chunk * row_len_of q + i

-- the memory, the row in it and the bit of that row
pub record Place : Type 0 where
  pub memory : ℕ
  pub row : ℕ
  pub bit : ℕ

unfoldable pub place_of : Layout → ℕ → ℕ → Place
place_of q row i = record { memory = column q row i / q.unit; row = (spot_of q row).row; bit = column q row i % q.unit }

-- ---- the image is flat: memories in order, row 0 and bit 0 first
-- the depth of memory n, where the first full of them have depth H and the others P; and the rows of the memories before it
unfoldable pub depth_at : ℕ → ℕ → ℕ → ℕ → ℕ
depth_at full H P n = when ltb n full then H else P

unfoldable pub rows_before : ℕ → ℕ → ℕ → ℕ → ℕ
rows_before full H P n = min n full * H + (n - full) * P

unfoldable pub mem_start : Layout → ℕ → ℕ
mem_start q n = rows_before (full_mems q) (full_depth_of q) (part_depth_of q) n * q.unit

-- the trits of all memories
unfoldable pub trits : Layout → ℕ
trits q = mem_start q (all_mems q)

-- the image of an accepted swizzle: a memory of width 0 gives no memories
unfoldable pub image_size : Layout → ℕ
image_size q = when eqb q.width 0 then 0 else trits q

-- the index of a memory's row and bit in the flat image
unfoldable pub flat_at : Layout → ℕ → ℕ → ℕ → ℕ
flat_at q memory row bit = (rows_before (full_mems q) (full_depth_of q) (part_depth_of q) memory + row) * q.unit + bit

-- of a place
unfoldable pub flat : Layout → Place → ℕ
flat q p = flat_at q p.memory p.row p.bit

unfoldable pub index_of : Layout → ℕ → ℕ → ℕ
index_of q row i = flat q (place_of q row i)

-- ---- the layout
-- the trit t goes to index `at` of the image, unless its entry is None
unfoldable pub put : Bool → ℕ → ℕ → List ℕ → List ℕ
put true at t image = image
put false at t image = set image at t

-- the entries es, counted from i, of a row with these trits, each at the place that `at` gives for its number
unfoldable pub put_row : (ℕ → ℕ) → List ℕ → ℕ → Const → List ℕ → List ℕ
put_row at [] i ts image = image
put_row at (e ∷ es) i ts image = put_row at es (suc i) ts (put (eqb e None) (at i) (get_or ts e 0) image)

-- one row written
unfoldable pub write_row : Layout → ℕ → Const → List ℕ → List ℕ
write_row q row ts image = put_row (index_of q row) q.entries 0 ts image

-- row number r of the rows, which are depth × width trits, row 0 and bit 0 first
unfoldable pub row_of : ℕ → List ℕ → ℕ → Const
row_of width rows r = part (r * width) width rows

-- the rows below n written, lowest first
unfoldable pub write_rows : Layout → List ℕ → ℕ → List ℕ → List ℕ
write_rows q rows zero image = image
write_rows q rows (suc n) image = write_row q n (row_of q.width rows n) (write_rows q rows n image)

-- the image of the rows: X everywhere, then each row
unfoldable pub layout : Layout → List ℕ → List ℕ
layout q rows = write_rows q rows q.depth (undef (image_size q))

-- memory n's part of the image
unfoldable pub image_of : Layout → List ℕ → ℕ → Const
image_of q image n = part (mem_start q n) (mem_start q (suc n) - mem_start q n) image

-- ---- what a patch goes by: the layout of the last accepted swizzle, or none
abbrev pub Laid : Type 0
Laid = Option Layout

-- a patch call: the row, its trits, and how many trits of the image are lent
pub record Patch : Type 0 where
  pub row : ℕ
  pub trits : Const
  pub room : ℕ
