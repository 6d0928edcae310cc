-- The rows of an image read back, one after the other: numbers and whole answers.
use Rattle.std.specs.Prelude.{ℕ, ◌*◌, ◌||◌, List, [], length}
use Rattle.std.proofs.Math.Option.{none, some}
use Rattle.lists.specs.Choice.{when◌then◌else◌}
use Rattle.lists.specs.Lists.{up_from, concat_map}
use Rattle.rules.specs.Geometry.{Layout}
use Rattle.rules.specs.Image.{image_size, Laid}
use Rattle.rules.specs.Conditions.{no_room_of}
use Rattle.rules.specs.Beside.Layouts.{read_row}
use Rattle.rules.specs.Answers.{Filled, filled}

-- n rows from row r on
unfoldable pub rows_on : Layout → List ℕ → ℕ → ℕ → List ℕ
rows_on q image r n = concat_map (read_row q image) (up_from r n)

unfoldable pub image_rows : Layout → List ℕ → List ℕ
image_rows q image = rows_on q image 0 q.depth

-- 20 for the image or the room for the rows
unfoldable pub read_rows_refusal_by : ℕ → ℕ → ℕ → ℕ → ℕ → ℕ
read_rows_refusal_by depth width size room len = when no_room_of len size || no_room_of room (depth * width) then 20 else 0

unfoldable pub read_rows_refusal_of : Layout → ℕ → ℕ → ℕ
read_rows_refusal_of q room len = read_rows_refusal_by q.depth q.width (image_size q) room len

unfoldable pub read_rows_refusal : Laid → ℕ → ℕ → ℕ
read_rows_refusal none room len = 23
read_rows_refusal (some q) room len = read_rows_refusal_of q room len

unfoldable pub rows_read : Laid → List ℕ → List ℕ
rows_read none image = []
rows_read (some q) image = image_rows q image

unfoldable pub read_rows_call : Laid → List ℕ → List ℕ → Filled
read_rows_call laid room image = filled (read_rows_refusal laid (length room) (length image)) room (rows_read laid image)
