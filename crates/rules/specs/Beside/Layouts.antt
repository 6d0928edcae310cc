-- An image laid out from rows, and a row read back: numbers and whole answers.
use Rattle.std.specs.Prelude.{ℕ, ◌*◌, ◌||◌, not, List, [], map, length, get_or, eqb}
use Rattle.std.proofs.Math.Option.{none, some}
use Rattle.lists.specs.Choice.{when◌then◌else◌, ◌or_else◌, leaves}
use Rattle.lists.specs.Lists.{up_from}
use Rattle.lists.specs.Distinct.{place_in}
use Rattle.rules.specs.Limits.{trit_x}
use Rattle.rules.specs.Logic.{Const}
use Rattle.rules.specs.Geometry.{Layout}
use Rattle.rules.specs.Image.{image_size, index_of, Laid, Patch}
use Rattle.rules.specs.Conditions.{bad_trits, not_below, no_room_of}
use Rattle.rules.specs.Refusals.{lent_refusal}
use Rattle.rules.specs.Patch.{laid_out}
use Rattle.rules.specs.Answers.{Filled, filled, Patched, patched_with}

-- ---- an image laid out: the rows are the memory's initial trits
-- 2, 4, then 20, by the depth, the width and the image's trits of a layout: of this room and these rows
unfoldable pub fill_refusal_by : ℕ → ℕ → ℕ → ℕ → List ℕ → ℕ
fill_refusal_by depth width size room rows =
    when not (eqb (length rows) (depth * width)) then 2 else when bad_trits rows then 4 else lent_refusal room size

unfoldable pub fill_refusal_of : Layout → ℕ → List ℕ → ℕ
fill_refusal_of q room rows = fill_refusal_by q.depth q.width (image_size q) room rows

unfoldable pub fill_refusal : Laid → ℕ → List ℕ → ℕ
fill_refusal none room rows = 23
fill_refusal (some q) room rows = fill_refusal_of q room rows

-- the lent image once the rows are laid out in it
unfoldable pub filled_by : Laid → List ℕ → List ℕ → List ℕ
filled_by none rows image = image
filled_by (some q) rows image = laid_out q rows image

unfoldable pub fill_call : Laid → List ℕ → List ℕ → Filled
fill_call laid rows image =
    let n = fill_refusal laid (length image) rows in
    record { number = n; out = leaves n image (filled_by laid rows image) }

-- laid out, and then a list of patch calls: 20 also where the room for the calls' numbers is short
unfoldable pub fill_and_patch_refusal : Laid → ℕ → ℕ → List ℕ → List Patch → ℕ
fill_and_patch_refusal laid numbers room rows cs = fill_refusal laid room rows or_else lent_refusal numbers (length cs)

unfoldable pub fill_and_patch_call : List ℕ → Laid → List ℕ → List Patch → List ℕ → Patched
fill_and_patch_call numbers laid rows cs image =
    patched_with (fill_and_patch_refusal laid (length numbers) (length image) rows cs) numbers laid cs image (filled_by laid rows image)

-- ---- a row read back
-- the trit at the place of the entry that names bit b
unfoldable pub bit_of : Layout → List ℕ → ℕ → ℕ → ℕ
bit_of q image row b = get_or image (index_of q row (place_in eqb b q.entries)) trit_x

unfoldable pub read_row : Layout → List ℕ → ℕ → Const
read_row q image row = map (bit_of q image row) (up_from 0 q.width)

-- 15, then 20 for the image or the room for the row
unfoldable pub read_row_refusal_by : ℕ → ℕ → ℕ → ℕ → ℕ → ℕ → ℕ
read_row_refusal_by depth width size room len row =
    when not_below depth row then 15 else when no_room_of len size || no_room_of room width then 20 else 0

unfoldable pub read_row_refusal_of : Layout → ℕ → ℕ → ℕ → ℕ
read_row_refusal_of q room len row = read_row_refusal_by q.depth q.width (image_size q) room len row

unfoldable pub read_row_refusal : Laid → ℕ → ℕ → ℕ → ℕ
read_row_refusal none room size row = 23
read_row_refusal (some q) room size row = read_row_refusal_of q room size row

unfoldable pub row_read : Laid → List ℕ → ℕ → Const
row_read none image row = []
row_read (some q) image row = read_row q image row

unfoldable pub read_row_call : Laid → List ℕ → List ℕ → ℕ → Filled
read_row_call laid room image row = filled (read_row_refusal laid (length room) (length image) row) room (row_read laid image row)
