-- What the private functions ask and give: the cursor over a row's places, and a row taken out of an image.
use Rattle.std.specs.Prelude.{ℕ, zero, suc, ◌+◌, ◌-◌, ◌*◌, ◌≤◌, ◌<◌, ◌≡◌, false, List, [], ◌∷◌, eqb, ltb, length, drop, get_or}
use Rattle.lists.specs.Choice.{when◌then◌else◌}
use Rattle.rules.specs.Limits.{addr_bits, max_row, None, trit_x}
use Rattle.rules.specs.Geometry.{Layout, row_len_of, full_mems, full_depth_of, part_depth_of, walk}
use Rattle.rules.specs.Image.{place_of, flat_at, put, put_row}
use Rattle.rules.specs.Conditions.{bad_layout_sizes}
use Rattle.image_geometry.specs.declared.Params.{Params}
use Rattle.image_geometry.specs.declared.Shape.{Shape}
use Rattle.image_geometry.specs.declared.Layout as lent
use Rattle.image_geometry.specs.View.{layout_by, view_spot}
use Rattle.image_rows.specs.declared.Steps.{Steps}
use Rattle.image_rows.specs.declared.Cursor.{Cursor}
use Rattle.image_rows.specs.declared.Line.{Line}

abbrev pub steps_of : Layout → Steps
steps_of q = record { full = full_mems q; full_step = full_depth_of q * q.unit; part_step = part_depth_of q * q.unit; unit = q.unit }

-- from the sizes
abbrev pub steps_by : Shape → ℕ → Steps
steps_by s unit = record { full = s.full_mems; full_step = s.full_depth * unit; part_step = s.part_depth * unit; unit = unit }

-- sizes within number 1's limits, and the steps of the layout
pub record Ready (p : Params) (g : Steps) (es : List ℕ) : Type 0 where
  pub sizes : bad_layout_sizes p.depth p.width (row_len_of (layout_by p es)) p.unit p.hard ≡ false
  pub steps : g ≡ steps_of (layout_by p es)

-- the same of a layout and its steps, and so many plain entries
pub record ReadyRows (l : lent.Layout) (g : Steps) (plain : ℕ) : Type 0 where
  pub ready : Ready l.params g l.entries.now
  pub plain_are : (i : ℕ) → i < plain → get_or l.entries.now i 0 ≡ i

-- the spot of the row's number
abbrev pub OnSpot : Params → Line → Type 0
OnSpot p l = view_spot l.spot ≡ walk addr_bits p.soft_mask p.hard l.number

-- the cursor at entry i of a row
pub record At (q : Layout) (row i : ℕ) (c : Cursor) : Type 0 where
  pub memory_is : c.memory ≡ (place_of q row i).memory
  pub bit_is : c.bit ≡ (place_of q row i).bit
  pub start_is : c.start ≡ flat_at q (place_of q row i).memory (place_of q row i).row 0

-- small enough for another step
pub record Low (c : Cursor) (g : Steps) : Type 0 where
  pub memory_max : c.memory < 4294967296
  pub bit_under : c.bit < g.unit
  pub unit_max : g.unit < 4294967296
  pub start_max : c.start < 4611686018427387904
  pub full_max : g.full_step < 4611686018427387904
  pub part_max : g.part_step < 4611686018427387904

abbrev pub next_of : Steps → Cursor → Cursor
next_of g c =
    when ltb (c.bit + 1) g.unit then record { memory = c.memory; bit = c.bit + 1; start = c.start }
    else when ltb c.memory g.full then record { memory = c.memory + 1; bit = 0; start = c.start + g.full_step }
    else record { memory = c.memory + 1; bit = 0; start = c.start + g.part_step }

-- the cursor after i steps, and the index of its place
unfoldable pub after : Steps → Cursor → ℕ → Cursor
after g c zero = c
after g c (suc i) = next_of g (after g c i)

abbrev pub index_from : Steps → Cursor → ℕ → ℕ
index_from g c i = (after g c i).start + (after g c i).bit

-- low at every step of n
pub record Lows (c : Cursor) (g : Steps) (n : ℕ) : Type 0 where
  pub each : (i : ℕ) → i ≤ n → Low (after g c i) g

-- ---- runs of places that follow each other
-- the last of a run of so many places within one memory
abbrev pub last_of : Cursor → ℕ → Cursor
last_of c count = record { memory = c.memory; bit = c.bit + (count - 1); start = c.start }

-- the first n entries are their own numbers
abbrev pub Plain : List ℕ → ℕ → Type 0
Plain es n = (i : ℕ) → i < n → get_or es i 0 ≡ i

-- a run of entries, and places that fit
pub record RunOf (at from to : ℕ) (es : List ℕ) : Type 0 where
  pub place_max : at < 9223372036854775808
  pub forward : from ≤ to
  pub within : to ≤ length es
  pub short : length es ≤ max_row

-- the places of n entries numbered from `from` on follow each other, from `at` on
abbrev pub Follows : (ℕ → ℕ) → ℕ → ℕ → ℕ → Type 0
Follows f from at n = (j : ℕ) → j < n → f (from + j) ≡ at + j

-- the entries from `from` to below `to` are written: those that are left give the whole
abbrev pub PutRun : ℕ → List ℕ → ℕ → ℕ → List ℕ → List ℕ → List ℕ → Type 0
PutRun at es from to ts image image' = (f : ℕ → ℕ) → Follows f from at (to - from) → put_row f (drop to es) to ts image' ≡ put_row f (drop from es) from ts image

-- the entries es, counted from i: each that names a bit has the trit at its place stored there
unfoldable pub take_row : (ℕ → ℕ) → List ℕ → ℕ → List ℕ → List ℕ → List ℕ
take_row at [] i image room = room
take_row at (e ∷ es) i image room = take_row at es (suc i) image (put (eqb e None) e (get_or image (at i) trit_x) room)
