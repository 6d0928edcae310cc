-- The starred examples of document 01, as one list. Each says that its call is accepted, or by which number it is refused, and what it gives.
use Rattle.std.specs.Prelude.{ℕ, ◌*◌, Bool, ◌&&◌, List, [], ◌∷◌, map, replicate, eqb}
use Rattle.rules.specs.Limits.{max_depth, max_row, max_image, None, trit_x}
use Rattle.lists.specs.Lists.{all, same_list}
use Rattle.rules.specs.Value.{Pos}
use Rattle.rules.specs.Cell.{Mem, given, Plan}
use Rattle.rules.specs.Log.{LogState}
use Rattle.rules.specs.Geometry.{make_data_swizzle, Layout, swizzle_depths, chunk_mux_bits}
use Rattle.rules.specs.Image.{spot_of, Place, place_of}
use Rattle.rules.specs.Refusals.{make_data_swizzle_refusal, swizzle_depths_refusal, swizzle_mux_bits_refusal, SwizzleRooms, swizzle_refusal}

pub data Example : Type 0 where
  -- these are the depths
  depths_are : Layout → List ℕ → Example
  -- entry i of this row is at this memory, row and bit
  place_is_of : Layout → ℕ → ℕ → Place → Example
  -- this row has this chunk
  chunk_is : Layout → ℕ → ℕ → Example
  -- this number refuses the depths
  refused_by : Layout → ℕ → Example
  -- these are the entries for these granularities
  entries_are_of : Mem → List ℕ → List ℕ → Example
  -- so many chunk mux bits
  chunk_bits_are : Layout → ℕ → Example

-- a memory of X with no ports, and a plan, of a layout's numbers
abbrev pub bare_mem : Layout → Mem
bare_mem q = record { depth = q.depth; width = q.width; init = replicate (q.depth * q.width) trit_x; writes = []; reads = [] }

abbrev pub bare_plan : Layout → Plan
bare_plan q = record { entries = q.entries; soft_mask = q.soft_mask; write_wide = []; read_wide_of = []; hard = q.hard; unit = q.unit }

-- the number of each call of such a memory and plan
unfoldable pub depths_of : Layout → ℕ
depths_of q = swizzle_depths_refusal max_depth (given (bare_mem q)) (bare_plan q)

unfoldable pub mux_bits_of : Layout → ℕ
mux_bits_of q = swizzle_mux_bits_refusal (given (bare_mem q)) [] (bare_plan q)

-- an empty log, with room for what a swizzle without ports can log
abbrev pub first_state : LogState
first_state = record { used = 0; next = 2 }

abbrev pub image_room : ℕ → SwizzleRooms
image_room n = record { image = n; nets = 0; trits = 0; scratch = 0 }

unfoldable pub swizzle_of : Layout → ℕ
swizzle_of q = swizzle_refusal (image_room max_image) 4 first_state (given (bare_mem q)) [] (bare_plan q)

unfoldable pub holds : Example → Bool
holds (depths_are q ds) = eqb (depths_of q) 0 && same_list (swizzle_depths q) ds
holds (place_is_of q r i p) =
    eqb (swizzle_of q) 0 && (eqb (place_of q r i).memory p.memory && (eqb (place_of q r i).row p.row && eqb (place_of q r i).bit p.bit))
holds (chunk_is q r c) = eqb (swizzle_of q) 0 && eqb (spot_of q r).chunk c
holds (refused_by q n) = eqb (depths_of q) n
holds (entries_are_of m gs es) = eqb (make_data_swizzle_refusal max_row (given m) gs) 0 && same_list (make_data_swizzle m gs) es
holds (chunk_bits_are q n) = eqb (mux_bits_of q) 0 && eqb (chunk_mux_bits q) n

unfoldable pub all_hold : List Example → Bool
all_hold es = all holds es

-- width, depth, entries, mask, hard and unit
abbrev pub example : ℕ → ℕ → List ℕ → ℕ → ℕ → ℕ → Layout
example width depth entries mask hard unit = record { depth = depth; width = width; entries = entries; soft_mask = mask; hard = hard; unit = unit }

-- a memory with write ports of these masks
abbrev pub masked : ℕ → List (List ℕ) → Mem
masked width masks = record {
  depth = 1;
  width = width;
  init = replicate width trit_x;
  writes = map (λ k. record { addr = []; bits = replicate width 0; mask = k; clock = Pos 2 }) masks;
  reads = [];
}

unfoldable pub starred : List Example
starred =
    depths_are (example 2 3 (0 ∷ 1 ∷ []) 0 1 2) (2 ∷ 1 ∷ [])
    ∷ place_is_of (example 2 3 (0 ∷ 1 ∷ []) 0 1 2) 2 0 (record { memory = 1; row = 0; bit = 0 })
    ∷ depths_are (example 3 3 (0 ∷ 1 ∷ 2 ∷ []) 0 1 2) (2 ∷ 2 ∷ 1 ∷ [])
    ∷ place_is_of (example 3 3 (0 ∷ 1 ∷ 2 ∷ []) 0 1 2) 2 0 (record { memory = 1; row = 0; bit = 1 })
    ∷ place_is_of (example 1 4 (0 ∷ []) 2 1 1) 2 0 (record { memory = 1; row = 0; bit = 0 })
    ∷ chunk_is (example 1 8 (0 ∷ []) 4 1 1) 4 2
    ∷ chunk_is (example 1 8 (0 ∷ []) 4 1 1) 6 3
    ∷ depths_are (example 1 6 (0 ∷ []) 1 2 1) (3 ∷ 3 ∷ [])
    ∷ refused_by (example 1 5 (0 ∷ []) 1 2 1) 8
    ∷ entries_are_of (masked 3 ((10 ∷ 10 ∷ 11 ∷ []) ∷ [])) (2 ∷ []) (0 ∷ 1 ∷ 2 ∷ None ∷ [])
    ∷ entries_are_of (masked 3 ((10 ∷ 11 ∷ 11 ∷ []) ∷ [])) (2 ∷ []) (0 ∷ None ∷ 1 ∷ 2 ∷ [])
    ∷ entries_are_of (masked 4 ((10 ∷ 10 ∷ 10 ∷ 10 ∷ []) ∷ (11 ∷ 11 ∷ 11 ∷ 11 ∷ []) ∷ [])) (3 ∷ 4 ∷ []) (0 ∷ 1 ∷ 2 ∷ 3 ∷ replicate 8 None)
    ∷ chunk_bits_are (example 1 1 (0 ∷ []) 0 0 1) 0
    ∷ chunk_bits_are (example 1 2 (0 ∷ []) 0 0 1) 1
    ∷ chunk_bits_are (example 1 5 (0 ∷ []) 0 0 1) 3
    ∷ []
