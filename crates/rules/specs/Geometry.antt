-- Sizes: make_data_swizzle, swizzle_depths, swizzle_mux_bits, and the walk over the bits of a row number.
use Rattle.std.specs.Prelude.{ℕ, zero, suc, ◌+◌, ◌-◌, ◌*◌, ◌/◌, ◌%◌, ◌^◌, Bool, true, false, ◌||◌, List, [], ◌∷◌, ◌++◌, map, length, get_or, replicate, eqb}
use Rattle.rules.specs.Limits.{addr_bits, max_row, X, None}
use Rattle.lists.specs.Choice.{when◌then◌else◌}
use Rattle.lists.specs.Lists.{all, pairs, up_from, same_list}
use Rattle.rules.specs.Numbers.{ceil_div, softs, bits_for}
use Rattle.rules.specs.Value.{Value}
use Rattle.rules.specs.Cell.{WritePort, Mem, Plan, write_wide_log2, read_wide_log2, read_at_of}

-- ---- make_data_swizzle
-- the mask nets of bit b, one to each subport
unfoldable pub mask_slice : Mem → ℕ → WritePort → Value
mask_slice m b p = map (λ j. get_or p.mask (j * m.width + b) X) (up_from 0 (length p.bits / m.width))

-- the granularities of the write ports whose mask changes between bit b - 1 and bit b
unfoldable pub changing : Mem → ℕ → List WritePort → List ℕ → List ℕ
changing m b [] gs = []
changing m b (p ∷ ps) [] = []
changing m b (p ∷ ps) (g ∷ gs) =
    when same_list (mask_slice m b p) (mask_slice m (b - 1) p) then changing m b ps gs else g ∷ changing m b ps gs

unfoldable pub aligned : List ℕ → ℕ → Bool
aligned gs n = all (λ g. eqb (n % g) 0) gs

-- how many None bring n entries to a multiple of each; one past the row's limit is enough to refuse
unfoldable pub padding : ℕ → List ℕ → ℕ → ℕ
padding zero gs n = 0
padding (suc more) gs n = elim (aligned gs n) [ true ↦ 0 | false ↦ suc (padding more gs (suc n)) ]

unfoldable pub padded : List ℕ → ℕ → ℕ
padded gs n = padding (suc max_row) gs n

-- the entries after the first n: those of the next bits, from bit b on, and the last alignment
unfoldable pub swizzle_from : Mem → List ℕ → ℕ → ℕ → ℕ → List ℕ
swizzle_from m gs n b zero = replicate (padded gs n) None
swizzle_from m gs n b (suc more) =
    let p = padded (changing m b m.writes gs) n in
    replicate p None ++ b ∷ swizzle_from m gs (n + p + 1) (suc b) more

unfoldable pub make_data_swizzle : Mem → List ℕ → List ℕ
make_data_swizzle m gs = swizzle_from m gs 0 0 m.width

-- ---- what a patch needs of a swizzle: the memory's sizes and the plan's
pub record Layout : Type 0 where
  pub depth : ℕ
  pub width : ℕ
  pub entries : List ℕ
  pub soft_mask : ℕ
  pub hard : ℕ
  pub unit : ℕ

unfoldable pub layout_of : Mem → Plan → Layout
layout_of m p = record { depth = m.depth; width = m.width; entries = p.entries; soft_mask = p.soft_mask; hard = p.hard; unit = p.unit }

-- ---- swizzle_depths
unfoldable pub soft_bits : ℕ → ℕ
soft_bits mask = softs addr_bits mask

unfoldable pub soft : Layout → ℕ
soft q = soft_bits q.soft_mask

-- entries of a row
unfoldable pub row_len_of : Layout → ℕ
row_len_of q = length q.entries

-- the depth of a full memory, the full chunks, and the partial depth
unfoldable pub full_depth_of : Layout → ℕ
full_depth_of q = 2 ^ q.hard

unfoldable pub full_chunks : Layout → ℕ
full_chunks q = q.depth / 2 ^ soft q / full_depth_of q

unfoldable pub part_depth_of : Layout → ℕ
part_depth_of q = q.depth / 2 ^ soft q % full_depth_of q

unfoldable pub all_chunks : Layout → ℕ
all_chunks q = when eqb (part_depth_of q) 0 then full_chunks q else full_chunks q + 1

-- the full memories, and all
unfoldable pub full_mems : Layout → ℕ
full_mems q = ceil_div (row_len_of q * 2 ^ soft q * full_chunks q) q.unit

unfoldable pub all_mems : Layout → ℕ
all_mems q = ceil_div (row_len_of q * 2 ^ soft q * all_chunks q) q.unit

-- columns, rounded up to the unit
unfoldable pub columns : Layout → ℕ
columns q = all_mems q * q.unit

unfoldable pub swizzle_depths : Layout → List ℕ
swizzle_depths q = replicate (full_mems q) (full_depth_of q) ++ replicate (all_mems q - full_mems q) (part_depth_of q)

-- ---- swizzle_mux_bits
unfoldable pub chunk_mux_bits : Layout → ℕ
chunk_mux_bits q = bits_for (ceil_div q.depth (2 ^ (soft q + q.hard)))

-- of a port with the old and the new wide log
unfoldable pub mux_bits : Layout → ℕ → ℕ → ℕ
mux_bits q old new = chunk_mux_bits q + soft q + new - old

unfoldable pub write_mux_bits : Mem → Plan → List ℕ
write_mux_bits m p = map (λ x. mux_bits (layout_of m p) (write_wide_log2 m x.0) x.1) (pairs m.writes p.write_wide)

unfoldable pub read_mux_bits : Mem → List ℕ → Plan → List ℕ
read_mux_bits m ports p = map (λ x. mux_bits (layout_of m p) (read_wide_log2 m (read_at_of m x.0)) x.1) (pairs ports p.read_wide_of)

-- ---- the walk over the bits of a row number, lowest first
pub record Spot : Type 0 where
  pub chunk : ℕ
  pub row : ℕ

-- the next bit, a soft one or one after the last hard one, is a chunk bit
unfoldable pub to_chunk : ℕ → ℕ → Bool
to_chunk mask hard = eqb (mask % 2) 1 || eqb hard 0

-- the hard bits that are left after a bit
unfoldable pub hard_left : Bool → ℕ → ℕ
hard_left true hard = hard
hard_left false hard = hard - 1

-- a bit below a spot: the lowest bit of the chunk number or of the row number
unfoldable pub under : Bool → ℕ → Spot → Spot
under true b p = record { chunk = b + 2 * p.chunk; row = p.row }
under false b p = record { chunk = p.chunk; row = b + 2 * p.row }

-- the walk over n bits
unfoldable pub walk : ℕ → ℕ → ℕ → ℕ → Spot
walk zero mask hard row = record { chunk = 0; row = 0 }
walk (suc n) mask hard row = under (to_chunk mask hard) (row % 2) (walk n (mask / 2) (hard_left (to_chunk mask hard) hard) (row / 2))
