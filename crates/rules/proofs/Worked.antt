-- The address split worked out on a few nets, as computed sentences: what the definitions of `Swizzle` say of one small port.
use mathlib.Core.Path.{◌≡◌, refl}
use mathlib.Core.List.{[], ◌∷◌}
use Rattle.rules.specs.Limits.{X, None}
use Rattle.rules.specs.Numbers.{ceil_div, softs, top_bits, bits_for}
use Rattle.rules.specs.Value.{zext}
use Rattle.rules.specs.Log.{flag}
use Rattle.rules.specs.Geometry.{Layout, soft_bits, soft, row_len_of, full_depth_of, full_chunks, part_depth_of, all_chunks, all_mems, columns, under}
use Rattle.rules.specs.Swizzle.{Soft, Wide, High, role_of, is_chunk, is_row, doubles, wide_after, rows_after, roles, low_roles, row_nets, mux_nets, mux_roles, spot_by, Split, count_doubles, split_by, split_addr, piece_start, restore, store_rows}

-- eight rows of two bits, bit 1 of the row number soft, one hard bit, unit 2: memories of two rows, four of them
abbrev eight : Layout
eight = record { depth = 8; width = 2; entries = 0 ∷ 1 ∷ []; soft_mask = 2; hard = 1; unit = 2 }

-- ---- the split of an address of three nets
-- bit 0 is the result's address, bit 1 is soft, bit 2 lies above the hard bits: four pieces, told apart by nets 11 and 12. Past the mux address all bits are High
split_eight : split_addr eight 0 0 (10 ∷ 11 ∷ 12 ∷ [])
    ≡ record { old = 0; new = 0; addr = 10 ∷ []; mux_addr = 11 ∷ 12 ∷ []; piece_roles = Soft ∷ High ∷ High ∷ High ∷ []; pieces = 4 }
unfolding split_addr split_by roles role_of is_row wide_after rows_after row_nets mux_nets mux_roles low_roles count_doubles doubles all_chunks full_chunks part_depth_of full_depth_of soft soft_bits softs zext bits_for top_bits flag
split_eight = refl

-- an address without bit 2 misses the High bit: two soft pieces for each of the two chunks all the same, and net 0 fills the mux address up
split_short : split_addr eight 0 0 (10 ∷ 11 ∷ [])
    ≡ record { old = 0; new = 0; addr = 10 ∷ []; mux_addr = 11 ∷ 0 ∷ []; piece_roles = Soft ∷ High ∷ High ∷ []; pieces = 4 }
unfolding split_addr split_by roles role_of is_row wide_after rows_after row_nets mux_nets mux_roles low_roles count_doubles doubles all_chunks full_chunks part_depth_of full_depth_of soft soft_bits softs zext bits_for top_bits flag
split_short = refl

-- a port of two rows at once (old wide log 1) leaves bit 0 out of its address; its result reads two rows at once too (new wide log 1)
split_wide : split_addr eight 1 1 (11 ∷ 12 ∷ [])
    ≡ record { old = 1; new = 1; addr = []; mux_addr = 11 ∷ 12 ∷ []; piece_roles = Wide ∷ Soft ∷ High ∷ High ∷ High ∷ []; pieces = 4 }
unfolding split_addr split_by roles role_of is_row wide_after rows_after row_nets mux_nets mux_roles low_roles count_doubles doubles all_chunks full_chunks part_depth_of full_depth_of soft soft_bits softs zext bits_for top_bits flag
split_wide = refl

-- ---- the spot of a number by the roles of its bits
-- 6 is 0 1 1, lowest first: a Wide bit is a row bit, Soft and High are chunk bits
spot_six : spot_by (Wide ∷ Soft ∷ High ∷ []) 6 ≡ record { chunk = 3; row = 0 }
unfolding spot_by under is_chunk
spot_six = refl

spot_three : spot_by (Wide ∷ Soft ∷ High ∷ []) 3 ≡ record { chunk = 1; row = 1 }
unfolding spot_by under is_chunk
spot_three = refl

-- ---- where a piece starts
-- of the wide port: piece 1 of old row 1 is number 1 + 2·1 = 3, so row 1 and chunk 1; a row has eight columns, a chunk two
abbrev wide_port : Split
wide_port = record { old = 1; new = 1; addr = []; mux_addr = 11 ∷ 12 ∷ []; piece_roles = Wide ∷ Soft ∷ High ∷ High ∷ High ∷ []; pieces = 4 }

start_three : piece_start eight wide_port 1 1 ≡ 10
unfolding piece_start spot_by under is_chunk columns all_mems all_chunks full_chunks part_depth_of full_depth_of soft soft_bits softs row_len_of ceil_div
start_three = refl

-- ---- arranged bits brought back to the places that their entries name
-- entry 0 names bit 1, entry 1 none, entry 2 bit 0
restore_three : restore (1 ∷ None ∷ 0 ∷ []) (20 ∷ 21 ∷ 22 ∷ []) (X ∷ X ∷ []) ≡ 22 ∷ 20 ∷ []
unfolding restore
restore_three = refl

-- ---- arranged bits stored as a piece: old row after old row, each at its piece's start
-- piece 1 of the wide port: row 0 of it starts at column 2, row 1 at column 8 + 2
store_piece_lem : store_rows eight wide_port 1 (0 ∷ 1 ∷ []) (20 ∷ 21 ∷ 22 ∷ 23 ∷ []) (X ∷ X ∷ X ∷ X ∷ X ∷ X ∷ X ∷ X ∷ X ∷ X ∷ X ∷ X ∷ X ∷ X ∷ X ∷ X ∷ [])
    ≡ X ∷ X ∷ 20 ∷ 21 ∷ X ∷ X ∷ X ∷ X ∷ X ∷ X ∷ 22 ∷ 23 ∷ X ∷ X ∷ X ∷ X ∷ []
unfolding store_rows piece_start spot_by under is_chunk columns all_mems all_chunks full_chunks part_depth_of full_depth_of soft soft_bits softs row_len_of ceil_div
store_piece_lem = refl
