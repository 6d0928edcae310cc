-- The words and nets of all rows of a fallback, by the masks of the memory that is lowered.
use Rattle.std.specs.Prelude.{ℕ, zero, suc, ◌+◌, ◌-◌, ◌*◌, ◌/◌, ◌^◌, min, Bool, not, ◌||◌, List, [], ◌∷◌, length, eqb, ltb}
use Rattle.lists.specs.Choice.{when◌then◌else◌}
use Rattle.lists.specs.Lists.{sum_by}
use Rattle.rules.specs.Limits.{max_depth, max_width}
use Rattle.rules.specs.Cell.{WritePort, Mem, write_wide_log2}
use Rattle.rules.specs.Log.{flag}
use Rattle.rules.specs.Fallback.{max_wide_log2}

-- the runs of equal nets in a mask whose rows have w nets: one starts with each row, and where a net differs from the one before. `left` nets of a row
-- are still to come, and `last` is the net before
unfoldable pub runs_from : ℕ → ℕ → ℕ → List ℕ → ℕ
runs_from w left last [] = 0
runs_from w zero last (n ∷ l) = suc (runs_from w (w - 1) n l)
runs_from w (suc left) last (n ∷ l) = flag (not (eqb last n)) + runs_from w left n l

-- the nets of the widest port's mask, 128 × 16
abbrev pub max_mask_nets : ℕ
max_mask_nets = 2048

-- of a mask that is too long, which no port of a memory has, none
unfoldable pub mask_runs : ℕ → List ℕ → ℕ
mask_runs w mask = when ltb max_mask_nets (length mask) then 0 else runs_from w 0 0 mask

-- how often a port's data stands in all rows together: for each chunk and each soft bit of its address
unfoldable pub port_pieces : Mem → WritePort → ℕ
port_pieces m p = m.depth / 2 ^ max_wide_log2 m * 2 ^ min (length p.addr) (max_wide_log2 m - write_wide_log2 m p)

-- the runs of the masks of all rows: those of the port's mask for each piece, and one of zeros for each row that has none
unfoldable pub port_runs : Mem → WritePort → ℕ
port_runs m p = port_pieces m p * mask_runs m.width p.mask + (m.depth - port_pieces m p * 2 ^ write_wide_log2 m p)

-- the rows' void nets, muxes, flip-flops and replaces
unfoldable pub register_words : Mem → ℕ
register_words m = when eqb (length m.writes) 0 then 0 else m.depth * (21 + 6 * m.width + length m.writes * (2 * m.width)) + 5 * sum_by (port_runs m) m.writes

unfoldable pub register_nets : Mem → ℕ
register_nets m = when eqb (length m.writes) 0 then 0 else m.depth * ((2 + length m.writes) * m.width)

-- with a replace for each read port; nothing of a memory of width 0
unfoldable pub rows_words_of : Mem → ℕ
rows_words_of m = when eqb m.width 0 then 0 else m.depth * (length m.reads * (4 + 2 * m.width)) + register_words m

unfoldable pub rows_nets : Mem → ℕ
rows_nets m = when eqb m.width 0 then 0 else register_nets m

-- sizes past the limits give 0
unfoldable pub wide_sizes : Mem → Bool
wide_sizes m = ltb max_depth m.depth || ltb max_width m.width

unfoldable pub size_words : Mem → ℕ
size_words m = when wide_sizes m then 0 else rows_words_of m

unfoldable pub size_nets : Mem → ℕ
size_nets m = when wide_sizes m then 0 else rows_nets m
