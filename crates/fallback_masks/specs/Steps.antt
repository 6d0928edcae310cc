-- What the code computes: a step over a mask, and the counts by the number of rows that the widest port reaches.
use Rattle.std.specs.Prelude.{ℕ, ◌+◌, ◌-◌, ◌*◌, ◌/◌, ◌^◌, ◌≤◌, min, not, length, eqb}
use Rattle.lists.specs.Choice.{when◌then◌else◌}
use Rattle.rules.specs.Limits.{addr_bits, max_depth, max_width, max_ports}
use Rattle.rules.specs.Cell.{WritePort, wide_log2}
use Rattle.rules.specs.Log.{flag}
use Rattle.fallback_masks.specs.Sizes.{mask_runs}

-- a net starts a run: the first of a row, or one that differs from the net before
unfoldable pub starts_run : ℕ → ℕ → ℕ → ℕ
starts_run left last n = when eqb left 0 then 1 else flag (not (eqb last n))

-- the nets of the row that are still to come
unfoldable pub left_after_of : ℕ → ℕ → ℕ
left_after_of w left = (when eqb left 0 then w else left) - 1

-- the pieces of a port with wide log k and so many address bits, where the widest port reaches so many rows
unfoldable pub pieces_by : ℕ → ℕ → ℕ → ℕ → ℕ
pieces_by depth rows addr k = depth / rows * min (2 ^ min addr addr_bits) (rows / 2 ^ k)

unfoldable pub spread_runs : ℕ → ℕ → ℕ → ℕ → ℕ
spread_runs depth pieces k runs = pieces * runs + (depth - pieces * 2 ^ k)

unfoldable pub runs_by_of : ℕ → ℕ → ℕ → WritePort → ℕ
runs_by_of depth width rows p =
    let k = wide_log2 width (length p.bits) in
    spread_runs depth (pieces_by depth rows (length p.addr) k) k (mask_runs width p.mask)

-- the runs of one port, at most: 32,768 pieces of 2,048 nets, and a row for each
abbrev pub port_most : ℕ
port_most = 67141632

-- all words and nets, by the numbers of ports and the runs of all write ports
unfoldable pub words_by : ℕ → ℕ → ℕ → ℕ → ℕ → ℕ
words_by depth width reads writes runs =
    depth * (reads * (4 + 2 * width)) + (when eqb writes 0 then 0 else depth * (21 + 6 * width + writes * (2 * width)) + 5 * runs)

unfoldable pub nets_by : ℕ → ℕ → ℕ → ℕ
nets_by depth width writes = when eqb writes 0 then 0 else depth * ((2 + writes) * width)

-- sizes inside the limits
pub record Inside (depth width reads writes runs : ℕ) : Type 0 where
  pub shallow : depth ≤ max_depth
  pub thin : width ≤ max_width
  pub few_reads : reads ≤ max_ports
  pub few_writes : writes ≤ max_ports
  pub few_runs : runs ≤ 8 * port_most
