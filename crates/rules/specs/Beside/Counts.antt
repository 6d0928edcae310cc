-- How many words and nets a swizzle of a memory with rows adds to the log, without making its entries.
use Rattle.std.specs.Prelude.{ℕ, ◌+◌, ◌-◌, ◌*◌, ◌^◌, List, [], ◌∷◌, map, length, eqb}
use Rattle.std.proofs.Math.Option.{Option, none, some}
use Rattle.rules.specs.Limits.{X}
use Rattle.lists.specs.Choice.{when◌then◌else◌}
use Rattle.lists.specs.Lists.{pairs}
use Rattle.rules.specs.Cell.{WritePort, ReadFlipFlop, ReadPort, Mem, Plan, write_wide_log2, read_wide_log2}
use Rattle.lists.specs.Distinct.{kept}
use Rattle.rules.specs.Ports.{is_empty}
use Rattle.rules.specs.Geometry.{Layout, layout_of, columns}
use Rattle.rules.specs.Swizzle.{Split, split_addr, sources, repeating}

pub record Count : Type 0 where
  pub words : ℕ
  pub nets : ℕ

unfoldable pub plus : Count → Count → Count
plus a b = record { words = a.words + b.words; nets = a.nets + b.nets }

unfoldable pub nothing : Count
nothing = record { words = 0; nets = 0 }

unfoldable pub sum_counts : List Count → Count
sum_counts [] = nothing
sum_counts (c ∷ cs) = plus c (sum_counts cs)

-- n times
unfoldable pub times_count : ℕ → Count → Count
times_count n c = record { words = n * c.words; nets = n * c.nets }

-- a mux, a flip-flop, an eq, a void and a replace of so many bits
unfoldable pub mux_count_of : ℕ → Count
mux_count_of n = record { words = 5 + 2 * n; nets = n }

unfoldable pub dff_count : ℕ → Count
dff_count n = record { words = 13 + 4 * n; nets = n }

unfoldable pub eq_count : ℕ → Count
eq_count n = record { words = 4 + 2 * n; nets = 1 }

unfoldable pub void_count : ℕ → Count
void_count n = record { words = 4; nets = n }

unfoldable pub replace_count : ℕ → Count
replace_count n = record { words = 4 + 2 * n; nets = 0 }

-- the nets of a row's mask that differ
unfoldable pub mask_nets : Layout → Split → WritePort → ℕ
mask_nets q s p = length (kept eqb (repeating X (sources q s) p.mask))

-- each piece: an eq and, unless the mux address is empty, a merged mux
unfoldable pub write_count_of : Layout → Split → WritePort → Count
write_count_of q s p =
    times_count s.pieces (plus (eq_count (length s.mux_addr)) (when is_empty s.mux_addr then nothing else mux_count_of (mask_nets q s p)))

unfoldable pub clocked_count : Option ReadFlipFlop → ℕ → Count
clocked_count none n = nothing
clocked_count (some f) n = dff_count n

-- the voids, the flip-flop of the mux address, one mux less than there are pieces, and the replace
unfoldable pub read_count_of : Layout → Split → ReadPort → Count
read_count_of q s p =
    plus (times_count (2 ^ s.new) (void_count (columns q)))
    (plus (clocked_count p.flip_flop (length s.mux_addr))
    (plus (times_count (s.pieces - 1) (mux_count_of p.data_len)) (replace_count p.data_len)))

unfoldable pub swizzle_count : Mem → Plan → Count
swizzle_count m p =
    let q = layout_of m p in
    plus (sum_counts (map (λ x. write_count_of q (split_addr q (write_wide_log2 m x.0) x.1 x.0.addr) x.0) (pairs m.writes p.write_wide)))
    (sum_counts (map (λ x. read_count_of q (split_addr q (read_wide_log2 m x.0) x.1 x.0.addr) x.0) (pairs m.reads p.read_wide_of)))
