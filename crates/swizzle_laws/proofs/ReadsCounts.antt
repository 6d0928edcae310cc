-- The words and nets of all read ports of a swizzle.
use Prim.Native.Nat.{ℕ}
use mathlib.Core.List.{List, [], ◌∷◌, map}
use lib.ListN.{take, drop}
use Rattle.lists.specs.Lists.{pairs}
use Rattle.rules.specs.Value.{Value}
use Rattle.rules.specs.Cell.{ReadPort, Mem, read_wide_log2}
use Rattle.rules.specs.Geometry.{Layout}
use Rattle.rules.specs.Swizzle.{Split, split_addr, swizzle_read, swizzle_reads}
use Rattle.rules.specs.Beside.Counts.{Count, plus, nothing, sum_counts, read_count_of}
use Rattle.rules.proofs.Counted.{Counted, counted_done, counted_same}
use Rattle.swizzle_laws.proofs.ReadCounts.{Readable, counted_read}
use Rattle.swizzle_laws.proofs.WriteCounts.{counted_bind}

-- the split of a read port with its new wide log
abbrev pub read_split_of : Mem → Layout → ReadPort → ℕ → Split
read_split_of m q p n = split_addr q (read_wide_log2 m p) n p.addr

-- of a port with its new wide log
abbrev pub port_count : Mem → Layout → ReadPort × ℕ → Count
port_count m q x = read_count_of q (read_split_of m q x.0 x.1) x.0

abbrev pub reads_count_of : Mem → Layout → List ReadPort → List ℕ → Count
reads_count_of m q ps ns = sum_counts (map (port_count m q) (pairs ps ns))

-- each port's data, output and mux address are as long as they must be
unfoldable pub Readables : Mem → Layout → List ReadPort → List ℕ → Value → Type 0
Readables m q [] ns output = Unit
Readables m q (p ∷ ps) [] output = Unit
Readables m q (p ∷ ps) (n ∷ ns) output = Readable q (read_split_of m q p n) p (take p.data_len output) × Readables m q ps ns (drop p.data_len output)

pub counted_reads : (m : Mem) (q : Layout) (ps : List ReadPort) (ns : List ℕ) (output : Value) → Readables m q ps ns output
    → Counted (swizzle_reads m q ps ns output) (reads_count_of m q ps ns).words (reads_count_of m q ps ns).nets
unfolding swizzle_reads sum_counts nothing plus Readables
counted_reads m q [] ns output r = counted_done []
counted_reads m q (p ∷ ps) [] output r = counted_done []
counted_reads m q (p ∷ ps) (n ∷ ns) output r =
    let s = read_split_of m q p n in
    let rest = drop p.data_len output in
    counted_bind (swizzle_read q s p (take p.data_len output)) _ (read_count_of q s p).words (reads_count_of m q ps ns).words (read_count_of q s p).nets (reads_count_of m q ps ns).nets
    (counted_read q s p (take p.data_len output) r.0)
    (λ w. counted_same (swizzle_reads m q ps ns rest) (λ ws. w ∷ ws) (reads_count_of m q ps ns).words (reads_count_of m q ps ns).nets (counted_reads m q ps ns rest r.1))
