-- The words and nets of all write ports of a swizzle, and of a swizzle of rows from those of its reads.
use mathlib.Core.Path.{◌≡◌}
use Prim.Native.Nat.{ℕ, ◌+◌}
use mathlib.Core.List.{List, [], ◌∷◌, map}
use Rattle.lists.specs.Lists.{pairs, up_from}
use Rattle.rules.specs.Value.{Value}
use Rattle.rules.specs.Cell.{WritePort, Mem, Plan, write_wide_log2}
use Rattle.rules.specs.Log.{LogState}
use Rattle.rules.specs.Geometry.{Layout, layout_of, all_mems}
use Rattle.rules.specs.Image.{layout}
use Rattle.rules.specs.Swizzle.{split_addr, swizzle_write, swizzle_writes, swizzle_reads, result_mem, swizzle_rows}
use Rattle.rules.specs.Refusals.{room_refusal, log_refusal}
use Rattle.rules.specs.Beside.Counts.{Count, plus, nothing, sum_counts, write_count_of}
use Rattle.rules.proofs.Counted.{Counted, counted_refusal, counted_done, counted_same}
use Rattle.swizzle_laws.proofs.WriteCounts.{counted_bind, counted_write}

-- of a port with its new wide log
abbrev pub port_count : Mem → Layout → WritePort × ℕ → Count
port_count m q x = write_count_of q (split_addr q (write_wide_log2 m x.0) x.1 x.0.addr) x.0

abbrev pub writes_count_of : Mem → Layout → List WritePort → List ℕ → Count
writes_count_of m q ps ns = sum_counts (map (port_count m q) (pairs ps ns))

pub counted_writes : (m : Mem) (q : Layout) (ps : List WritePort) (ns : List ℕ) → Counted (swizzle_writes m q ps ns) (writes_count_of m q ps ns).words (writes_count_of m q ps ns).nets
unfolding swizzle_writes sum_counts nothing plus
counted_writes m q [] ns = counted_done []
counted_writes m q (p ∷ ps) [] = counted_done []
counted_writes m q (p ∷ ps) (n ∷ ns) =
    let s = split_addr q (write_wide_log2 m p) n p.addr in
    counted_bind (swizzle_write q s p) _ (write_count_of q s p).words (writes_count_of m q ps ns).words (write_count_of q s p).nets (writes_count_of m q ps ns).nets
    (counted_write q s p)
    (λ w. counted_same (swizzle_writes m q ps ns) (λ ws. w ∷ ws) (writes_count_of m q ps ns).words (writes_count_of m q ps ns).nets (counted_writes m q ps ns))

-- a swizzle of rows, where its reads give so many
module _ (m : Mem) (output : Value) (p : Plan) (w k : ℕ) (reads : Counted (swizzle_reads m (layout_of m p) m.reads p.read_wide_of output) w k) where
  abbrev q : Layout
  q = layout_of m p

  abbrev c : Count
  c = writes_count_of m q m.writes p.write_wide

  pub counted_rows : Counted (swizzle_rows m output p) (c.words + w) (c.nets + k)
  unfolding swizzle_rows
  counted_rows =
      counted_bind (swizzle_writes m q m.writes p.write_wide) _ c.words w c.nets k (counted_writes m q m.writes p.write_wide)
      (λ ws. counted_same (swizzle_reads m q m.reads p.read_wide_of output) (λ rs. map (result_mem q (layout q m.init) ws rs) (up_from 0 (all_mems q))) w k reads)

  -- 20 and 21 of it
  pub rows_refusal_lem : (room : ℕ) (st : LogState) → log_refusal room st (swizzle_rows m output p) ≡ room_refusal room st (c.words + w) (c.nets + k)
  rows_refusal_lem room st = counted_refusal (swizzle_rows m output p) _ _ counted_rows room st
