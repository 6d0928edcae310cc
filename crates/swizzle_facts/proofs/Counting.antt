-- The words and nets of a swizzle of rows that passes.
use mathlib.Core.Path.{◌≡◌, sym, ap, ◌∙◌}
use mathlib.Core.Logic.{◌≢◌}
use Prim.Native.Nat.{ℕ, ◌+◌, ◌*◌, ◌^◌}
use native.Mathlib.Omega.{arith}
use mathlib.Core.List.{List, [], ◌∷◌}
use lib.ListN.{length, take, drop, length-take, length-drop}
use Rattle.lists.specs.Lists.{sum_by}
use Rattle.rules.specs.Value.{Value}
use Rattle.rules.specs.Cell.{ReadPort, Mem, Given, Plan, read_wide_log2, output_len}
use Rattle.rules.specs.Log.{LogState}
use Rattle.rules.specs.Geometry.{Layout, layout_of}
use Rattle.rules.specs.Swizzle.{split_addr, swizzle_rows}
use Rattle.rules.specs.Refusals.{room_refusal, log_refusal, swizzle_number}
use Rattle.swizzle_laws.proofs.ReadCounts.{Readable}
use Rattle.swizzle_laws.proofs.ReadsCounts.{reads_count_of, Readables, counted_reads}
use Rattle.swizzle_laws.proofs.WritesCounts.{writes_count_of, rows_refusal_lem}
use Rattle.swizzle_facts.specs.Passed.{LayoutPassed, ReadPassed, EachPair}
use Rattle.swizzle_facts.proofs.Layouts.{layout_passed}
use Rattle.swizzle_facts.proofs.Splits.{split_passed}
use Rattle.swizzle_facts.proofs.Ports.{reads_passed, output_len_lem}

module _ (m : Mem) (q : Layout) (l : LayoutPassed q) where
  readable : (p : ReadPort) (n : ℕ) → ReadPassed m q p n → (output : Value) → length output ≡ p.data_len → Readable q (split_addr q (read_wide_log2 m p) n p.addr) p output
  readable p n o output e =
      let s = split_passed q (read_wide_log2 m p) n p.addr p.data_len l o in
      record {
        rows = o.size_is ∙ ap (λ (k : ℕ). 2 ^ k * q.width) (sym s.old_is);
        outputs = e;
        some = s.pieces_some;
        few = s.pieces_few;
      }

  pub readables : (ps : List ReadPort) (ns : List ℕ) → EachPair (ReadPassed m q) ps ns → (output : Value) → length output ≡ sum_by (λ (p : ReadPort). p.data_len) ps → Readables m q ps ns output
  unfolding Readables EachPair
  readables [] [] e output h = tt
  readables [] (n ∷ ns) e output h = absurd e
  readables (p ∷ ps) [] e output h = absurd e
  readables (p ∷ ps) (n ∷ ns) e output h = (
    readable p n e.0 (take p.data_len output) (omega (arith, length-take p.data_len output, h)),
    readables ps ns e.1 (drop p.data_len output) (omega (arith, length-drop p.data_len output, h)),
  )

module _ (next : ℕ) (g : Given) (output : Value) (p : Plan) (e : swizzle_number next g output p ≡ 0) (w : g.mem.width ≢ 0) (d : g.mem.depth ≢ 0) where
  abbrev m : Mem
  m = g.mem

  abbrev q : Layout
  q = layout_of m p

  outputs : length output ≡ sum_by (λ (r : ReadPort). r.data_len) m.reads
  unfolding output_len
  outputs = output_len_lem next g output p e

  pub reads_readable : Readables m q m.reads p.read_wide_of output
  reads_readable = readables m q (layout_passed next g output p e w d) m.reads p.read_wide_of (reads_passed next g output p e) output outputs

  -- 20 and 21 by the counts
  pub rows_by_counts : (room : ℕ) (st : LogState) → log_refusal room st (swizzle_rows m output p)
      ≡ room_refusal room st ((writes_count_of m q m.writes p.write_wide).words + (reads_count_of m q m.reads p.read_wide_of).words)
      ((writes_count_of m q m.writes p.write_wide).nets + (reads_count_of m q m.reads p.read_wide_of).nets)
  rows_by_counts room st = rows_refusal_lem m output p _ _ (counted_reads m q m.reads p.read_wide_of output reads_readable) room st
