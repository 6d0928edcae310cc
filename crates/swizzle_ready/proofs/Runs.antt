-- The log of a swizzle that no number refuses: neither the write ports nor the whole overflow, and the read ports come after the write ports.
use mathlib.Core.Path.{◌≡◌, refl, sym, ap, ◌∙◌}
use mathlib.Core.Logic.{◌≢◌}
use Prim.Native.Nat.{ℕ, ◌+◌, ◌≤◌, ◌<◌}
use native.Mathlib.Omega.{arith}
use mathlib.Core.Bool.{false}
use mathlib.Core.List.{List, map}
use lib.ListN.{length}
use Rattle.std.specs.Borrow.{GName}
use Rattle.lists.specs.Lists.{up_from}
use Rattle.rules.specs.Limits.{X, max_words}
use Rattle.rules.specs.Value.{Value}
use Rattle.rules.specs.Cell.{Mem, Given, Plan}
use Rattle.rules.specs.Log.{Trace, ◌>>=◌, done, LogState, added, state_after}
use Rattle.rules.specs.Ports.{Driving}
use Rattle.rules.specs.Geometry.{Layout, layout_of, all_mems}
use Rattle.rules.specs.Image.{layout}
use Rattle.rules.specs.Swizzle.{WideWrite, swizzle_writes, WideRead, swizzle_reads, result_mem, swizzle_rows}
use Rattle.rules.specs.Refusals.{SwizzleRooms, swizzle_refusal}
use Rattle.rules.proofs.Counted.{Counted}
use Rattle.rules.proofs.Traces.{next_after}
use Rattle.log_entries.specs.Emission.{Lent, is_over, run}
use Rattle.log_entries.proofs.Rooms.{Fits}
use Rattle.log_entries.proofs.Emission.{not_over, ran, run_fits, run_then, run_same}
use Rattle.swizzle_laws.proofs.ReadsCounts.{reads_count_of}
use Rattle.swizzle_laws.proofs.WritesCounts.{writes_count_of, counted_writes}
use Rattle.swizzle_ready.proofs.Planned.{log_fits}

used_after : {A : Type 0} (t : Trace A) (s : LogState) → (state_after s (t s.next)).used ≡ s.used + length (added (t s.next))
unfolding state_after
used_after t s = refl

-- a counted trace whose words and nets can be counted
module _ {A : Type 0} (t : Trace A) (w k : ℕ) (c : Counted t w k) (l : Lent) (h : l.state.used + w ≤ max_words) (f : l.state.next + k < X) where
  counted_run : run t l ≡ ran t l
  counted_run = run_fits t l c.chain (omega (arith, c.words l.state.next)) (omega (arith, c.nets l.state.next))

  pub counted_next : (run t l).state.next ≡ l.state.next + k
  counted_next = ap (λ (x : Lent). x.state.next) counted_run ∙ next_after l.state (t l.state.next) ∙ c.nets l.state.next

  pub counted_used : (run t l).state.used ≡ l.state.used + w
  counted_used = ap (λ (x : Lent). x.state.used) counted_run ∙ used_after t l.state ∙ ap (λ (n : ℕ). l.state.used + n) (c.words l.state.next)

  pub counted_held : is_over (run t l).state ≡ false
  counted_held = not_over (run t l).state (λ z. omega (arith, counted_next, f))

-- the write ports and then the read ports
module _ (m : Mem) (output : Value) (p : Plan) (l : Lent) where
  abbrev tw : Trace (List WideWrite)
  tw = swizzle_writes m (layout_of m p) m.writes p.write_wide

  abbrev tr : Trace (List WideRead)
  tr = swizzle_reads m (layout_of m p) m.reads p.read_wide_of output

  abbrev G : List WideWrite → List WideRead → List Driving
  G ws rs = map (result_mem (layout_of m p) (layout (layout_of m p) m.init) ws rs) (up_from 0 (all_mems (layout_of m p)))

  abbrev F : List WideWrite → Trace (List Driving)
  F ws = (tr >>= λ rs. done (G ws rs))

  rows_are : swizzle_rows m output p ≡ (tw >>= F)
  unfolding swizzle_rows
  rows_are = refl

  pub rows_split : run (swizzle_rows m output p) l ≡ run tr (run tw l)
  rows_split =
      let v = (tw l.state.next).value in
      ap (λ (t : Trace (List Driving)). run t l) rows_are
      ∙ sym (run_then l (run tw l) (run (F v) (run tw l)) tw F v (counted_writes m (layout_of m p) m.writes p.write_wide).chain refl (λ o. refl) refl)
      ∙ run_same tr (G v) (run tw l)

module _ (r : SwizzleRooms) (room : ℕ) (s : LogState) (g : Given) (output : Value) (p : Plan) (e : swizzle_refusal r room s g output p ≡ 0) (w : g.mem.width ≢ 0) (d : g.mem.depth ≢ 0) where
  abbrev m : Mem
  m = g.mem

  abbrev q : Layout
  q = layout_of m p

  fits : Fits room s ((writes_count_of m q m.writes p.write_wide).words + (reads_count_of m q m.reads p.read_wide_of).words) ((writes_count_of m q m.writes p.write_wide).nets + (reads_count_of m q m.reads p.read_wide_of).nets)
  fits = log_fits r room s g output p e w d

  module _ (log : List ℕ) (name : GName) where
    abbrev l : Lent
    l = record { log = log; state = s; name = name }

    abbrev writes : Counted (swizzle_writes m q m.writes p.write_wide) (writes_count_of m q m.writes p.write_wide).words (writes_count_of m q m.writes p.write_wide).nets
    writes = counted_writes m q m.writes p.write_wide

    words_fit : s.used + (writes_count_of m q m.writes p.write_wide).words ≤ max_words
    words_fit = omega (arith, fits.short)

    nets_fit : s.next + (writes_count_of m q m.writes p.write_wide).nets < X
    nets_fit = omega (arith, fits.high)

    -- the state after the write ports
    pub writes_next : (run (swizzle_writes m q m.writes p.write_wide) l).state.next ≡ s.next + (writes_count_of m q m.writes p.write_wide).nets
    writes_next = counted_next (swizzle_writes m q m.writes p.write_wide) _ _ writes l words_fit nets_fit

    pub writes_used : (run (swizzle_writes m q m.writes p.write_wide) l).state.used ≡ s.used + (writes_count_of m q m.writes p.write_wide).words
    writes_used = counted_used (swizzle_writes m q m.writes p.write_wide) _ _ writes l words_fit nets_fit

    pub writes_held : is_over (run (swizzle_writes m q m.writes p.write_wide) l).state ≡ false
    writes_held = counted_held (swizzle_writes m q m.writes p.write_wide) _ _ writes l words_fit nets_fit

    -- the read ports start where the trace of the rules has them start
    pub reads_start_lem : (run (swizzle_writes m q m.writes p.write_wide) l).state.next ≡ (swizzle_writes m q m.writes p.write_wide s.next).next
    reads_start_lem = writes_next ∙ sym (writes.nets s.next)
