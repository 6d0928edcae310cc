-- The registers of a struct, and the struct that the split leaves.
use mathlib.Core.Path.{◌≡◌, refl, sym, ap, ◌∙◌, subst}
use mathlib.Core.Logic.{◌≢◌, ⊎_elim}
use Prim.Native.Nat.{ℕ, ◌-◌, ◌*◌, ◌<◌, ◌≤◌}
use native.Mathlib.Nat.{eq-zero-or-pos, mul-pos}
use native.Mathlib.Omega.{arith}
use mathlib.Core.Bool.{Bool, true, false, not, ◌||◌}
use mathlib.Core.List.{List, [], map}
use lib.ListN.{length, take, drop, length-map, length-take}
use lib.Dec.{eqb, ltb}
use borrow.Author.Tests.{eqb-true, not-false}
use Rattle.lists.specs.Choice.{when◌then◌else◌}
use Rattle.lists.specs.Lists.{part, up_from}
use Rattle.lists.proofs.Choice.{or_false}
use Rattle.lists.proofs.Store.{drop_sets}
use Rattle.lists.proofs.UpFrom.{length_up}
use Rattle.rules.specs.Limits.{max_ports, max_row, max_unit, max_columns, max_nets}
use Rattle.rules.specs.Value.{Value}
use Rattle.rules.specs.Cell.{Mem, Plan}
use Rattle.rules.specs.Log.{Trace, ◌>>=◌, done, start_net, added}
use Rattle.rules.specs.Ports.{Driving}
use Rattle.rules.specs.Conditions.{bad_shape}
use Rattle.rules.specs.Geometry.{Layout, layout_of, all_mems, columns}
use Rattle.rules.specs.Image.{image_size}
use Rattle.rules.specs.Swizzle.{swizzle_writes, swizzle_reads, swizzle_rows, swizzle, shared_nets, shared_trits}
use Rattle.rules.specs.Fallback.{fallback_plan, lower_rows, fallback_scratch}
use Rattle.rules.specs.Refusals.{log_refusal, swizzle_number}
use Rattle.rules.proofs.Traces.{start_same}
use Rattle.log_entries.specs.declared.LogState.{LogState}
use Rattle.log_entries.specs.Emission.{Lent, run}
use Rattle.log_entries.specs.View.{state_of, lent}
use Rattle.log_entries.proofs.Emission.{run_then}
use Rattle.log_entries.proofs.Rooms.{Fits, room_fits}
use Rattle.net_memory.specs.declared.Memory.{Memory}
use Rattle.net_memory.specs.View.{memory_of, trits_total}
use Rattle.net_memory.specs.Given.{given_of}
use Rattle.net_check.proofs.Accept.{exact}
use Rattle.swizzle_facts.proofs.Counting.{reads_readable}
use Rattle.swizzle_laws.proofs.ReadsCounts.{Readables}
use Rattle.swizzle_result.specs.declared.WideMemory.{WideMemory}
use Rattle.swizzle_result.specs.View.{result_of, results_of}
use Rattle.swizzle_call.specs.Told.{Told}
use Rattle.swizzle_call.proofs.Logs.{log_0}
use Rattle.fallback_bare.specs.Bare.{bare_of}
use Rattle.fallback_counts.specs.Counts.{AllRows}
use Rattle.fallback_plan.proofs.Numbers as plan
use Rattle.fallback_rows.specs.Rows.{rows_of, lowered}
use Rattle.fallback_rows.proofs.Whole.{lowered_is}
use Rattle.fallback_flat.proofs.Ports.{no_wides, AllFresh, writes_new, reads_fresh}
use Rattle.fallback_flat.proofs.Structs.{flat}
use Rattle.fallback_masks.proofs.Rows.{all_rows, shallow_none}
use Rattle.fallback_pass.proofs.Number as pass
use Rattle.fallback_pass.proofs.Refusal.{rows_trace, shared_low}
use Rattle.fallback_pass.proofs.Rooms.{image_is}
use Rattle.fallback_pass.proofs.Counts.{swizzle_counted}
use Rattle.fallback.specs.Split.{rooms, Passes, SplitDone, Prepared, Empty, Rows, Ready, split_lowered}

-- ---- the registers
module _ (g : WideMemory) (nets image : List ℕ) where
  rows_none : rows_of g nets image [] ≡ lower_rows []
  unfolding rows_of lower_rows
  rows_none = refl

  none_either : (b : Bool) → (when b then done tt else rows_of g nets image []) ≡ lower_rows []
  unfolding lower_rows
  none_either true = refl
  none_either false = rows_none

  none_lowered : g.mems ≡ 0 → lowered g nets image ≡ lower_rows (results_of g nets [] image)
  unfolding lowered results_of
  none_lowered e =
      ap (λ (k : ℕ). when ltb max_unit g.unit || ltb max_columns g.mems then done tt else rows_of g nets image (up_from 0 k)) e
      ∙ none_either (ltb max_unit g.unit || ltb max_columns g.mems) ∙ ap (λ (k : ℕ). lower_rows (map (result_of g nets [] image) (up_from 0 k))) (sym e)

  -- a struct that is prepared gives the registers of its memories
  pub made_lowered : Prepared g nets image → length g.write_ports ≡ max_ports → length g.read_ports ≡ max_ports → lowered g nets image ≡ lower_rows (results_of g nets [] image)
  made_lowered (Empty e) w r = none_lowered e
  made_lowered (Rows f) w r = lowered_is g nets image (f w r)

-- ---- the struct of the split
no_memories : (g : WideMemory) (nets image : List ℕ) → results_of g nets [] image ≡ [] → g.mems ≡ 0
unfolding results_of
no_memories g nets image e = sym (length-map (up_from 0 g.mems) (result_of g nets [] image) ∙ length_up 0 g.mems) ∙ ap length e

all-columns : (q : Layout) → columns q ≡ all_mems q * q.unit
unfolding columns
all-columns q = refl

module _ (b : Mem) (outs : Value) where
  abbrev P : Plan
  P = fallback_plan b

  abbrev q : Layout
  q = layout_of b P

  unit_is : q.unit ≡ b.width
  unfolding layout_of fallback_plan
  unit_is = refl

  write_wides : P.write_wide ≡ no_wides b.writes
  unfolding fallback_plan
  write_wides = refl

  read_wides : P.read_wide_of ≡ no_wides b.reads
  unfolding fallback_plan
  read_wides = refl

  rows_next : (n : ℕ) → (swizzle_rows b outs P n).next ≡ (swizzle_reads b q b.reads P.read_wide_of outs (swizzle_writes b q b.writes P.write_wide n).next).next
  unfolding swizzle_rows ◌>>=◌ done
  rows_next n = refl

  fresh_all : (n top : ℕ) → Readables b q b.reads P.read_wide_of outs → (swizzle_reads b q b.reads P.read_wide_of outs n).next ≤ top
      → AllFresh q top (swizzle_reads b q b.reads P.read_wide_of outs n).value
  fresh_all n top r h =
      subst (λ (ns : List ℕ). AllFresh q top (swizzle_reads b q b.reads ns outs n).value) (sym read_wides)
      (reads_fresh b q b.reads outs n top (subst (λ (ns : List ℕ). Readables b q b.reads ns outs) read_wides r) (subst (λ (ns : List ℕ). (swizzle_reads b q b.reads ns outs n).next ≤ top) read_wides h))

module _ (m : Memory) (nets trits outs : List ℕ) (st : LogState) (log tables : List ℕ) (r : Ready m nets trits outs st log tables) where
  abbrev M : Mem
  M = memory_of m nets trits

  abbrev B : Mem
  B = memory_of (bare_of m) nets trits

  abbrev Q : Layout
  Q = layout_of B (fallback_plan B)

  abbrev n : ℕ
  n = st.next

  width_some : M.width ≢ 0
  width_some e = r.width_some (sym (pass.mem_width r.next m nets trits r.output r.number) ∙ e)

  bare_some : B.width ≢ 0
  bare_some = pass.bare_some r.next m nets trits r.output r.number width_some

  logs_low : plan.K B ≤ 32
  logs_low = omega (arith, pass.logs_low r.next m nets trits r.output r.number)

  -- the log takes the split: its nets stay within the limit
  log_fits : log_refusal (length log) (state_of st) (swizzle B outs (fallback_plan B)) ≡ 0
  log_fits = log_0 (rooms tables) (length log) st (bare_of m) nets trits outs (fallback_plan B) r.passes

  last_net : (swizzle B outs (fallback_plan B) n).next ≤ max_nets
  unfolding log_refusal
  last_net =
      let t = swizzle B outs (fallback_plan B) in
      let f : Fits (length log) (state_of st) (length (added (t (start_net (state_of st))))) ((t (start_net (state_of st))).next - start_net (state_of st)) = room_fits (length log) (state_of st) _ _ log_fits in
      let s = start_same (state_of st) f.low (omega (arith, f.high)) in
      omega (arith, f.high, s, ap (λ (k : ℕ). (t k).next) s)

  module _ (d : B.depth ≢ 0) where
    number : swizzle_number n (given_of (bare_of m) nets trits) outs (fallback_plan B) ≡ 0
    number = pass.bare_number r.next m nets trits r.output r.number width_some n r.later outs r.outs_long r.outs_good

    readable : Readables B Q B.reads (fallback_plan B).read_wide_of outs
    readable = reads_readable n (given_of (bare_of m) nets trits) outs (fallback_plan B) number bare_some d

    last_read : (swizzle_reads B Q B.reads (fallback_plan B).read_wide_of outs (swizzle_writes B Q B.writes (fallback_plan B).write_wide n).next).next ≤ max_nets
    last_read = omega (arith, last_net, rows_next B outs n, ap (λ (t : Trace (List Driving)). (t n).next) (rows_trace B outs (fallback_plan B) bare_some d))

    some_columns : 0 < columns Q
    some_columns =
        let e : columns Q ≡ B.depth * B.width = plan.columns_are B logs_low (pass.depth_not r.next m nets trits r.output r.number) bare_some in
        let p : 0 < B.depth * B.width = mul-pos (omega (arith, d)) (omega (arith, bare_some)) in
        omega (arith, e, p)

    few_mems : all_mems Q ≤ max_columns
    few_mems =
        omega (arith, plan.mems_are B logs_low (pass.depth_not r.next m nets trits r.output r.number) bare_some, pass.bare_depth r.next m nets trits r.output r.number, (pass.sized r.next m nets trits r.output r.number).depth_ok)

    few_unit : Q.unit ≤ max_unit
    few_unit = omega (arith, unit_is B, pass.bare_width r.next m nets trits r.output r.number, (pass.sized r.next m nets trits r.output r.number).width_ok)

  module _ (x : Told) (log' tables' image' : List ℕ) (s : SplitDone B outs (fallback_plan B) st log tables x log' tables' image') (k : ℕ) (size : k ≡ image_size Q) where
    abbrev g : WideMemory
    g = x.made.memory

    abbrev own : List ℕ
    own = take x.made.nets_at tables'

    abbrev ds : List Driving
    ds = (swizzle B outs (fallback_plan B) n).value

    pub results : results_of g own [] (take k image') ≡ ds
    results = ap (λ (j : ℕ). results_of g own [] (take j image')) size ∙ s.results_are

    rows : AllRows (results_of g own [] (take k image'))
    rows =
        subst AllRows (sym results)
        (subst (λ (v : Mem). AllRows (swizzle v outs (fallback_plan v) n).value) (sym (pass.bare_is r.next m nets trits r.output r.number)) (all_rows r.next m nets trits r.output r.number outs n))

    empty_made : B.depth ≡ 0 → Prepared g own (take k image')
    empty_made d = Empty (no_memories g own (take k image') (results ∙ shallow_none B outs n bare_some d))

    rows_made : B.depth ≢ 0 → Prepared g own (take k image')
    rows_made d =
        let h = s.ports_held bare_some d in
        Rows (λ w8 r8.
        flat g Q h.writes h.reads (shared_nets B ds) (shared_trits B ds) h.holds max_nets (omega arith) (some_columns d) (few_mems d) (few_unit d) (all-columns Q) B.writes
        (ap (map (λ y. y.split.new)) h.writes_are ∙ ap (λ (ns : List ℕ). map (λ y. y.split.new) (swizzle_writes B Q B.writes ns n).value) (write_wides B outs) ∙ writes_new B Q B.writes n)
        (subst (AllFresh Q max_nets) (sym h.reads_are) (fresh_all B outs _ max_nets (readable d) (last_read d)))
        w8 r8 own (take k image') rows)

    pub made : Prepared g own (take k image')
    made = ⊎_elim (λ d. empty_made d) (λ p. rows_made (λ d. omega (arith, p, d))) (eq-zero-or-pos B.depth)

  -- ---- the trits
  init_exact : length M.init ≡ M.depth * M.width
  unfolding bad_shape
  init_exact = eqb-true _ _ (not-false _ (or_false (not (eqb (length M.init) (M.depth * M.width))) _ (pass.good r.next m nets trits r.output r.number).shape_not).0)

  init_long : length M.init ≡ m.init_len
  unfolding memory_of trits_total
  init_long =
      omega (arith, length-take m.init_len trits, (exact (pass.good r.next m nets trits r.output r.number)).trits_exact)

  pub init_size : m.init_len ≡ image_size Q
  init_size =
      omega (arith, init_exact, init_long, image_is B bare_some, plan.trits_are B logs_low (pass.depth_not r.next m nets trits r.output r.number) bare_some, same_bits)
    where
      same_bits : B.depth * B.width ≡ M.depth * M.width
      same_bits = λ i. (pass.bare_depth r.next m nets trits r.output r.number ∙ sym (pass.mem_depth_lem r.next m nets trits r.output r.number)) i * (pass.bare_width r.next m nets trits r.output r.number ∙ sym (pass.mem_width r.next m nets trits r.output r.number)) i

-- ---- both together
module _ (m : Memory) (nets trits outs : List ℕ) (st : LogState) (log tables : List ℕ) (r : Ready m nets trits outs st log tables) (b : Memory) (e : b ≡ bare_of m) where
  pub given_passes : Passes b nets trits outs st log tables
  given_passes = subst (λ (x : Memory). Passes x nets trits outs st log tables) (sym e) r.passes

  pub given_thin : b.width ≤ max_row
  given_thin = omega (arith, ap (λ (x : Memory). x.width) e, (pass.sized r.next m nets trits r.output r.number).width_ok)

  module _ (x : Told) (log' tables' image' : List ℕ) (s : SplitDone (memory_of b nets trits) outs (fallback_plan (memory_of b nets trits)) st log tables x log' tables' image') where
    split_bare : SplitDone (memory_of (bare_of m) nets trits) outs (fallback_plan (memory_of (bare_of m) nets trits)) st log tables x log' tables' image'
    split_bare = subst (λ (y : Memory). SplitDone (memory_of y nets trits) outs (fallback_plan (memory_of y nets trits)) st log tables x log' tables' image') e s

    module _ (k : ℕ) (size : k ≡ m.init_len) (own image : List ℕ) (eo : own ≡ part 0 x.made.nets_at tables') (ei : image ≡ part 0 k image') where
      pub part_made : Prepared x.made.memory own image
      part_made =
          subst (λ (l : List ℕ). Prepared x.made.memory l image) (sym eo)
          (subst (Prepared x.made.memory (part 0 x.made.nets_at tables')) (sym ei)
          (made m nets trits outs st log tables r x log' tables' image' split_bare k (size ∙ init_size m nets trits outs st log tables r)))

      part-results : results_of x.made.memory own [] image ≡ (swizzle (memory_of (bare_of m) nets trits) outs (fallback_plan (memory_of (bare_of m) nets trits)) st.next).value
      part-results =
          (λ i. results_of x.made.memory (eo i) [] (ei i))
          ∙ results m nets trits outs st log tables r x log' tables' image' split_bare k (size ∙ init_size m nets trits outs st log tables r)

      pub split_ran : (l2 : Lent) → l2 ≡ run (lower_rows (results_of x.made.memory own [] image)) (lent x.made.state log') → l2 ≡ run (split_lowered (memory_of (bare_of m) nets trits) outs) (lent st log)
      unfolding split_lowered
      split_ran l2 h =
          run_then (lent st log) (lent x.made.state log') l2 _ lower_rows (results_of x.made.memory own [] image)
          (swizzle_counted r.next m nets trits r.output r.number (width_some m nets trits outs st log tables r) outs r.outs_long).chain split_bare.log_is (λ o. part-results) h

    pub tables_kept : drop (fallback_scratch (memory_of m nets trits)) tables' ≡ drop (fallback_scratch (memory_of m nets trits)) tables
    tables_kept =
        let ws = shared_nets (memory_of (bare_of m) nets trits) (swizzle (memory_of (bare_of m) nets trits) outs (fallback_plan (memory_of (bare_of m) nets trits)) st.next).value in
        ap (drop (fallback_scratch (memory_of m nets trits))) split_bare.tables_are
        ∙ drop_sets (fallback_scratch (memory_of m nets trits)) ws tables 0
        (omega (arith, shared_low r.next m nets trits r.output r.number (width_some m nets trits outs st log tables r) st.next r.later outs r.outs_long r.outs_good st.next))
