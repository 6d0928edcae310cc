-- The words and nets of a fallback's rows, of a memory that no number refuses.
use mathlib.Core.Path.{◌≡◌, refl, sym, ap, ◌∙◌, subst}
use mathlib.Core.Logic.{◌≢◌, ⊎_elim}
use Prim.Native.Nat.{ℕ, ◌+◌, ◌-◌, ◌*◌, ◌/◌, ◌^◌, ◌≤◌, min}
use native.Mathlib.Nat.{eq-zero-or-pos}
use native.Mathlib.Omega.{arith}
use mathlib.Core.Bool.{false, not, ◌||◌}
use mathlib.Core.List.{List, [], ◌∷◌}
use lib.ListN.{length, length-map}
use lib.Dec.{eqb}
use Rattle.lists.specs.Choice.{when◌then◌else◌}
use Rattle.lists.specs.Lists.{any, sum_by}
use Rattle.lists.proofs.Choice.{or_false, if_false}
use Rattle.rules.specs.Limits.{max_depth, max_width}
use Rattle.rules.specs.Value.{Value}
use Rattle.rules.specs.Cell.{WritePort, Mem, write_wide_log2, with_reads}
use Rattle.rules.specs.Conditions.{bad_shape, bad_write_shape}
use Rattle.rules.specs.Ports.{Driving}
use Rattle.rules.specs.Fallback.{fallback_plan, lower_rows}
use Rattle.rules.specs.Swizzle.{swizzle}
use Rattle.rules.specs.Refusals.{lower_fallback_number}
use Rattle.rules.proofs.Counted.{Counted, counted_done}
use Rattle.net_memory.specs.declared.Memory.{Memory}
use Rattle.net_memory.specs.Given.{given_of}
use Rattle.net_memory.specs.View.{memory_of}
use Rattle.net_check.proofs.Accept.{Sizes, sizes}
use Rattle.port_unmap_all.specs.All.{bare, all_bare}
use Rattle.fallback_masks.specs.Sizes.{mask_runs, port_pieces, port_runs, register_words, register_nets, rows_words_of, rows_nets, wide_sizes, size_words, size_nets}
use Rattle.fallback_masks.proofs.Bare.{bare_width, bare_depth, bare_writes, bare_reads, write_log_lem, bare-most}
use Rattle.fallback_masks.proofs.Sums.{sum_same}
use Rattle.fallback_masks.proofs.Numbers.{in_limits, flat-words, flat_nets_lem}
use Rattle.fallback_masks.proofs.Rows.{good, most, divided, row_none}
use Rattle.fallback_masks.proofs.Counts.{rows_closed}

-- ---- the counts do not depend on the flip-flops
module _ (m : Mem) where
  abbrev B : Mem
  B = all_bare m

  bare_pieces : (p : WritePort) → port_pieces B p ≡ port_pieces m p
  unfolding port_pieces
  bare_pieces p = λ i. bare_depth m i / 2 ^ bare-most m i * 2 ^ min (length p.addr) (bare-most m i - write_log_lem m p i)

  bare-runs : (p : WritePort) → port_runs B p ≡ port_runs m p
  unfolding port_runs
  bare-runs p = λ i. bare_pieces p i * mask_runs (bare_width m i) p.mask + (bare_depth m i - bare_pieces p i * 2 ^ write_log_lem m p i)

  all_runs : sum_by (port_runs B) B.writes ≡ sum_by (port_runs m) m.writes
  all_runs = ap (sum_by (port_runs B)) (bare_writes m) ∙ sum_same (port_runs B) (port_runs m) bare-runs m.writes

  count : length B.writes ≡ length m.writes
  count = ap length (bare_writes m)

  reads : length B.reads ≡ length m.reads
  reads = ap length (bare_reads m) ∙ length-map m.reads bare

  bare_register : register_words B ≡ register_words m
  unfolding register_words
  bare_register = λ i. when eqb (count i) 0 then 0 else bare_depth m i * (21 + 6 * bare_width m i + count i * (2 * bare_width m i)) + 5 * all_runs i

  bare_nets : register_nets B ≡ register_nets m
  unfolding register_nets
  bare_nets = λ i. when eqb (count i) 0 then 0 else bare_depth m i * ((2 + count i) * bare_width m i)

  pub bare-words : rows_words_of B ≡ rows_words_of m
  unfolding rows_words_of
  bare-words = λ i. when eqb (bare_width m i) 0 then 0 else bare_depth m i * (reads i * (4 + 2 * bare_width m i)) + bare_register i

  pub bare-all_nets : rows_nets B ≡ rows_nets m
  unfolding rows_nets
  bare-all_nets = λ i. when eqb (bare_width m i) 0 then 0 else bare_nets i

  bare_shape : (p : WritePort) → bad_write_shape B p ≡ bad_write_shape m p
  unfolding bad_write_shape write_wide_log2 all_bare with_reads
  bare_shape p = refl

  any-bare : (ps : List WritePort) → any (bad_write_shape B) ps ≡ any (bad_write_shape m) ps
  any-bare [] = refl
  any-bare (p ∷ ps) = λ i. bare_shape p i || any-bare ps i

  pub bare_shapes : any (bad_write_shape B) B.writes ≡ any (bad_write_shape m) m.writes
  bare_shapes = ap (any (bad_write_shape B)) (bare_writes m) ∙ any-bare m.writes

  shapes : bad_shape m ≡ false → any (bad_write_shape m) m.writes ≡ false
  unfolding bad_shape
  shapes e = (or_false (any (bad_write_shape m) m.writes) _ (or_false (not (eqb (length m.init) (m.depth * m.width))) _ e).1).0

  -- sizes inside the limits
  pub words-kept : m.depth ≤ max_depth → m.width ≤ max_width → size_words m ≡ rows_words_of m
  unfolding size_words
  words-kept a b = if_false (wide_sizes m) 0 (rows_words_of m) (in_limits m a b)

  pub nets_kept : m.depth ≤ max_depth → m.width ≤ max_width → size_nets m ≡ rows_nets m
  unfolding size_nets
  nets_kept a b = if_false (wide_sizes m) 0 (rows_nets m) (in_limits m a b)

-- ---- a memory that no number refuses
module _ (next : ℕ) (m : Memory) (nets trits output : List ℕ) (z : lower_fallback_number next (given_of m nets trits) output ≡ 0) where
  abbrev M : Mem
  M = memory_of m nets trits

  limits : Sizes m
  limits = sizes (good next m nets trits output z)

  sized : (M.depth ≤ max_depth) × (M.width ≤ max_width)
  unfolding memory_of
  sized = (limits.depth_ok, limits.width_ok)

  shapes_good : any (bad_write_shape (all_bare M)) (all_bare M).writes ≡ false
  shapes_good = bare_shapes M ∙ shapes M (good next m nets trits output z).shape_not

  no_rows : Counted (lower_rows []) 0 0
  unfolding lower_rows
  no_rows = counted_done tt

  flat_size : (outs : Value) (n : ℕ) → M.width ≡ 0 → Counted (lower_rows (swizzle (all_bare M) outs (fallback_plan (all_bare M)) n).value) (rows_words_of M) (rows_nets M)
  flat_size outs n e =
      subst (λ (ds : List Driving). Counted (lower_rows ds) (rows_words_of M) (rows_nets M)) (sym (row_none next m nets trits output z outs n e))
      (subst (λ (w : ℕ). Counted (lower_rows []) w (rows_nets M)) (sym (flat-words M e)) (subst (λ (k : ℕ). Counted (lower_rows []) 0 k) (sym (flat_nets_lem M e)) no_rows))

  wide_size : (outs : Value) (n : ℕ) → M.width ≢ 0 → Counted (lower_rows (swizzle (all_bare M) outs (fallback_plan (all_bare M)) n).value) (rows_words_of M) (rows_nets M)
  wide_size outs n w =
      subst (λ (x : ℕ). Counted (lower_rows (swizzle (all_bare M) outs (fallback_plan (all_bare M)) n).value) x (rows_nets M)) (bare-words M)
      (subst (λ (x : ℕ). Counted (lower_rows (swizzle (all_bare M) outs (fallback_plan (all_bare M)) n).value) (rows_words_of (all_bare M)) x) (bare-all_nets M)
      (rows_closed (all_bare M) (most next m nets trits output z) (divided next m nets trits output z) (λ e. w (sym (bare_width M) ∙ e)) (omega (arith, bare_width M, sized.1)) (omega (arith, bare_depth M, sized.0)) outs n shapes_good))

  -- the rows give these words and nets, whatever the outputs and the first net are
  pub rows_size : (outs : Value) (n : ℕ) → Counted (lower_rows (swizzle (all_bare M) outs (fallback_plan (all_bare M)) n).value) (rows_words_of M) (rows_nets M)
  rows_size outs n = ⊎_elim (λ e. flat_size outs n e) (λ p. wide_size outs n (λ e. omega (arith, p, e))) (eq-zero-or-pos M.width)

  -- which `rows_size` gives
  pub words_are : size_words M ≡ rows_words_of M
  words_are = words-kept M sized.0 sized.1

  pub nets_are : size_nets M ≡ rows_nets M
  nets_are = nets_kept M sized.0 sized.1
