-- Only the log refuses the split of a memory without flip-flops by the plan of a fallback: the numbers pass, and the rooms are enough.
use mathlib.Core.Path.{◌≡◌, refl, sym, ap, ◌∙◌}
use mathlib.Core.Logic.{◌≢◌, ⊎_elim}
use Prim.Native.Nat.{ℕ, ◌*◌, ◌≤◌}
use native.Mathlib.Nat.{eq-zero-or-pos}
use native.Mathlib.Omega.{arith}
use mathlib.Core.Bool.{Bool, true, false, not}
use mathlib.Core.List.{List, [], map}
use lib.ListN.{length}
use lib.Dec.{eqb}
use borrow.Author.Tests.{eq-eqb, ne_eqb}
use Rattle.lists.specs.Choice.{when◌then◌else◌}
use Rattle.lists.specs.Lists.{any, sum_by, pairs}
use Rattle.lists.proofs.Choice.{or_false, or_both, else_rest}
use Rattle.rules.specs.Numbers.{largest}
use Rattle.rules.specs.Value.{Value, good_value}
use Rattle.rules.specs.Cell.{ReadPort, Mem, Plan, output_len, with_reads}
use Rattle.rules.specs.Log.{Trace, ◌>>=◌, ◌>>◌, done, LogState, start_net}
use Rattle.rules.specs.Ports.{Driving}
use Rattle.rules.specs.Geometry.{Layout, layout_of, columns}
use Rattle.rules.specs.Image as image
use Rattle.rules.specs.Image.{image_size}
use Rattle.rules.specs.Swizzle.{swizzle, swizzle_empty, swizzle_rows, shared_nets, shared_trits, piece_nets, swizzle_scratch}
use Rattle.rules.specs.Conditions.{bad_read_shape, bad_write_shape, bad_shape}
use Rattle.rules.specs.Refusals.{SwizzleRooms, log_refusal, lent_refusal, image_refusal, results_refusal, swizzle_number, swizzle_refusal, lower_fallback_number}
use Rattle.rules.specs.Fallback.{fallback_plan, fallback_scratch}
use Rattle.net_memory.specs.declared.Memory.{Memory}
use Rattle.net_memory.specs.View.{memory_of}
use Rattle.net_memory.specs.Given.{given_of}
use Rattle.port_unmap_all.specs.All.{bare, all_bare}
use Rattle.swizzle_facts.specs.Passed.{LayoutPassed, WritePassed, ReadPassed, EachPair}
use Rattle.swizzle_facts.proofs.Layouts.{layout_passed}
use Rattle.swizzle_facts.proofs.Ports.{writes_passed, reads_passed}
use Rattle.swizzle_counts.specs.Rooms.{trit_room}
use Rattle.swizzle_counts.proofs.Refusing.{no_nets_lem, no_trits_lem}
use Rattle.swizzle_counts.proofs.Shared.{nets_need, trits_need}
use Rattle.fallback_plan.proofs.Numbers.{columns_are, trits_are}
use Rattle.fallback_plan.proofs.Needs.{scratch_fits}
use Rattle.fallback_bare.specs.Bare.{bare_of}
use Rattle.fallback_pass.proofs.Number.{bare_is, bare_width, bare_depth, mem_width, mem_depth_lem, shape_not, depth_not, logs_low, bare_some, bare_number}
use Rattle.fallback_pass.proofs.Rooms.{room_enough, lent_enough, trits-bare, nets_are, image_is}

pub bare_reads : (m : Mem) → (all_bare m).reads ≡ map bare m.reads
unfolding all_bare with_reads
bare_reads m = refl

-- ---- the trace by the depth
pub rows_trace : (m : Mem) (output : Value) (p : Plan) → m.width ≢ 0 → m.depth ≢ 0 → swizzle m output p ≡ swizzle_rows m output p
unfolding swizzle
rows_trace m output p w d = rw (ne_eqb m.width 0 w, ne_eqb m.depth 0 d)

pub empty_trace : (m : Mem) (output : Value) (p : Plan) → m.width ≢ 0 → m.depth ≡ 0 → swizzle m output p ≡ swizzle_empty m output
unfolding swizzle
empty_trace m output p w d = rw (ne_eqb m.width 0 w, eq-eqb m.depth 0 d)

empty_value : (m : Mem) (output : Value) (n : ℕ) → (swizzle_empty m output n).value ≡ []
unfolding swizzle_empty ◌>>=◌ ◌>>◌ done
empty_value m output n = refl

-- the scratch is none, or that of the rows
scratch_most : (m : Mem) (p : Plan) (k : ℕ) → largest (map (piece_nets m p) (pairs m.reads p.read_wide_of)) ≤ k → swizzle_scratch m p ≤ k
unfolding swizzle_scratch
scratch_most m p k h = on (eqb m.width 0) (eqb m.depth 0) h
  where
    on : (a b : Bool) → largest (map (piece_nets m p) (pairs m.reads p.read_wide_of)) ≤ k → (when a then 0 else when b then 0 else largest (map (piece_nets m p) (pairs m.reads p.read_wide_of))) ≤ k
    on true b h = omega arith
    on false true h = omega arith
    on false false h = h

results_pass : (r : SwizzleRooms) (m : Mem) (ds : List Driving) → length (shared_nets m ds) ≤ r.nets → length (shared_trits m ds) ≤ r.trits → results_refusal r m ds ≡ 0
unfolding results_refusal
results_pass r m ds a b = ap {B = ℕ} (λ (t : Bool). when t then 20 else 0) (or_both (room_enough r.nets _ a) (room_enough r.trits _ b))

module _ (next : ℕ) (m : Memory) (nets trits output : List ℕ) (z : lower_fallback_number next (given_of m nets trits) output ≡ 0) where
  abbrev M : Mem
  M = memory_of m nets trits

  abbrev B : Mem
  B = memory_of (bare_of m) nets trits

  abbrev P : Plan
  P = fallback_plan B

  abbrev q : Layout
  q = layout_of B P

  same_bits : B.depth * B.width ≡ M.depth * M.width
  same_bits = λ i. (bare_depth next m nets trits output z ∙ sym (mem_depth_lem next m nets trits output z)) i * (bare_width next m nets trits output z ∙ sym (mem_width next m nets trits output z)) i

  same_scratch : 2 * length B.writes * (B.depth * B.width) ≡ fallback_scratch M
  unfolding fallback_scratch memory_of
  same_scratch = refl

  reads_shaped : any (bad_read_shape B) B.reads ≡ false
  unfolding bad_shape
  reads_shaped = (or_false (any (bad_write_shape B) B.writes) _ (or_false (not (eqb (length B.init) (B.depth * B.width))) _ (shape_not next m nets trits output z)).1).1

  no_trits-bare : sum_by (trit_room q) (pairs B.reads P.read_wide_of) ≡ 0
  no_trits-bare = ap (λ (v : Mem). sum_by (trit_room q) (pairs v.reads P.read_wide_of)) (bare_is next m nets trits output z) ∙ by_bare
    where
      by_bare : sum_by (trit_room q) (pairs (all_bare M).reads P.read_wide_of) ≡ 0
      by_bare = ap (λ (rs : List ReadPort). sum_by (trit_room q) (pairs rs P.read_wide_of)) (bare_reads M) ∙ trits-bare q M.reads P.read_wide_of

  pub pieces_low : largest (map (piece_nets B P) (pairs B.reads P.read_wide_of)) ≤ M.depth * M.width
  pieces_low = omega (arith, scratch_fits B (omega (arith, logs_low next m nets trits output z)) (depth_not next m nets trits output z) reads_shaped, same_bits)

  pub scratch_low : swizzle_scratch B P ≤ M.depth * M.width
  scratch_low = scratch_most B P (M.depth * M.width) pieces_low

  module _ (w : M.width ≢ 0) where
    w' : B.width ≢ 0
    w' = bare_some next m nets trits output z w

    columns-bare : columns q ≡ B.depth * B.width
    columns-bare = columns_are B (omega (arith, logs_low next m nets trits output z)) (depth_not next m nets trits output z) w'

    trits-all : image.trits q ≡ B.depth * B.width
    trits-all = trits_are B (omega (arith, logs_low next m nets trits output z)) (depth_not next m nets trits output z) w'

    pub columns-all : columns q ≡ M.depth * M.width
    columns-all = columns-bare ∙ same_bits

    image_low : image_size q ≤ M.depth * M.width
    image_low = omega (arith, image_is B w', trits-all, same_bits)

    image_passes : (room : ℕ) → M.depth * M.width ≤ room → image_refusal room q ≡ 0
    unfolding image_refusal
    image_passes room h = lent_enough room (image_size q) (omega (arith, image_low))

    module _ (k : ℕ) (h : next ≤ k) (outs : Value) (long : length outs ≡ output_len M) (fine : good_value k outs ≡ true) where
      number_0 : swizzle_number k (given_of (bare_of m) nets trits) outs P ≡ 0
      number_0 = bare_number next m nets trits output z w k h outs long fine

      pub layout_facts : B.depth ≢ 0 → LayoutPassed q
      layout_facts d = layout_passed k (given_of (bare_of m) nets trits) outs P number_0 w' d

      pub write_pairs : EachPair (WritePassed B q) B.writes P.write_wide
      write_pairs = writes_passed k (given_of (bare_of m) nets trits) outs P number_0

      pub read_pairs : EachPair (ReadPassed B q) B.reads P.read_wide_of
      read_pairs = reads_passed k (given_of (bare_of m) nets trits) outs P number_0

      nets_rows : B.depth ≢ 0 → (n : ℕ) → length (shared_nets B (swizzle_rows B outs P n).value) ≡ fallback_scratch M
      nets_rows d n = nets_need B outs P (layout_facts d) write_pairs read_pairs n ∙ nets_are B (B.depth * B.width) columns-bare ∙ same_scratch

      trits_rows : B.depth ≢ 0 → (n : ℕ) → length (shared_trits B (swizzle_rows B outs P n).value) ≡ 0
      trits_rows d n = trits_need B outs P (layout_facts d) write_pairs read_pairs n ∙ no_trits-bare

      -- the tables of the resulting memories fit the scratch of a fallback
      pub shared_low : (n : ℕ) → length (shared_nets B (swizzle B outs P n).value) ≤ fallback_scratch M
      shared_low n =
          ⊎_elim
          (λ d. omega (arith, ap (λ (t : Trace (List Driving)). length (shared_nets B (t n).value)) (empty_trace B outs P w' d), ap (λ (ds : List Driving). length (shared_nets B ds)) (empty_value B outs n), no_nets_lem B))
          (λ p. rows_low (λ d. omega (arith, p, d)))
          (eq-zero-or-pos B.depth)
        where
          rows_low : B.depth ≢ 0 → length (shared_nets B (swizzle B outs P n).value) ≤ fallback_scratch M
          rows_low d = omega (arith, ap (λ (t : Trace (List Driving)). length (shared_nets B (t n).value)) (rows_trace B outs P w' d), nets_rows d n)

      module _ (r : SwizzleRooms) (enough : fallback_scratch M ≤ r.nets) (n : ℕ) where
        results_rows : B.depth ≢ 0 → results_refusal r B (swizzle B outs P n).value ≡ 0
        results_rows d =
            ap (λ (t : Trace (List Driving)). results_refusal r B (t n).value) (rows_trace B outs P w' d)
            ∙ results_pass r B (swizzle_rows B outs P n).value (omega (arith, nets_rows d n)) (omega (arith, trits_rows d n))

        results_empty : B.depth ≡ 0 → results_refusal r B (swizzle B outs P n).value ≡ 0
        results_empty d =
            ap (λ (t : Trace (List Driving)). results_refusal r B (t n).value) (empty_trace B outs P w' d)
            ∙ ap (results_refusal r B) (empty_value B outs n) ∙ results_pass r B [] (omega (arith, no_nets_lem B)) (omega (arith, no_trits_lem B))

        results_0 : results_refusal r B (swizzle B outs P n).value ≡ 0
        results_0 = ⊎_elim (λ d. results_empty d) (λ p. results_rows (λ d. omega (arith, p, d))) (eq-zero-or-pos B.depth)

    -- 20 and 21 of the log are what is left
    pub bare_refusal : (r : SwizzleRooms) (room : ℕ) (s : LogState) → next ≤ s.next → (outs : Value) → length outs ≡ output_len M → good_value s.next outs ≡ true
        → M.depth * M.width ≤ r.image → fallback_scratch M ≤ r.nets → M.depth * M.width ≤ r.scratch
        → swizzle_refusal r room s (given_of (bare_of m) nets trits) outs P ≡ log_refusal room s (swizzle B outs P)
    unfolding swizzle_refusal
    bare_refusal r room s h outs long fine hi hn hs =
        else_rest (swizzle_number s.next (given_of (bare_of m) nets trits) outs P) _ (number_0 s.next h outs long fine)
        ∙ else_rest (image_refusal r.image q) _ (image_passes r.image hi)
        ∙ else_rest (results_refusal r B (swizzle B outs P (start_net s)).value) _ (results_0 s.next h outs long fine r hn (start_net s))
        ∙ else_rest (lent_refusal r.scratch (swizzle_scratch B P)) _ (lent_enough r.scratch (swizzle_scratch B P) (omega (arith, scratch_low)))
