-- A swizzle of rows: what its code asks, and its refusal by what it counts.
use mathlib.Core.Path.{◌≡◌, refl, sym, ap, ◌∙◌, subst}
use mathlib.Core.Logic.{◌≢◌}
use Prim.Native.Nat.{ℕ, ◌+◌, max, min}
use native.Mathlib.Nat.{zero-add}
use native.Mathlib.Omega.{arith}
use mathlib.Core.Bool.{false}
use mathlib.Core.List.{List, map}
use lib.ListN.{length}
use Rattle.lists.specs.Lists.{pairs}
use Rattle.rules.specs.Limits.{max_ports}
use Rattle.rules.specs.Value.{Value}
use Rattle.rules.specs.Cell.{Mem, Plan}
use Rattle.rules.specs.Log.{LogState, start_net}
use Rattle.rules.specs.Geometry.{Layout, layout_of, row_len_of, columns}
use Rattle.rules.specs.Image.{image_size}
use Rattle.rules.specs.Swizzle.{swizzle_rows, shared_nets, shared_trits, piece_nets}
use Rattle.rules.specs.Numbers.{largest}
use Rattle.rules.specs.Conditions.{bad_layout_sizes}
use Rattle.rules.specs.Refusals as rules
use Rattle.rules.specs.Refusals.{room_refusal, log_refusal, swizzle_plan_number, swizzle_number}
use Rattle.rules.specs.Beside.Shape as sizes
use Rattle.rules.specs.Beside.Shape.{shape_of, shape_call}
use Rattle.rules.proofs.GoodLayouts.{good, layout_too_large}
use Rattle.rules.proofs.Accepts.{layout_good}
use Rattle.rules.proofs.Shaping.{shape_told, shape_not_told}
use Rattle.net_memory.specs.declared.Memory.{Memory}
use Rattle.net_memory.specs.View.{memory_of, writes_of, reads_of}
use Rattle.net_memory.specs.Given.{given_of}
use Rattle.image_geometry.specs.declared.Params.{Params}
use Rattle.image_geometry.specs.declared.Shape.{Shape}
use Rattle.std.specs.Prelude.{Result, Ok, Err}
use Rattle.rules.specs.Refusal.{number}
use Rattle.rules.specs.declared.numbers.Refusal.{Refusal}
use Rattle.image_geometry.specs.View.{layout_by, shape_by, measured_of}
use Rattle.swizzle_plan.specs.declared.MemorySwizzle.{MemorySwizzle}
use Rattle.swizzle_plan.specs.Calls.{plan_of, params_by}
use Rattle.swizzle_facts.proofs.Ports.{writes_passed, reads_passed}
use Rattle.swizzle_facts.proofs.Counting.{rows_by_counts}
use Rattle.swizzle_counts.specs.declared.Needs.{Needs}
use Rattle.swizzle_counts.specs.Needs.{all_needs, plus_needs, ReadsFit, reads_needs, WritesFit, writes_needs}
use Rattle.swizzle_counts.specs.Refusal.{needs_refusal, rows_refusal, RowsFit}
use Rattle.swizzle_counts.proofs.Shared.{nets_need, trits_need}
use Rattle.swizzle_counts.proofs.Meant.{read_of, write_of}
use Rattle.swizzle_counts.proofs.Sums.{ReadSums, read_sums, WriteSums, write_sums, layout_is, passed, long_reads, long_writes, reads_fit, reads_count, writes_fit, writes_count}
use Rattle.swizzle_counts.proofs.Refusing.{rows_number, by_rows}

-- ---- the sizes that were measured
module _ (p p' : Params) (es : List ℕ) (o : Result Shape Refusal) (e : measured_of o ≡ shape_call (layout_by p es)) (ep : p ≡ p') where
  abbrev q : Layout
  q = layout_by p' es

  here : measured_of o ≡ shape_call q
  here = e ∙ ap (λ (x : Params). shape_call (layout_by x es)) ep

  pub measured_not : (k : Refusal) → o ≡ Err k → layout_too_large q ≡ false → ⊥
  measured_not k f g =
      let a = (shape_not_told q (number k) (sym (ap measured_of f) ∙ here)).1 in
      let z : ◌≡◌ {A = ℕ} 0 1 = cc in omega arith

  measured_is : (z : Shape) → o ≡ Ok z → shape_by z ≡ shape_of q
  measured_is z f = (shape_told q (shape_by z) (sym (ap measured_of f) ∙ here)).1

  pub measured_columns : (z : Shape) → o ≡ Ok z → z.columns ≡ columns q
  unfolding shape_of
  measured_columns z f = ap (λ (x : sizes.Shape). x.columns) (measured_is z f)

  pub measured_image : (z : Shape) → o ≡ Ok z → z.image_size ≡ image_size q
  unfolding shape_of
  measured_image z f = ap (λ (x : sizes.Shape). x.image_size) (measured_is z f)

module _ (m : Memory) (nets : List ℕ) (p p' : Params) (c c' : ℕ) (ep : p ≡ p') (ec : c ≡ c') where
  pub writes_move : (es es' : List ℕ) → es ≡ es' → (ws : List ℕ) → WritesFit m nets p' c' es' ws → WritesFit m nets p c es ws
  writes_move es es' ee ws f = subst (λ (t : Type 0). t) (λ i. WritesFit m nets (sym ep i) (sym ec i) (sym ee i) ws) f

  pub reads_move : (rs : List ℕ) → ReadsFit m nets p' c' rs → ReadsFit m nets p c rs
  reads_move rs f = subst (λ (t : Type 0). t) (λ i. ReadsFit m nets (sym ep i) (sym ec i) rs) f

-- sizes within the limits
pub row_len : (p : Params) (es : List ℕ) → bad_layout_sizes p.depth p.width (length es) p.unit p.hard ≡ false → layout_too_large (layout_by p es) ≡ false
unfolding row_len_of
row_len p es e = e

-- ---- a plan that passes
pub mem_width : (m : Memory) (nets trits : List ℕ) → (memory_of m nets trits).width ≡ m.width
unfolding memory_of
mem_width m nets trits = refl

pub mem_depth_lem : (m : Memory) (nets trits : List ℕ) → (memory_of m nets trits).depth ≡ m.depth
unfolding memory_of
mem_depth_lem m nets trits = refl

module _ (r : rules.SwizzleRooms) (room : ℕ) (st : LogState) (m : Memory) (nets trits : List ℕ) (s : MemorySwizzle) (es ws rs : List ℕ) (output : Value)
    (z : swizzle_plan_number st.next (given_of m nets trits) output (plan_of s es ws rs) ≡ 0) (w : m.width ≢ 0) (d : m.depth ≢ 0)
    (wl : length (writes_of m nets) ≡ min max_ports m.write_count) (rl : length (reads_of m nets trits) ≡ min max_ports m.read_count) where
  abbrev M : Mem
  M = memory_of m nets trits

  abbrev P : Plan
  P = plan_of s es ws rs

  abbrev Q : Layout
  Q = layout_of M P

  abbrev p : Params
  p = params_by m s

  w' : M.width ≢ 0
  w' f = w (sym (mem_width m nets trits) ∙ f)

  d' : M.depth ≢ 0
  d' f = d (sym (mem_depth_lem m nets trits) ∙ f)

  e : swizzle_number st.next (given_of m nets trits) output P ≡ 0
  e = rows_number r room st (given_of m nets trits) output P z w' d'

  small : bad_layout_sizes m.depth m.width (length es) s.data_width_unit s.hard_addr_bits ≡ false
  unfolding layout_of memory_of row_len_of
  small = (good Q (layout_good st.next (given_of m nets trits) output P e)).sizes

  pub rows_ready : RowsFit m nets s es ws rs
  rows_ready = record {
    small = small;
    writes = writes_fit m nets trits s es ws rs st.next output e w d wl rl;
    reads = reads_fit m nets trits s es ws rs st.next output e w d wl rl;
  }

  abbrev nw : Needs
  nw = writes_needs m nets p (columns (layout_by p es)) es ws

  abbrev nr : Needs
  nr = reads_needs m nets p (columns (layout_by p es)) rs

  ew : nw ≡ all_needs (map (write_of M Q) (pairs M.writes ws))
  ew = writes_count m nets trits s es ws rs st.next output e w d wl rl

  er : nr ≡ all_needs (map (read_of M Q) (pairs M.reads rs))
  er = reads_count m nets trits s es ws rs st.next output e w d wl rl

  sw : WriteSums M Q M.writes ws
  sw = write_sums M Q M.writes ws (long_writes m nets trits s es ws rs st.next output e w d wl rl)

  sr : ReadSums M P M.reads rs
  sr = read_sums M P M.reads rs (long_reads m nets trits s es ws rs st.next output e w d wl rl)

  room_is : nw.room + nr.room ≡ length (shared_nets M (swizzle_rows M output P (start_net st)).value)
  room_is =
      (λ i. (ap (λ (n : Needs). n.room) ew ∙ sw.room_is) i + (ap (λ (n : Needs). n.room) er ∙ sr.room_is) i)
      ∙ sym (nets_need M output P (passed m nets trits s es ws rs st.next output e w d wl rl) (writes_passed st.next (given_of m nets trits) output P e) (reads_passed st.next (given_of m nets trits) output P e) (start_net st))

  trits_are : nw.trits + nr.trits ≡ length (shared_trits M (swizzle_rows M output P (start_net st)).value)
  trits_are =
      (λ i. (ap (λ (n : Needs). n.trits) ew ∙ sw.trits_are) i + (ap (λ (n : Needs). n.trits) er ∙ sr.trits_are) i)
      ∙ zero-add _
      ∙ sym (trits_need M output P (passed m nets trits s es ws rs st.next output e w d wl rl) (writes_passed st.next (given_of m nets trits) output P e) (reads_passed st.next (given_of m nets trits) output P e) (start_net st))

  scratch_is : max nw.scratch nr.scratch ≡ largest (map (piece_nets M P) (pairs M.reads rs))
  scratch_is = (λ i. max ((ap (λ (n : Needs). n.scratch) ew ∙ sw.scratch_is) i) ((ap (λ (n : Needs). n.scratch) er ∙ sr.scratch_is) i)) ∙ none _
    where
      none : (k : ℕ) → max 0 k ≡ k
      none k = omega arith

  log_is : room_refusal room st (nw.words + nr.words) (nw.nets + nr.nets) ≡ log_refusal room st (swizzle_rows M output P)
  log_is =
      (λ i. room_refusal room st ((ap (λ (n : Needs). n.words) ew ∙ sw.words_are) i + (ap (λ (n : Needs). n.words) er ∙ sr.words_are) i) ((ap (λ (n : Needs). n.nets) ew ∙ sw.nets_are) i + (ap (λ (n : Needs). n.nets) er ∙ sr.nets_are) i))
      ∙ sym (rows_by_counts st.next (given_of m nets trits) output P e w' d' room st)

  pub rows_refused : (k : ℕ) → k ≡ needs_refusal r room st (plus_needs nw nr) (image_size (layout_by p es)) → k ≡ rows_refusal r room st (given_of m nets trits) output P
  rows_refused k f =
      by_rows r room st (given_of m nets trits) output P z w' d' (plus_needs nw nr) (image_size (layout_by p es)) k
      (ap image_size (layout_is m nets trits s es ws rs st.next output e w d wl rl)) room_is trits_are scratch_is log_is f
