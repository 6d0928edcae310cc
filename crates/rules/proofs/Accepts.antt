-- Demand 3 from an accepted swizzle on: whatever patch calls follow on its image, the images are those of the patched rows.
use Prim.Native.Nat.{ℕ, ◌*◌, ◌≤◌}
use mathlib.Core.Path.{◌≡◌, sym, subst}
use mathlib.Core.Bool.{false, not, ◌||◌}
use mathlib.Core.List.{List}
use lib.Dec.{eqb, ltb}
use lib.ListN.{length}
use borrow.Author.Tests.{eqb-true, ltb-false, not-false}
use Rattle.rules.specs.Limits.{max_depth, max_width, max_bits, max_row, max_unit, max_hard, max_mask, max_wide}
use Rattle.lists.specs.Lists.{any}
use Rattle.rules.specs.Value.{Value}
use Rattle.rules.specs.Cell.{Mem, Given, Plan}
use Rattle.rules.specs.Log.{LogState}
use Rattle.rules.specs.Geometry.{layout_of, row_len_of}
use Rattle.rules.specs.Image.{image_size, Laid, Patch}
use Rattle.rules.specs.Swizzle.{swizzle_laid}
use Rattle.rules.specs.Conditions.{too_large, plan_too_large, bad_shape, bad_output_len, bad_entries, bad_soft_mask, no_room_of, all_reads, image_too_large, bad_layout_sizes, bad_layout}
use Rattle.rules.specs.Refusals.{mem_number, driving_number, plan_number, wide_number, image_number, whole_plan, swizzle_plan_number, swizzle_number, image_refusal, swizzle_refusal}
use Rattle.rules.specs.Answers.{Accepted, SwizzleLent, rooms_of, swizzle_call}
use Rattle.rules.specs.Patch.{patched, laid_out, Demand}
use Rattle.lists.proofs.Choice.{if_zero, or_false, or_both, else_zero, leaves_accepted}
use Rattle.rules.proofs.Demand.{demand_3}
use Rattle.rules.proofs.GoodLayouts.{good_accepted}
use Rattle.rules.proofs.Answers.{tells_accepted}

-- ---- what a plan's number of 0 says
module _ (next : ℕ) (g : Given) (output : Value) (p : Plan) (e : swizzle_number next g output p ≡ 0) where
  abbrev m : Mem
  m = g.mem

  -- the conditions that do not hold
  pub record Passed : Type 0 where
    pub sizes : (too_large m || (g.extra_ports || plan_too_large p)) ≡ false
    pub shape : (bad_shape m || (g.wrong_lens || bad_output_len m output)) ≡ false
    pub entries : bad_entries m.width p.entries ≡ false
    pub soft : bad_soft_mask m p ≡ false
    pub result : image_too_large (layout_of m p) ≡ false

  pub passed : Passed
  unfolding swizzle_number swizzle_plan_number driving_number mem_number whole_plan plan_number image_number
  passed =
      let n = else_zero (swizzle_plan_number next g output p) _ e in
      let i = else_zero (driving_number (plan_too_large p) next g output) _ n.0 in
      let q = else_zero (plan_number m p) _ i.1 in
      let w = else_zero (wide_number m (all_reads m) p) _ q.1 in
      let a = if_zero (too_large m || (g.extra_ports || plan_too_large p)) 0 _ i.0 in
      let b = if_zero (bad_shape m || (g.wrong_lens || bad_output_len m output)) 1 _ a.1 in
      let f = if_zero (bad_entries m.width p.entries) 6 _ q.0 in
      let s = if_zero (bad_soft_mask m p) 7 _ f.1 in
      let r = if_zero (image_too_large (layout_of m p)) 9 _ w.1 in
      record { sizes = a.0; shape = b.0; entries = f.0; soft = s.0; result = r.0 }

  pub init_len_lem : length m.init ≡ m.depth * m.width
  unfolding bad_shape
  init_len_lem = eqb-true _ _ (not-false _ (or_false (not (eqb (length m.init) (m.depth * m.width))) _ (or_false (bad_shape m) _ passed.shape).0).0)

  plan_fits : plan_too_large p ≡ false
  plan_fits = (or_false g.extra_ports _ (or_false (too_large m) _ passed.sizes).1).1

  -- the layout is one that a patch takes
  sizes_good : (bad_layout_sizes m.depth m.width (length p.entries) p.unit p.hard ≡ false) × (ltb max_mask p.soft_mask ≡ false)
  unfolding too_large plan_too_large bad_layout_sizes
  sizes_good =
      let d = or_false (ltb max_depth m.depth) _ (or_false (too_large m) _ passed.sizes).0 in
      let w = or_false (ltb max_width m.width) _ d.1 in
      let b = or_false (ltb max_bits (m.depth * m.width)) _ w.1 in
      let l = or_false (ltb max_row (length p.entries)) _ plan_fits in
      let u = or_false (eqb p.unit 0) _ l.1 in
      let v = or_false (ltb max_unit p.unit) _ u.1 in
      let h = or_false (ltb max_hard p.hard) _ v.1 in
      let x = or_false (any (ltb max_wide) p.write_wide) _ h.1 in
      let y = or_false (any (ltb max_wide) p.read_wide_of) _ x.1 in
      (or_both d.0 (or_both w.0 (or_both b.0 (or_both l.0 (or_both u.0 (or_both v.0 h.0))))), y.1)

  pub layout_good : bad_layout (layout_of m p) ≡ false
  unfolding bad_layout layout_of row_len_of bad_soft_mask
  layout_good = or_both sizes_good.0 (or_both passed.entries (or_both passed.soft (or_both passed.result sizes_good.1)))

-- ---- from the call on
module _ (l : SwizzleLent) (log : List ℕ) (s : LogState) (g : Given) (output : Value) (p : Plan) where
  abbrev refusal : ℕ
  refusal = swizzle_refusal (rooms_of l) (length log) s g output p

  module _ (e : refusal ≡ 0) where
    pub number_zero : swizzle_number s.next g output p ≡ 0
    unfolding swizzle_refusal
    number_zero = (else_zero (swizzle_number s.next g output p) _ e).0

    image_fits : image_size (layout_of g.mem p) ≤ length l.image
    unfolding swizzle_refusal rooms_of image_refusal no_room_of
    image_fits =
        let k = else_zero (image_refusal (length l.image) (layout_of g.mem p)) _ (else_zero (swizzle_number s.next g output p) _ e).1 in
        ltb-false (length l.image) (image_size (layout_of g.mem p)) (if_zero (ltb (length l.image) (image_size (layout_of g.mem p))) 19 0 k.0).0

    image_is : (swizzle_call l log s g output p).image ≡ laid_out (layout_of g.mem p) g.mem.init l.image
    unfolding swizzle_call
    image_is = leaves_accepted refusal l.image _ e

    after_number : (cs : List Patch)
        → Demand (layout_of g.mem p) g.mem.init l.image cs (patched (swizzle_laid g.mem p) cs (swizzle_call l log s g output p).image)
    unfolding patched swizzle_laid layout_of
    after_number cs =
        rw image_is
        (demand_3 (layout_of g.mem p) (good_accepted (layout_of g.mem p) (layout_good s.next g output p number_zero)) g.mem.init l.image
        (init_len_lem s.next g output p number_zero) image_fits cs)

  pub handed : (laid : Laid) → (swizzle_call l log s g output p).laid ≡ Accepted laid → (refusal ≡ 0) × (laid ≡ swizzle_laid g.mem p)
  unfolding swizzle_call
  handed laid e = tells_accepted refusal (swizzle_laid g.mem p) laid (sym e)

  -- one statement over every list of patch calls, refused ones among them, by the state that the swizzle hands on and the image that it leaves
  pub swizzle_then_patches : (laid : Laid) → (swizzle_call l log s g output p).laid ≡ Accepted laid → (cs : List Patch)
      → Demand (layout_of g.mem p) g.mem.init l.image cs (patched laid cs (swizzle_call l log s g output p).image)
  swizzle_then_patches laid e cs =
      let h = handed laid e in
      subst (λ (x : Laid). Demand (layout_of g.mem p) g.mem.init l.image cs (patched x cs (swizzle_call l log s g output p).image)) (sym h.1) (after_number h.0 cs)
