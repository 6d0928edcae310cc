-- No number refuses the split of a memory without flip-flops by the plan of a fallback, where none refused the fallback.
use mathlib.Core.Path.{◌≡◌, refl, sym, ap, ◌∙◌}
use mathlib.Core.Logic.{◌≢◌}
use Prim.Native.Nat.{ℕ, zero, ◌-◌, ◌*◌, ◌^◌, ◌≤◌}
use native.Mathlib.Nat.{pow-le-pow_right}
use native.Mathlib.Omega.{arith}
use mathlib.Core.Bool.{Bool, true, false, not, ◌&&◌, ◌||◌}
use mathlib.Core.List.{List, [], ◌∷◌, map}
use lib.ListN.{length}
use lib.Dec.{eqb, ltb}
use borrow.Author.Tests.{eq-eqb, ne_eqb, le-ltb}
use Rattle.lists.specs.Choice.{when◌then◌else◌}
use Rattle.lists.specs.Lists.{any, up_from}
use Rattle.lists.proofs.Choice.{or_both, else_rest, else_zero, refused_not}
use Rattle.lists.proofs.UpFrom.{length_up}
use Rattle.rules.specs.Limits.{max_row, max_unit, max_wide, max_mask}
use Rattle.rules.specs.Value.{Value, good_value}
use Rattle.rules.specs.Cell.{Mem, Given, output_len}
use Rattle.rules.specs.Conditions.{too_large, plan_too_large, bad_shape, bad_output_len, bad_depth, bad_value, bad_nets, write_clocks_differ, short_ports}
use Rattle.rules.specs.Refusals.{mem_number, driving_number, whole_plan, swizzle_plan_number, swizzle_number, lower_fallback_number}
use Rattle.rules.specs.Fallback.{max_wide_log2, fallback_plan}
use Rattle.net_memory.specs.declared.Memory.{Memory}
use Rattle.net_memory.specs.View.{memory_of}
use Rattle.net_memory.specs.Given.{too_many_ports, bad_lens, given_of}
use Rattle.net_check.proofs.Accept.{Valid, valid, Sizes, sizes}
use Rattle.port_unmap_all.specs.All.{all_bare}
use Rattle.fallback_plan.proofs.Logs.{most_low}
use Rattle.fallback_plan.proofs.Numbers.{no_number}
use Rattle.fallback_bare.specs.Bare.{bare_of}
use Rattle.fallback_bare.proofs.Bare.{memory-bare}
use Rattle.fallback_pass.proofs.Shapes.{large_bare, shape_bare, output_bare, depth_bare, nets_bare, short_bare}
use Rattle.fallback_pass.proofs.Lens.{many-bare, lens_bare}

-- ---- the plan is small
no_wide : {A : Type 0} (l : List A) → any (ltb max_wide) (map (λ (a : A). zero) l) ≡ false
no_wide [] = refl
no_wide (a ∷ l) = no_wide l

mask_max : (k : ℕ) → k ≤ 31 → 2 ^ k - 1 ≤ max_mask
mask_max k h =
    let a : 2 ^ k ≤ 4294967296 = pow-le-pow_right {n = 2} (omega arith) {i = k} {j = 32} (omega arith) in
    omega (arith, a)

plan_small : (m : Mem) → m.width ≤ 128 → m.width ≢ 0 → max_wide_log2 m ≤ 31 → plan_too_large (fallback_plan m) ≡ false
unfolding plan_too_large fallback_plan
plan_small m h w k =
    or_both (le-ltb max_row (length (up_from 0 m.width)) (omega (arith, length_up 0 m.width)))
    (or_both (ne_eqb m.width 0 w)
    (or_both (le-ltb max_unit m.width (omega arith))
    (or_both refl (or_both (no_wide m.writes) (or_both (no_wide m.reads) (le-ltb max_mask (2 ^ max_wide_log2 m - 1) (mask_max (max_wide_log2 m) k)))))))

module _ (next : ℕ) (m : Memory) (nets trits output : List ℕ) (z : lower_fallback_number next (given_of m nets trits) output ≡ 0) where
  abbrev M : Mem
  M = memory_of m nets trits

  abbrev B : Mem
  B = memory_of (bare_of m) nets trits

  abbrev given' : Given
  given' = given_of (bare_of m) nets trits

  -- ---- what the fallback's number leaves
  pub driven : driving_number false next (given_of m nets trits) output ≡ 0
  unfolding lower_fallback_number
  driven = (else_zero (driving_number false next (given_of m nets trits) output) _ z).0

  pub long_pairs : short_ports M ≡ false
  unfolding lower_fallback_number
  long_pairs =
      let a = (else_zero (driving_number false next (given_of m nets trits) output) _ z).1 in
      (refused_not (short_ports M) 14 0 (omega arith) (refused_not (write_clocks_differ M) 11 _ (omega arith) a).1).0

  pub good : Valid false (bad_output_len M output) (bad_value next output) next m nets trits
  unfolding driving_number
  good = valid false (bad_output_len M output) (bad_value next output) next m nets trits driven

  pub sized : Sizes m
  sized = sizes good

  -- ---- the memory without flip-flops
  pub bare_is : B ≡ all_bare M
  bare_is = memory-bare m nets trits

  pub bare_width : B.width ≡ m.width
  unfolding memory_of
  bare_width = refl

  pub bare_depth : B.depth ≡ m.depth
  unfolding memory_of
  bare_depth = refl

  pub mem_width : M.width ≡ m.width
  unfolding memory_of
  mem_width = refl

  pub mem_depth_lem : M.depth ≡ m.depth
  unfolding memory_of
  mem_depth_lem = refl

  pub same_outputs : output_len B ≡ output_len M
  same_outputs = ap output_len bare_is ∙ output_bare M

  large_not : too_large B ≡ false
  large_not = ap too_large bare_is ∙ large_bare M ∙ good.large_not

  pub shape_not : bad_shape B ≡ false
  shape_not = ap bad_shape bare_is ∙ shape_bare M good.shape_not

  pub depth_not : bad_depth B ≡ false
  depth_not = ap bad_depth bare_is ∙ depth_bare M good.depth_not

  nets_not : (next' : ℕ) → next ≤ next' → bad_nets next' B ≡ false
  nets_not next' h = ap (bad_nets next') bare_is ∙ nets_bare M next next' h good.nets_not

  pub no_short : short_ports B ≡ false
  no_short = ap short_ports bare_is ∙ short_bare M

  pub logs_low : max_wide_log2 B ≤ 31
  logs_low = most_low (bare_of m) nets trits

  pub bits_low : B.depth * B.width ≤ 32768
  bits_low = let e : B.depth * B.width ≡ m.depth * m.width = λ i. bare_depth i * bare_width i in omega (arith, e, sized.bits_ok)

  pub plan_passes : whole_plan B (fallback_plan B) ≡ 0
  plan_passes = no_number B (omega (arith, logs_low)) depth_not bits_low

  module _ (w : M.width ≢ 0) where
    pub bare_some : B.width ≢ 0
    bare_some e = w (mem_width ∙ sym bare_width ∙ e)

    plan_not : plan_too_large (fallback_plan B) ≡ false
    plan_not = plan_small B (omega (arith, bare_width, sized.width_ok)) bare_some logs_low

    -- ---- 1 to 4
    module _ (next' : ℕ) (h : next ≤ next') (outs : Value) (long : length outs ≡ output_len M) (fine : good_value next' outs ≡ true) where
      outs_long : bad_output_len B outs ≡ false
      unfolding bad_output_len
      outs_long = ap not (eq-eqb (length outs) (output_len B) (long ∙ sym same_outputs))

      outs_good : bad_value next' outs ≡ false
      unfolding bad_value
      outs_good = ap not fine

      one_not : (too_large B || (too_many_ports (bare_of m) || plan_too_large (fallback_plan B))) ≡ false
      one_not = or_both large_not (or_both (many-bare m ∙ good.many_not) plan_not)

      two_not : (bad_shape B || (bad_lens (bare_of m) (length nets) (length trits) || bad_output_len B outs)) ≡ false
      two_not = or_both shape_not (or_both (lens_bare m (length nets) (length trits) good.lens_not) outs_long)

      four_not : (bad_nets next' B || bad_value next' outs) ≡ false
      four_not = or_both (nets_not next' h) outs_good

      bare-driven : driving_number (plan_too_large (fallback_plan B)) next' given' outs ≡ 0
      unfolding driving_number mem_number
      bare-driven = λ i. when one_not i then 1 else when two_not i then 2 else when depth_not i then 3 else when four_not i then 4 else 0

      bare-plan : swizzle_plan_number next' given' outs (fallback_plan B) ≡ 0
      unfolding swizzle_plan_number
      bare-plan = else_rest (driving_number (plan_too_large (fallback_plan B)) next' given' outs) _ bare-driven ∙ plan_passes

      last_none : ◌≡◌ {A = ℕ} (when eqb B.depth 0 && short_ports B then 14 else 0) 0
      last_none = ap {B = ℕ} (λ (b : Bool). when eqb B.depth 0 && b then 14 else 0) no_short ∙ on (eqb B.depth 0)
        where
          on : (t : Bool) → ◌≡◌ {A = ℕ} (when t && false then 14 else 0) 0
          on true = refl
          on false = refl

      pub bare_number : swizzle_number next' given' outs (fallback_plan B) ≡ 0
      unfolding swizzle_number
      bare_number = else_rest (swizzle_plan_number next' given' outs (fallback_plan B)) _ bare-plan ∙ last_none
