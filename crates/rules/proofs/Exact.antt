-- The test of 23 is exact: a layout that passes it is one that an accepted swizzle hands on, here of a memory of X with no ports.
use Prim.Native.Nat.{ℕ, zero, suc, ◌+◌, ◌-◌, ◌*◌, ◌≤◌}
use mathlib.Core.Path.{◌≡◌, refl, ◌∙◌}
use mathlib.Core.Bool.{Bool, true, false, ◌||◌, ◌&&◌}
use mathlib.Core.List.{List, []}
use native.Mathlib.Omega.{arith}
use lib.Dec.{eqb, leb}
use lib.ListN.{length, replicate, length-replicate}
use borrow.Author.Tests.{eq-eqb, ne_eqb, le-ltb}
use Rattle.lists.specs.Choice.{when◌then◌else◌}
use Rattle.lists.specs.Lists.{all}
use Rattle.lists.proofs.Choice.{else_rest, or_both, not_is_false}
use Rattle.rules.specs.Limits.{trit_x, max_depth, max_width, max_bits, max_row, max_unit, max_hard}
use Rattle.rules.specs.Logic.{are_trits}
use Rattle.rules.specs.Value.{good_value, x_nets}
use Rattle.rules.specs.Cell.{Given, given, output_len}
use Rattle.rules.specs.Log.{Trace, start_net, added, words, encode, entry, done, request, replace_value_of, ◌>>=◌, ◌>>◌}
use Rattle.rules.specs.Ports.{Driving, unmap_each, unmap_all}
use Rattle.rules.specs.Geometry.{Layout, layout_of, row_len_of}
use Rattle.rules.specs.Image.{image_size}
use Rattle.rules.specs.Numbers.{largest}
use Rattle.rules.specs.Examples.{bare_mem, bare_plan, first_state, image_room}
use Rattle.rules.specs.Swizzle.{shared_nets, shared_trits, swizzle_scratch, swizzle, swizzle_rows, swizzle_empty, swizzle_writes, swizzle_reads}
use Rattle.rules.specs.Conditions.{too_large, plan_too_large, bad_shape, bad_output_len, bad_depth, bad_nets, bad_trits, bad_value, bad_soft_mask, bad_writes, bad_reads, all_reads, short_ports, no_room_of, log_full, nets_full, bad_layout}
use Rattle.rules.specs.Refusals.{mem_number, driving_number, plan_number, wide_number, image_number, whole_plan, swizzle_plan_number, swizzle_number, image_refusal, results_refusal, lent_refusal, room_refusal, log_refusal, swizzle_refusal}
use Rattle.rules.proofs.GoodLayouts.{good, good_small}

all_x_lem : (n : ℕ) → all (λ t. leb t trit_x) (replicate n trit_x) ≡ true
all_x_lem zero = refl
all_x_lem (suc n) = all_x_lem n

pub bare-layout : (q : Layout) → layout_of (bare_mem q) (bare_plan q) ≡ q
unfolding layout_of
bare-layout q = refl

-- ---- what such a swizzle logs: nothing, or one replacement of no net
module _ (q : Layout) (n : ℕ) where
  rows_words : (length (added (swizzle_rows (bare_mem q) [] (bare_plan q) n)) ≤ 4) × ((swizzle_rows (bare_mem q) [] (bare_plan q) n).next ≡ n)
  unfolding swizzle_rows swizzle_writes swizzle_reads added words done ◌>>=◌
  rows_words = (omega arith, refl)

  empty_words : (length (added (swizzle_empty (bare_mem q) [] n)) ≤ 4) × ((swizzle_empty (bare_mem q) [] n).next ≡ n)
  unfolding swizzle_empty unmap_all unmap_each replace_value_of request added words encode entry done ◌>>=◌ ◌>>◌ x_nets
  empty_words = (omega arith, omega arith)

  none_words : (length (added (done {A = List Driving} [] n)) ≤ 4) × ((done {A = List Driving} [] n).next ≡ n)
  unfolding added words done
  none_words = (omega arith, refl)

  abbrev Few : Trace (List Driving) → Type 0
  Few t = (length (added (t n)) ≤ 4) × ((t n).next ≡ n)

  few_words : Few (swizzle (bare_mem q) [] (bare_plan q))
  unfolding swizzle
  few_words = on (eqb q.width 0) (eqb q.depth 0)
    where
      on : (a b : Bool) → Few (when a then done [] else when b then swizzle_empty (bare_mem q) [] else swizzle_rows (bare_mem q) [] (bare_plan q))
      on true b = none_words
      on false true = empty_words
      on false false = rows_words

-- nor has it scratch
no_scratch : (q : Layout) → swizzle_scratch (bare_mem q) (bare_plan q) ≡ 0
unfolding swizzle_scratch largest
no_scratch q = on (eqb q.width 0) (eqb q.depth 0)
  where
    on : (a b : Bool) → ◌≡◌ {A = ℕ} (when a then 0 else when b then 0 else 0) 0
    on true b = refl
    on false true = refl
    on false false = refl

module _ (q : Layout) (e : bad_layout q ≡ false) where
  abbrev bare : Given
  bare = given (bare_mem q)

  sizes_good : (too_large (bare_mem q) || (false || plan_too_large (bare_plan q))) ≡ false
  unfolding too_large plan_too_large row_len_of
  sizes_good =
      let s = good_small q e in
      or_both
      (or_both (le-ltb max_depth q.depth s.depth_max) (or_both (le-ltb max_width q.width s.width_max) (or_both (le-ltb max_bits (q.depth * q.width) s.bits_max) refl)))
      (or_both (le-ltb max_row (length q.entries) s.len_max) (or_both (ne_eqb q.unit 0 (λ z. omega (arith, s.unit_pos)))
      (or_both (le-ltb max_unit q.unit s.unit_max) (or_both (le-ltb max_hard q.hard s.hard_max) (good q e).mask))))

  shape_good : (bad_shape (bare_mem q) || (false || bad_output_len (bare_mem q) [])) ≡ false
  unfolding bad_shape bad_output_len output_len
  shape_good = or_both (or_both (not_is_false _ (eq-eqb _ _ (length-replicate (q.depth * q.width) trit_x))) refl) refl

  nets_good : (bad_nets 2 (bare_mem q) || bad_value 2 []) ≡ false
  unfolding bad_nets bad_trits are_trits bad_value good_value
  nets_good = or_both (or_both (not_is_false _ (all_x_lem (q.depth * q.width))) refl) refl

  mem_good : driving_number (plan_too_large (bare_plan q)) 2 bare [] ≡ 0
  unfolding driving_number mem_number bad_depth
  mem_good = rw (sizes_good, shape_good, nets_good)

  plan_good : plan_number (bare_mem q) (bare_plan q) ≡ 0
  unfolding plan_number bad_soft_mask
  plan_good = rw ((good q e).entries, (good q e).soft)

  wide_good : wide_number (bare_mem q) (all_reads (bare_mem q)) (bare_plan q) ≡ 0
  unfolding wide_number bad_writes bad_reads all_reads
  wide_good = refl

  result_good : image_number (bare_mem q) (bare_plan q) ≡ 0
  unfolding image_number layout_of
  result_good = rw (good q e).result

  number_good : swizzle_number 2 bare [] (bare_plan q) ≡ 0
  unfolding swizzle_number swizzle_plan_number whole_plan short_ports
  number_good =
      else_rest _ _ (else_rest _ _ mem_good ∙ else_rest _ _ plan_good ∙ else_rest _ _ wide_good ∙ result_good) ∙ last (eqb q.depth 0)
    where
      last : (t : Bool) → ◌≡◌ {A = ℕ} (when t && false then 14 else 0) 0
      last true = refl
      last false = refl

  image_good : image_refusal (image_size q) (layout_of (bare_mem q) (bare_plan q)) ≡ 0
  unfolding image_refusal no_room_of layout_of
  image_good = rw (le-ltb (image_size q) (image_size q) (omega arith))

  rooms_good : (ds : List Driving) → results_refusal (image_room (image_size q)) (bare_mem q) ds ≡ 0
  unfolding results_refusal shared_nets shared_trits no_room_of
  rooms_good ds = refl

  scratch_good : lent_refusal 0 (swizzle_scratch (bare_mem q) (bare_plan q)) ≡ 0
  unfolding no_room_of
  scratch_good = rw (no_scratch q)

  log_good : log_refusal 4 first_state (swizzle (bare_mem q) [] (bare_plan q)) ≡ 0
  unfolding log_refusal room_refusal log_full nets_full start_net
  log_good =
      let f = few_words q 2 in
      let z : (swizzle (bare_mem q) [] (bare_plan q) 2).next - 2 ≡ 0 = omega (arith, f.1) in
      rw (le-ltb 4 (0 + length (added (swizzle (bare_mem q) [] (bare_plan q) 2))) (omega (arith, f.0)), z)

  -- the swizzle is accepted, and its layout is q
  pub exact : swizzle_refusal (image_room (image_size q)) 4 first_state bare [] (bare_plan q) ≡ 0
  unfolding swizzle_refusal
  exact =
      else_rest _ _ number_good ∙ else_rest _ _ image_good ∙ else_rest _ _ (rooms_good (swizzle (bare_mem q) [] (bare_plan q) (start_net first_state)).value)
      ∙ else_rest _ _ scratch_good ∙ log_good
