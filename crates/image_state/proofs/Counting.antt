-- The record's sizes of a layout, from the sizes that its test gives; and that number 17 never refuses them.
use Prim.Native.Nat.{ℕ, ◌-◌}
use mathlib.Core.Path.{◌≡◌, refl, sym, ap, ◌∙◌}
use mathlib.Core.Logic.{◌≢◌}
use mathlib.Core.Bool.{Bool, true, false}
use mathlib.Core.Option.{none, some}
use native.Mathlib.Omega.{arith}
use borrow.Author.Tests.{eq-eqb, ne_eqb}
use Rattle.lists.specs.Choice.{when◌then◌else◌}
use Rattle.rules.specs.Geometry.{Layout, full_mems, all_mems, full_depth_of, part_depth_of}
use Rattle.rules.specs.Record.{Sizes, depth_if, sizes_of}
use Rattle.rules.specs.Conditions.{bad_layout, bad_sizes}
use Rattle.rules.specs.Beside.Shape as sizes
use Rattle.rules.specs.Beside.Shape.{shape_of, handed_on, laid_shape}
use Rattle.rules.specs.Answers.{Refused, Accepted, sizes_call}
use Rattle.rules.proofs.GoodLayouts.{good, good_small, handed_none, handed_some, none_told}
use Rattle.rules.proofs.Extents.{all_max, deep_max, part_max}
use Rattle.rules.proofs.Places.{full_all}
use Rattle.rules.proofs.SwizzleSizes.{layout-sizes}
use Rattle.image_geometry.specs.declared.Shape.{Shape}
use Rattle.image_geometry.specs.View.{shape_by}
use Rattle.image_state.specs.Counts.{Counted}

-- ---- a depth
-- ---- the counts of a layout
module _ (q : Layout) (s : Shape) (h : shape_by s ≡ shape_of q) where
  full_is : s.full_mems ≡ full_mems q
  unfolding shape_of
  full_is = ap (λ (z : sizes.Shape). z.full_mems) h

  all_is : s.all_mems ≡ all_mems q
  unfolding shape_of
  all_is = ap (λ (z : sizes.Shape). z.all_mems) h

  deep_is : s.full_depth ≡ full_depth_of q
  unfolding shape_of
  deep_is = ap (λ (z : sizes.Shape). z.full_depth_of) h

  part_is : s.part_depth ≡ part_depth_of q
  unfolding shape_of
  part_is = ap (λ (z : sizes.Shape). z.part_depth_of) h

  pub counted : bad_layout q ≡ false → Counted s
  counted e =
      let z = good_small q e in
      record {
        full_under = omega (arith, full_is, all_is, full_all q z.unit_pos);
        all_max = omega (arith, all_is, all_max q z);
        deep_max = omega (arith, deep_is, deep_max q z);
        part_max = omega (arith, part_is, part_max q z);
      }

  abbrev held : ℕ → ℕ → ℕ → ℕ → Sizes
  held full deep partial shallow = record { unit = q.unit; full = full; full_depth_of = depth_if full deep; partial = partial; partial_depth = depth_if partial shallow }

  pub sizes_none : q.width ≡ 0 → held 0 0 0 0 ≡ sizes_of q
  unfolding sizes_of depth_if
  sizes_none e = rw (eq-eqb q.width 0 e)

  pub sizes_some : q.width ≢ 0 → held s.full_mems s.full_depth (s.all_mems - s.full_mems) s.part_depth ≡ sizes_of q
  unfolding sizes_of
  sizes_some w =
      (λ i. held (full_is i) (deep_is i) (all_is i - full_is i) (part_is i))
      ∙ sym (ap (λ (t : Bool). held (when t then 0 else full_mems q) (full_depth_of q) (when t then 0 else all_mems q - full_mems q) (part_depth_of q)) (ne_eqb q.width 0 w))

-- ---- the whole answer
module _ (q : Layout) where
  pub not_sized : none ≡ laid_shape q → Refused 23 ≡ sizes_call (handed_on q)
  unfolding sizes_call
  not_sized h = sym (ap sizes_call (handed_none q (none_told q h)))

  pub sized : (z : Sizes) → bad_layout q ≡ false → z ≡ sizes_of q → Accepted z ≡ sizes_call (handed_on q)
  unfolding sizes_call
  sized z e h = ap Accepted h ∙ sym (ap sizes_call (handed_some q e))

  none_call : sizes_call none ≡ Refused 23
  unfolding sizes_call
  none_call = refl

  some_call : sizes_call (some q) ≡ Accepted (sizes_of q)
  unfolding sizes_call
  some_call = refl

  -- number 17
  pub sizes_good : (z : Sizes) → sizes_call (handed_on q) ≡ Accepted z → bad_sizes z ≡ false
  sizes_good z h = on (bad_layout q) refl
    where
      on : (t : Bool) → bad_layout q ≡ t → bad_sizes z ≡ false
      on true e =
          let r = ap sizes_call (handed_none q e) in
          let x : ◌≡◌ {A = ℕ} 0 1 = cc (none_call) in
          absurd (omega arith)
      on false e =
          let r = ap sizes_call (handed_some q e) in
          let x : z ≡ sizes_of q = cc (some_call) in
          let s = good_small q e in
          ap bad_sizes x ∙ layout-sizes q s.unit_pos s.unit_max s.hard_max (good q e).result
