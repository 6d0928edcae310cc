-- The limits that accepted sizes keep.
use Prim.Native.Nat.{ℕ, ◌+◌, ◌*◌, ◌<◌, ◌≤◌, min}
use mathlib.Core.Path.{◌≡◌, sym, ap, ◌∙◌}
use mathlib.Core.Bool.{Bool, false, not, ◌&&◌}
use mathlib.Core.List.{List}
use native.Mathlib.Omega.{arith}
use native.Mathlib.Nat.{mul-le-mul, mul-one}
use lib.Dec.{eqb, ltb}
use borrow.Author.Tests.{eqb-false, ltb-false}
use Rattle.lists.proofs.Choice.{or_false}
use Rattle.rules.specs.Limits.{max_unit, max_depth, max_partial, max_columns, max_image}
use Rattle.rules.specs.Logic.{are_trits}
use Rattle.rules.specs.Record.{Sizes, size_mems, size_trits}
use Rattle.rules.specs.Conditions.{bad_trits, is_power, bad_unit, unlike, bad_depths, bad_sizes}

-- ---- what sizes keep that 17 does not refuse
pub record Limited (s : Sizes) : Type 0 where
  pub unit_pos : 0 < s.unit
  pub unit_max : s.unit ≤ 256
  pub full_max : s.full ≤ 32768
  pub full_depth_max : s.full_depth_of ≤ 32768
  pub partial_max : s.partial ≤ 32768
  pub partial_depth_max : s.partial_depth ≤ 32767
  pub trits_max : size_trits s ≤ 131072

pub factor : (a b : ℕ) → 0 < b → a ≤ a * b
factor a b h = omega (arith, mul-le-mul {n₁ = a} {m₁ = 1} {n₂ = a} {m₂ = b} (omega arith) (omega arith), mul-one a)

positive : (n : ℕ) → (n ≡ 0 → ⊥) → 0 < n
positive n h = omega arith

module _ (s : Sizes) (e : bad_sizes s ≡ false) where
  unit_good : (0 < s.unit) × (s.unit ≤ 256)
  unfolding bad_sizes bad_unit
  unit_good =
      let u = or_false (eqb s.unit 0) (ltb max_unit s.unit) (or_false (bad_unit s) _ e).0 in
      (positive s.unit (eqb-false s.unit 0 u.0), ltb-false max_unit s.unit u.1)

  depths_good : (s.full_depth_of ≤ 32768) × (s.partial_depth ≤ 32767)
  unfolding bad_sizes bad_depths
  depths_good =
      let d = (or_false (bad_depths s) _ (or_false (bad_unit s) _ e).1).0 in
      let a = (or_false (unlike s.full s.full_depth_of) _ d).1 in
      let b = (or_false (unlike s.partial s.partial_depth) _ a).1 in
      let c = (or_false (not (eqb s.full 0) && not (is_power s.full_depth_of)) _ b).1 in
      let f = or_false (ltb max_depth s.full_depth_of) _ c in
      (ltb-false max_depth s.full_depth_of f.0, ltb-false max_partial s.partial_depth (or_false (ltb max_partial s.partial_depth) _ f.1).0)

  columns_good : (size_mems s * s.unit ≤ 32768) × (size_trits s ≤ 131072)
  unfolding bad_sizes
  columns_good =
      let c = or_false (ltb max_columns (size_mems s * s.unit)) _ (or_false (bad_depths s) _ (or_false (bad_unit s) _ e).1).1 in
      (ltb-false max_columns (size_mems s * s.unit) c.0, ltb-false max_image (size_trits s) c.1)

  counts_good : (s.full ≤ 32768) × (s.partial ≤ 32768)
  unfolding size_mems
  counts_good =
      let f : s.full + s.partial ≤ (s.full + s.partial) * s.unit = factor (s.full + s.partial) s.unit unit_good.0 in
      let c = columns_good.0 in
      (omega arith, omega arith)

  pub kept : Limited s
  kept = record {
    unit_pos = unit_good.0;
    unit_max = unit_good.1;
    full_max = counts_good.0;
    full_depth_max = depths_good.0;
    partial_max = counts_good.1;
    partial_depth_max = depths_good.1;
    trits_max = columns_good.1;
  }

-- the test of the trits that the code makes
pub bad_trits_lem : (r t : Bool) (x y : List ℕ) → x ≡ y → r ≡ are_trits x → not r ≡ t → bad_trits y ≡ t
unfolding bad_trits
bad_trits_lem r t x y e q h = ap (λ (l : List ℕ). not (are_trits l)) (sym e) ∙ ap not (sym q) ∙ h

-- accepted sizes: the trits up to their limit are all
pub all-trits : (z : Sizes) (n : ℕ) → bad_sizes z ≡ false → n ≡ min (size_trits z) 131072 → n ≡ size_trits z
all-trits z n g e = omega (arith, (kept z g).trits_max)

pub mems_max : (s : Sizes) → bad_sizes s ≡ false → size_mems s ≤ 32768
mems_max s e = omega (arith, factor (size_mems s) s.unit (unit_good s e).0, (columns_good s e).0)
