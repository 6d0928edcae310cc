-- The sizes that the test of a layout gives, and which layouts have rows.
use mathlib.Core.Path.{◌≡◌, refl, sym, ap, ◌∙◌, subst}
use mathlib.Core.Bool.{Bool, true, false}
use mathlib.Core.Option.{none}
use mathlib.Core.List.{List}
use native.Mathlib.Omega.{arith}
use Prim.Native.Nat.{ℕ, min}
use lib.ListN.{take}
use borrow.Author.Tests.{eq-eqb, ne_eqb}
use Rattle.lists.specs.Choice.{when◌then◌else◌}
use Rattle.rules.specs.Limits.{max_ports}
use Rattle.rules.specs.Value.{Value}
use Rattle.rules.specs.Conditions.{bad_layout}
use Rattle.rules.specs.Geometry.{Layout}
use Rattle.rules.specs.Beside.Shape as sizes
use Rattle.rules.specs.Beside.Shape.{shape_of, laid_shape}
use Rattle.rules.proofs.GoodLayouts.{none_told}
use Rattle.log_entries.specs.Emission.{Lent}
use Rattle.net_memory.specs.declared.Memory.{Memory}
use Rattle.net_memory.specs.View.{memory_of}
use Rattle.port_transparency.specs.Gave.{Gave}
use Rattle.swizzle_result.specs.declared.WideMemory.{WideMemory}
use Rattle.swizzle_writes.specs.Placed.{Filled, none_filled, placed_from}
use Rattle.image_geometry.specs.declared.Shape.{Shape}
use Rattle.image_geometry.specs.View.{shape_by}
use Rattle.swizzle_reads.specs.Going.{Going, in_ports, has_rows, reads_if}
use Rattle.swizzle_reads.proofs.Layouts.{good_has, bad_has, none_has}
use Rattle.swizzle_rows.specs.Rows.{start_memory, Measured, start_going, RowsBy, RowsRan}

pub measured : (q : Layout) (s : Shape) → shape_by s ≡ shape_of q → Measured q s
unfolding shape_of
measured q s h = record {
  full_are = ap (λ (z : sizes.Shape). z.full_mems) h;
  all_are = ap (λ (z : sizes.Shape). z.all_mems) h;
  deep_is = ap (λ (z : sizes.Shape). z.full_depth_of) h;
  part_is = ap (λ (z : sizes.Shape). z.part_depth_of) h;
}

not_both : (b : Bool) → b ≡ true → b ≡ false → ⊥
not_both b e f =
    let z : ◌≡◌ {A = ℕ} 1 0 = ap (λ (t : Bool). when t then 1 else 0) (sym e ∙ f) in
    omega (arith, z)

module _ (q : Layout) (m : Memory) (nets trits ws rs : List ℕ) (output : Value) (scratch : ℕ) (before : Going) where
  none_ran : has_rows q ≡ false → RowsRan q m nets trits ws rs output scratch before before
  none_ran f = record { by_rows = λ t. absurd (not_both (has_rows q) t f); else_none = λ z. refl }

  pub refused_ran : none ≡ laid_shape q → RowsRan q m nets trits ws rs output scratch before before
  refused_ran n = none_ran (bad_has q (none_told q n))

  pub narrow_ran : bad_layout q ≡ false → q.width ≡ 0 → RowsRan q m nets trits ws rs output scratch before before
  narrow_ran b w = none_ran (none_has q b (eq-eqb q.width 0 w))

  pub rows_ran : (after : Going) → bad_layout q ≡ false → (q.width ≡ 0 → ⊥) → RowsBy q m nets trits ws rs output scratch before after
      → RowsRan q m nets trits ws rs output scratch before after
  rows_ran after b w r = record { by_rows = λ t. r; else_none = λ z. absurd (not_both (has_rows q) (good_has q b (ne_eqb q.width 0 w)) z) }

-- ---- from the code's start to that of the layout
abbrev pub going_with : Going → Lent → Filled → WideMemory → Going
going_with g l f mem = record { lent = l; nets = f.room; nets_name = g.nets_name; trits = g.trits; trits_name = g.trits_name; nets_at_of = f.at; trits_at_of = 0; memory = mem }

module _ (q : Layout) (m : Memory) (nets trits ws rs : List ℕ) (output : Value) (scratch : ℕ) (before after : Going) (s : Shape) (z : Measured q s) (mid : Lent) (f : Filled) where
  start_is : (mem : WideMemory) → mem ≡ start_memory s.full_mems s.all_mems s.full_depth s.part_depth q.unit m.write_count m.read_count f.ports
      → going_with before mid f mem ≡ start_going q m before mid f
  start_is mem e =
      ap (going_with before mid f)
      (e ∙ (λ i. start_memory (z.full_are i) (z.all_are i) (z.deep_is i) (z.part_is i) q.unit m.write_count m.read_count f.ports))

  pub rows_by : Gave (placed_from (memory_of m nets trits) q s.all_mems m.write_ports 0 (take (min max_ports m.write_count) ws) (none_filled before.nets)) before.lent mid f → (mem : WideMemory)
      → mem ≡ start_memory s.full_mems s.all_mems s.full_depth s.part_depth q.unit m.write_count m.read_count f.ports
      → after ≡ reads_if q scratch (in_ports m nets trits) rs output (going_with before mid f mem)
      → RowsBy q m nets trits ws rs output scratch before after
  rows_by g mem em e = record {
    mid = mid;
    filled = f;
    gave = subst (λ (k : ℕ). Gave (placed_from (memory_of m nets trits) q k m.write_ports 0 (take (min max_ports m.write_count) ws) (none_filled before.nets)) before.lent mid f) z.all_are g;
    reads_are = e ∙ ap (reads_if q scratch (in_ports m nets trits) rs output) (start_is mem em);
  }
