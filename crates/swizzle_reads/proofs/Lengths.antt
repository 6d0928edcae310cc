-- How many trits a port has.
use mathlib.Core.Path.{◌≡◌, refl, ap, ◌∙◌}
use Prim.Native.Nat.{ℕ, ◌+◌, ◌-◌, ◌*◌, ◌^◌}
use native.Mathlib.Nat.{mul_left_comm}
use mathlib.Core.List.{List}
use lib.ListN.{length, length-append}
use mathlib.Core.Option.{Option, none, some}
use Rattle.rules.specs.Cell.{ReadFlipFlop}
use Rattle.rules.specs.Geometry.{Layout, all_mems, columns}
use Rattle.rules.specs.Swizzle.{Split, const_columns, wide_flip_flop}
use Rattle.swizzle_laws.specs.Order.{ordered}
use Rattle.swizzle_laws.proofs.Parts.{length_ordered}
use Rattle.swizzle_laws.proofs.Whole.{const_whole}
use Rattle.swizzle_result.specs.Held.{clock_trits}
use Rattle.swizzle_reads.specs.Going.{trits_if}

module _ (q : Layout) (s : Split) where
  kind_length : (v : List ℕ) → length (ordered q s (const_columns q s v)) ≡ 2 ^ s.new * columns q
  unfolding columns
  kind_length v = length_ordered q s (const_columns q s v) (const_whole q s v) ∙ mul_left_comm (all_mems q) (2 ^ s.new) q.unit

  pub trits_length : (f : Option ReadFlipFlop) → length (clock_trits q s (wide_flip_flop q s f)) ≡ trits_if f (2 ^ s.new * columns q)
  unfolding wide_flip_flop
  trits_length none = refl
  trits_length (some f) =
      length-append (ordered q s (const_columns q s f.clear_value)) _
      ∙ ap (λ (k : ℕ). length (ordered q s (const_columns q s f.clear_value)) + k) (length-append (ordered q s (const_columns q s f.reset_value)) (ordered q s (const_columns q s f.init_value)))
      ∙ (λ i. kind_length f.clear_value i + (kind_length f.reset_value i + kind_length f.init_value i))
