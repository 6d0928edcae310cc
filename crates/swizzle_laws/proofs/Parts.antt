-- A memory's part of a wide port is one slice of the columns in the order of the memories.
use mathlib.Core.Path.{◌≡◌, refl, sym, ◌∙◌}
use Prim.Native.Nat.{ℕ, ◌*◌, ◌^◌, ◌<◌}
use mathlib.Core.List.{List}
use lib.ListN.{length}
use Rattle.lists.specs.Lists.{part}
use Rattle.rules.specs.Geometry.{Layout, all_mems, columns}
use Rattle.rules.specs.Swizzle.{Split, new_rows, mem_part}
use Rattle.swizzle_laws.specs.Order.{gather, ordered}
use Rattle.swizzle_laws.proofs.Order.{length_by_memory, part_by_memory}

module _ (q : Layout) (s : Split) where
  mem_gather : (n : ℕ) (cols : List ℕ) → mem_part q s n cols ≡ gather (all_mems q) (2 ^ s.new) q.unit cols n
  unfolding mem_part gather new_rows columns
  mem_gather n cols = refl

  -- memory n's part
  pub mem_part_lem : (n : ℕ) (cols : List ℕ) → length cols ≡ 2 ^ s.new * columns q → n < all_mems q
      → part (n * (2 ^ s.new * q.unit)) (2 ^ s.new * q.unit) (ordered q s cols) ≡ mem_part q s n cols
  unfolding ordered columns
  mem_part_lem n cols w h = part_by_memory (all_mems q) (2 ^ s.new) q.unit cols w n h ∙ sym (mem_gather n cols)

  pub length_ordered : (cols : List ℕ) → length cols ≡ 2 ^ s.new * columns q → length (ordered q s cols) ≡ all_mems q * (2 ^ s.new * q.unit)
  unfolding ordered columns
  length_ordered cols w = length_by_memory (all_mems q) (2 ^ s.new) q.unit cols w
