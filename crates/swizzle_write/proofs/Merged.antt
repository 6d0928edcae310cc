-- A row's mask merged once against zeros.
use mathlib.Core.Path.{◌≡◌, ap, ◌∙◌}
use Prim.Native.Nat.{ℕ, ◌≤◌}
use native.Mathlib.Omega.{arith}
use mathlib.Core.List.{List}
use lib.ListN.{length, take, replicate}
use lib.Seq.{take_all}
use Rattle.lists.specs.Lists.{pairs}
use Rattle.lists.proofs.Pairs.{pairs_size}
use Rattle.rules.specs.Limits.{max_merge}
use Rattle.merge_keys.specs.declared.Kept.{Kept}
use Rattle.merge_keys.specs.Keys.{MergeOf}
use Rattle.swizzle_write.specs.Jobs.{with_zeros}

pub merged_row : (mask zeros : List ℕ) (k : Kept) → length mask ≤ max_merge → zeros ≡ replicate (length mask) 0
    → MergeOf (take max_merge (pairs mask zeros)) k → MergeOf (with_zeros mask) k
merged_row mask zeros k few z f =
    let e : take max_merge (pairs mask zeros) ≡ with_zeros mask =
    take_all max_merge (pairs mask zeros) (omega (arith, pairs_size mask zeros)) ∙ ap (pairs mask) z in
    rw e at f
