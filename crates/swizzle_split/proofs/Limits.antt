-- The limits within which an address is split.
use mathlib.Core.Path.{◌≡◌}
use Prim.Native.Nat.{ℕ, ◌+◌, ◌-◌, ◌*◌, ◌≤◌}
use native.Mathlib.Nat.{mul-le-mul}
use mathlib.Core.Bool.{true}
use lib.Dec.{leb}
use borrow.Author.Tests.{leb-true}
use Rattle.lists.proofs.Choice.{and_true}
use Rattle.rules.specs.Limits.{addr_bits}
use Rattle.rules.specs.Numbers.{softs}
use Rattle.rules.specs.Geometry.{Layout}
use Rattle.swizzle_split.specs.Steps.{can_split, Fits}

module _ (q : Layout) (old new len : ℕ) where
  pub can_fits : can_split q old new len ≡ true → Fits q old new len
  unfolding can_split
  can_fits e =
      let a = and_true (leb old 4) _ e in
      let b = and_true (leb new 4) _ a.1 in
      let c = and_true (leb new q.hard) _ b.1 in
      let d = and_true (leb q.hard 32) _ c.1 in
      let f = and_true (leb (old - softs old q.soft_mask) new) _ d.1 in
      let g = and_true (leb (old + len) addr_bits) _ f.1 in
      record {
        old_max = leb-true _ _ a.0;
        new_max = leb-true _ _ b.0;
        new_hard = leb-true _ _ c.0;
        hard_max = leb-true _ _ d.0;
        enough = leb-true _ _ f.0;
        short = leb-true _ _ g.0;
        few = leb-true _ _ g.1;
      }

pub chunk_room : (a b : ℕ) → a ≤ 4294967295 → b ≤ 4294967296 → a * b ≤ 18446744069414584320
chunk_room a b h g = mul-le-mul {n₁ = a} {m₁ = b} {n₂ = 4294967295} {m₂ = 4294967296} h g
