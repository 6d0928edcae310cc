-- A search among the keys kept that passes those that differ.
use mathlib.Core.Path.{◌≡◌, sym, ap, ◌∙◌}
use mathlib.Core.Bool.{false}
use Prim.Native.Nat.{ℕ, zero, suc, ◌+◌, ◌<◌, ◌≤◌}
use native.Mathlib.Nat.{add-zero, zero-add}
use native.Mathlib.Omega.{arith}
use mathlib.Core.List.{List}
use lib.ListN.{length, drop, get_or}
use borrow.Author.Tests.{ne_eqb}
use Rattle.lists.specs.Distinct.{place_in}
use Rattle.lists.proofs.Distinct.{place_miss, place_none}
use Rattle.rules.specs.Merge.{Key2, same2}
use Rattle.merge_keys.specs.Keys.{Bounded}

module _ (ks : List Key2) (k : Key2) where
  -- what a search from j on gives
  abbrev from : ℕ → ℕ
  from j = j + place_in same2 k (drop j ks)

  -- the n keys from lo on differ
  skip : (lo n : ℕ) → lo + n ≤ length ks → ((j : ℕ) → lo ≤ j → j < lo + n → same2 (get_or ks j (0, 0)) k ≡ false) → from lo ≡ from (lo + n)
  skip lo zero h f = ap from (sym (add-zero lo))
  skip lo (suc n) h f =
      skip lo n (omega (arith, h)) (λ j g q. f j g (omega (arith, q)))
      ∙ place_miss same2 k ks (lo + n) (0, 0) (omega (arith, h)) (f (lo + n) (omega arith) (omega arith))
      ∙ ap from (omega arith)

  -- a first word that is larger than all of them is not among them
  pub past : (most : ℕ) → Bounded ks most → most < k.0 → length ks ≡ place_in same2 k ks
  past most b h =
      sym
      (sym (zero-add (place_in same2 k ks))
      ∙ skip 0 (length ks) (omega arith) (λ j g q. let e = ne_eqb (get_or ks j (0, 0)).0 k.0 (λ e. omega (arith, b j (omega (arith, q)), e, h)) in rw e)
      ∙ ap from (zero-add (length ks))
      ∙ place_none same2 k ks)
