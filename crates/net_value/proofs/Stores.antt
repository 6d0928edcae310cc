-- Laws of the store of a value that is filled up with net 0.
use mathlib.Core.Path.{◌≡◌, sym, ap}
use Prim.Native.Nat.{ℕ, ◌-◌, ◌≤◌}
use native.Mathlib.Omega.{arith}
use mathlib.Core.List.{List, append-nil}
use lib.ListN.{length, replicate}
use lib.Seq.{sets}
use Rattle.lists.proofs.Store.{sets_at}
use Rattle.rules.specs.Value.{zext}

module _ (v : List ℕ) (n : ℕ) (out : List ℕ) where
  -- the value, and then the zeros where it ends
  pub zext-filled : sets (sets out 0 v) (length v) (replicate (n - length v) 0) ≡ sets out 0 (zext v n)
  unfolding zext
  zext-filled = sets_at out 0 (length v) v (replicate (n - length v) 0) (omega arith)

  -- no zeros are needed
  pub zext-whole : n ≤ length v → sets out 0 v ≡ sets out 0 (zext v n)
  unfolding zext
  zext-whole h =
      let e : n - length v ≡ 0 = omega arith in
      rw e (ap (sets out 0) (sym (append-nil v)))
