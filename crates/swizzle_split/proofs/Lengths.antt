-- The parts of a split address have at most as many nets as a row number has bits, and a split has few pieces.
use Prim.Native.Nat.{ℕ, ◌+◌, ◌-◌, ◌^◌, ◌≤◌}
use native.Mathlib.Nat.{pow-le-pow_right}
use native.Mathlib.Omega.{arith}
use mathlib.Core.Bool.{Bool, true, false}
use mathlib.Core.List.{List, [], ◌∷◌}
use lib.ListN.{length, replicate, length-append, length-replicate}
use Rattle.lists.specs.Choice.{when◌then◌else◌}
use Rattle.rules.specs.Limits.{addr_bits}
use Rattle.rules.specs.Numbers.{bits_for}
use Rattle.rules.specs.Value.{Value, zext}
use Rattle.rules.specs.Geometry.{Layout}
use Rattle.rules.specs.Swizzle.{Role, is_row, row_nets, mux_nets, split_by, split_addr}
use Rattle.rules.proofs.Walks.{tops_le}
use Rattle.swizzle_split.specs.Steps.{Fits}
use Rattle.swizzle_split.proofs.Splitting.{pieces_low}

row_step : (b : Bool) (a : ℕ) (v : Value) (n : ℕ) → length v ≤ n → length (when b then a ∷ v else v) ≤ n + 1
row_step true a v n h = omega arith
row_step false a v n h = omega arith

row_le : (rs : List Role) (v : Value) → length (row_nets rs v) ≤ length v
unfolding row_nets
row_le [] v = omega arith
row_le (r ∷ rs) [] = omega arith
row_le (r ∷ rs) (a ∷ more) = omega (arith, row_step (is_row r) a (row_nets rs more) (length more) (row_le rs more))

mux_step : (b : Bool) (a : ℕ) (v : Value) (n : ℕ) → length v ≤ n → length (when b then v else a ∷ v) ≤ n + 1
mux_step true a v n h = omega arith
mux_step false a v n h = omega arith

mux_le : (rs : List Role) (v : Value) → length (mux_nets rs v) ≤ length v
unfolding mux_nets
mux_le [] v = omega arith
mux_le (r ∷ rs) [] = omega arith
mux_le (r ∷ rs) (a ∷ more) = omega (arith, mux_step (is_row r) a (mux_nets rs more) (length more) (mux_le rs more))

zext_le : (v : Value) (n k : ℕ) → length v ≤ k → n ≤ k → length (zext v n) ≤ k
unfolding zext
zext_le v n k h g = omega (arith, length-append v (replicate (n - length v) 0), length-replicate {A = ℕ} (n - length v) 0)

bits_le : (n : ℕ) → bits_for n ≤ addr_bits
unfolding bits_for
bits_le n = tops_le addr_bits (n - 1)

module _ (q : Layout) (old new : ℕ) (addr : Value) (f : Fits q old new (length addr)) where
  pub addr_low : length (split_addr q old new addr).addr ≤ addr_bits
  unfolding split_addr split_by
  addr_low = zext_le _ (q.hard - new) addr_bits (le_to (row_le _ addr) (omega (arith, f.short))) (omega (arith, f.hard_max))
    where
      le_to : {a b c : ℕ} → a ≤ b → b ≤ c → a ≤ c
      le_to h g = omega arith

  pub mux_low : length (split_addr q old new addr).mux_addr ≤ addr_bits
  unfolding split_addr split_by
  mux_low = zext_le _ _ addr_bits (le_to (mux_le _ addr) (omega (arith, f.short))) (bits_le _)
    where
      le_to : {a b c : ℕ} → a ≤ b → b ≤ c → a ≤ c
      le_to h g = omega arith

  pub pieces_few : (split_addr q old new addr).pieces ≤ 524288
  unfolding split_addr split_by
  pieces_few = pieces_low q old new addr f

  pub old_few : 2 ^ old ≤ 16
  old_few = pow-le-pow_right {n = 2} (omega arith) {i = old} {j = 4} f.old_max

  pub new_few : 2 ^ new ≤ 16
  new_few = pow-le-pow_right {n = 2} (omega arith) {i = new} {j = 4} f.new_max
