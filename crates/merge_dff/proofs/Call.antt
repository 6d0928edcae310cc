-- The numbers of a merging flip-flop, and the nets that it takes.
use mathlib.Core.Path.{◌≡◌, ap}
use Prim.Native.Nat.{ℕ, ◌+◌, ◌<◌, ◌≤◌}
use native.Mathlib.Omega.{arith}
use mathlib.Core.List.{List, []}
use lib.Dec.{ltb}
use lib.ListN.{length, length-map, length-take}
use borrow.Author.Tests.{ltb-false}
use Rattle.lists.specs.Choice.{◌or_else◌}
use Rattle.lists.specs.Lists.{pairs}
use Rattle.lists.specs.Distinct.{kept}
use Rattle.lists.proofs.Choice.{else_zero, refused_not}
use Rattle.lists.proofs.Distinct.{length_kept}
use Rattle.lists.proofs.Pairs.{pairs_size}
use Rattle.rules.specs.Limits.{max_merge, max_nets, X}
use Rattle.rules.specs.Cell.{Controls, FlipFlop}
use Rattle.rules.specs.Log.{◌>>=◌, done, request, add_dff_of, LogState, start_net}
use Rattle.rules.specs.Merge.{same4, dff_keys, dff_of, add_dedup_dff_of}
use Rattle.rules.specs.Conditions.{long_value}
use Rattle.rules.specs.Refusals.{dff_number, merge_dff_number, result_refusal}
use Rattle.rules.proofs.Counted.{start_le}
use Rattle.net_flip_flop.specs.View.{flip_flop}
use Rattle.merge_mux.specs.Results.{limited}
use Rattle.merge_mux.proofs.Limited.{limited-all}

-- ---- the numbers
module _ (next : ℕ) (f : FlipFlop) where
  -- no number: no more bits than a merge takes
  number_few : merge_dff_number next f ≡ 0 → length f.bits ≤ max_merge
  unfolding merge_dff_number long_value
  number_few e = ltb-false max_merge (length f.bits) (refused_not (ltb max_merge (length f.bits)) 1 (dff_number next f) (omega arith) e).0

-- ---- the nets
pub few_keys : (f : FlipFlop) → length (kept same4 (dff_keys f)) ≤ length f.bits
unfolding dff_keys
few_keys f =
    omega (arith, length_kept same4 [] (pairs (pairs f.bits f.reset_value) (pairs f.clear_value f.init_value)), pairs_size (pairs f.bits f.reset_value) (pairs f.clear_value f.init_value), pairs_size f.bits f.reset_value)

pub dedup_next : (f : FlipFlop) (n : ℕ) → (add_dedup_dff_of f n).next ≡ n + length (kept same4 (dff_keys f))
unfolding add_dedup_dff_of ◌>>=◌ done add_dff_of request dff_of
dedup_next f n = ap (λ (k : ℕ). n + k) (length-map (kept same4 (dff_keys f)) _)

limited_few : (bits : List ℕ) → length (limited bits) ≤ max_merge
unfolding limited
limited_few bits = omega (arith, length-take max_merge bits)

-- too few nets to reach X
pub dedup_below : (x : Controls) (bits clear reset init : List ℕ) (s : LogState) → (add_dedup_dff_of (flip_flop x (limited bits) clear reset init) (start_net s)).next < X
dedup_below x bits clear reset init s =
    let f = flip_flop x (limited bits) clear reset init in
    below (start_net s) (start_le s) (dedup_next f (start_net s)) (few_keys f) (limited_few bits)
  where
    below : (n : ℕ) {m k b : ℕ} → n ≤ max_nets → m ≡ n + k → k ≤ b → b ≤ max_merge → m < X
    below n h e g q = omega arith

-- ---- a call without a number of its input takes all its bits
pub all_bits : (next room : ℕ) (x : Controls) (bits clear reset init : List ℕ) → (merge_dff_number next (flip_flop x bits clear reset init) or_else result_refusal room bits) ≡ 0 → limited bits ≡ bits
all_bits next room x bits clear reset init e = limited-all bits (number_few next (flip_flop x bits clear reset init) (else_zero _ _ e).0)
