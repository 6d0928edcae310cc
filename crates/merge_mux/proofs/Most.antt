-- A merge gives at most as many nets as it has bits, so a run without a log never reaches X.
use mathlib.Core.Path.{◌≡◌, sym, ◌∙◌}
use Prim.Native.Nat.{ℕ, ◌+◌, ◌<◌, ◌≤◌, min}
use native.Mathlib.Omega.{arith}
use mathlib.Core.List.{List, [], ◌∷◌, ◌++◌, map}
use lib.ListN.{length, take, drop, get_or, length-map, length-take, length-drop}
use Rattle.lists.specs.Lists.{pairs}
use Rattle.lists.specs.Distinct.{kept, places}
use Rattle.lists.proofs.Distinct.{length_kept}
use Rattle.lists.proofs.Pairs.{pairs_size}
use Rattle.rules.specs.Limits.{max_merge, X}
use Rattle.rules.specs.Value.{Value, Control, Pos}
use Rattle.rules.specs.Log.{Trace, ◌>>=◌, done, add_mux_of, LogState, start_net}
use Rattle.rules.specs.Merge.{same2, spread, add_dedup_mux_of, mux_runs, runs, add_bitwise_mux_of}
use Rattle.rules.proofs.Counted.{AtMost, most_counted, most-done, most_bind, counted_mux, start_le}
use Rattle.rules.specs.Beside.Chain.{Chains}
use Rattle.rules.proofs.Chain.{chains_bitwise_mux}
use Rattle.merge_mux.specs.Results.{limited}
use Rattle.merge_mux.specs.Runs.{bits_taken, bitwise_of}

most_dedup_mux : (c : Control) (a b : Value) → AtMost (add_dedup_mux_of c a b) (length a)
unfolding add_dedup_mux_of
most_dedup_mux c a b n =
    let ks = kept same2 (pairs a b) in
    let e : length (map (λ k. k.0) ks) ≡ length (map (λ k. k.1) ks) = length-map ks (λ k. k.0) ∙ sym (length-map ks (λ k. k.1)) in
    let t = add_mux_of c (map (λ k. k.0) ks) (map (λ k. k.1) ks) in
    let m = most_bind t (λ v. done (spread (places same2 (pairs a b)) v)) (length (map (λ k. k.0) ks)) 0 (most_counted t _ _ (counted_mux c (map (λ k. k.0) ks) (map (λ k. k.1) ks) e)) (λ k. most-done (spread (places same2 (pairs a b)) (t k).value) 0) n in
    omega (arith, m, length-map ks (λ k. k.0), length_kept same2 [] (pairs a b), pairs_size a b)

most_mux_runs : (ns : List ℕ) (s a b : Value) → AtMost (mux_runs ns s a b) (length a)
unfolding mux_runs
most_mux_runs [] s a b k = most-done [] (length a) k
most_mux_runs (n ∷ ns) s a b k =
    let t = add_dedup_mux_of (Pos (get_or s 0 X)) (take n a) (take n b) in
    let u = mux_runs ns (drop n s) (drop n a) (drop n b) in
    let m = most_bind t (λ v. u >>= λ w. done (v ++ w)) (length (take n a)) (length (drop n a) + 0) (most_dedup_mux (Pos (get_or s 0 X)) (take n a) (take n b)) (λ i.
    most_bind u (λ w. done ((t i).value ++ w)) (length (drop n a)) 0 (most_mux_runs ns (drop n s) (drop n a) (drop n b)) (λ j. most-done ((t i).value ++ (u j).value) 0)) k in
    omega (arith, m, length-take n a, length-drop n a)

most_bitwise : (s a b : Value) → AtMost (add_bitwise_mux_of s a b) (length a)
unfolding add_bitwise_mux_of
most_bitwise s a b = most_mux_runs (runs s) s a b

below : {A : Type 0} (t : Trace A) (k : ℕ) (s : LogState) → AtMost t k → k ≤ max_merge → (t (start_net s)).next < X
below t k s h l = omega (arith, h (start_net s), l, start_le s)

pub mux_below : (c : Control) (a b : Value) (s : LogState) → (add_dedup_mux_of c (limited a) (limited b) (start_net s)).next < X
unfolding limited
mux_below c a b s = below (add_dedup_mux_of c (take max_merge a) (take max_merge b)) _ s (most_dedup_mux c (take max_merge a) (take max_merge b)) (omega (arith, length-take max_merge a))

pub chains_bitwise : (x a b : Value) → Chains (bitwise_of x a b)
unfolding bitwise_of
chains_bitwise x a b = chains_bitwise_mux (take (bits_taken x a b) x) (take (bits_taken x a b) a) (take (bits_taken x a b) b)

pub bitwise_below : (x a b : Value) (s : LogState) → (bitwise_of x a b (start_net s)).next < X
unfolding bitwise_of bits_taken
bitwise_below x a b s =
    let n = min (min max_merge (length x)) (min (length a) (length b)) in
    below (add_bitwise_mux_of (take n x) (take n a) (take n b)) _ s (most_bitwise (take n x) (take n a) (take n b)) (omega (arith, length-take n a))
