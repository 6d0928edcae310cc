-- A mux over nets that differ keeps every bit, and its results are fresh nets in order.
use mathlib.Core.Path.{◌≡◌, refl, sym, ap, ◌∙◌, subst}
use Prim.Native.Nat.{ℕ, zero, suc, ◌+◌, ◌-◌, ◌*◌, ◌<◌, ◌≤◌}
use native.Mathlib.Nat.{zero-add}
use native.Mathlib.Omega.{arith}
use mathlib.Core.Bool.{Bool, true, false, ◌&&◌}
use mathlib.Core.List.{List, [], ◌∷◌, ◌++◌, map, append_assoc, append-nil}
use lib.ListN.{length, get_or, take, drop, length-append, length-take, length-drop}
use lib.Dec.{eqb}
use borrow.Author.Tests.{ne_eqb}
use Rattle.lists.specs.Lists.{sum_by, pairs, up_from}
use Rattle.lists.specs.Distinct.{place_in, with_new, kept_from_of, places_from, kept, places}
use Rattle.lists.proofs.Distinct.{with_new_new}
use Rattle.lists.proofs.UpFrom.{length_up, up_at}
use Rattle.rules.specs.Limits.{X}
use Rattle.rules.specs.Value.{Value, Control, Pos}
use Rattle.rules.specs.Log.{Trace, ◌>>=◌, done, request, mux_by, add_mux_of}
use Rattle.rules.specs.Merge.{Key2, same2, spread, add_dedup_mux_of, longer, runs, mux_runs, add_bitwise_mux_of}
use Rattle.rules.specs.Beside.Chain.{Chains}
use Rattle.rules.proofs.Chain.{chains_bind, chains_done, chains_mux_runs}
use Rattle.rules.proofs.Traces.{bind_value}
use Rattle.rules.proofs.Counted.{Counted, counted_done, counted_same, counted_mux}
use Rattle.swizzle_laws.proofs.Pairs.{counted_bind, counted_as}

-- ---- numbers in order
up_take : (n k w : ℕ) → n ≤ w → take n (up_from k w) ≡ up_from k n
up_take zero k w h = refl
up_take (suc n) k zero h = absurd (omega arith)
up_take (suc n) k (suc w) h = ap (λ (l : List ℕ). k ∷ l) (up_take n (suc k) w (omega arith))

up_drop : (n k w : ℕ) → n ≤ w → drop n (up_from k w) ≡ up_from (k + n) (w - n)
up_drop zero k w h = λ i. up_from (plus_zero k i) (less_zero w i)
  where
    plus_zero : (k : ℕ) → k ≡ k + 0
    plus_zero k = omega arith

    less_zero : (w : ℕ) → w ≡ w - 0
    less_zero w = omega arith
up_drop (suc n) k zero h = absurd (omega arith)
up_drop (suc n) k (suc w) h =
    let a : suc k + n ≡ k + suc n = omega arith in
    let b : w - n ≡ suc w - suc n = omega arith in
    up_drop n (suc k) w (omega arith) ∙ (λ i. up_from (a i) (b i))

up_append : (n j k : ℕ) → up_from n j ++ up_from (n + j) k ≡ up_from n (j + k)
up_append n zero k =
    let a : n + 0 ≡ n = omega arith in
    ap (λ (m : ℕ). up_from m k) a ∙ ap (up_from n) (sym (zero-add k))
up_append n (suc j) k =
    let a : n + suc j ≡ suc n + j = omega arith in
    let b : suc (j + k) ≡ suc j + k = omega arith in
    ap (λ (m : ℕ). n ∷ (up_from (suc n) j ++ up_from m k)) a ∙ ap (λ (l : List ℕ). n ∷ l) (up_append (suc n) j k) ∙ ap (up_from n) b

-- ---- keys whose second nets are below k, and one whose second net is k
abbrev Below : ℕ → List Key2 → Type 0
Below k [] = Unit
Below k (x ∷ l) = (x.1 < k) × Below k l

and_off : (a b : Bool) → b ≡ false → (a && b) ≡ false
and_off true b e = e
and_off false b e = refl

differ : (y : Key2) (a k : ℕ) → y.1 < k → same2 y (a, k) ≡ false
differ y a k h = and_off (eqb y.0 a) _ (ne_eqb y.1 k (λ e. omega (arith, e, h)))

place_past : (a k : ℕ) (acc : List Key2) → Below k acc → place_in same2 (a, k) acc ≡ length acc
place_past a k [] b = refl
place_past a k (y ∷ acc) b = rw (differ y a k b.0) (ap suc (place_past a k acc b.1))

new_past : (a k : ℕ) (acc : List Key2) → Below k acc → with_new same2 (a, k) acc ≡ acc ++ ((a, k) ∷ [])
new_past a k acc b = with_new_new same2 (a, k) acc (omega (arith, place_past a k acc b))

below_more : (a k : ℕ) (acc : List Key2) → Below k acc → Below (suc k) (acc ++ ((a, k) ∷ []))
below_more a k [] b = (omega arith, tt)
below_more a k (y ∷ acc) b = (omega (arith, b.0), below_more a k acc b.1)

kept_from : (acc : List Key2) (a : List ℕ) (k : ℕ) → Below k acc → kept_from_of same2 acc (pairs a (up_from k (length a))) ≡ acc ++ pairs a (up_from k (length a))
kept_from acc [] k b = sym (append-nil acc)
kept_from acc (x ∷ a) k b =
    ap (λ (l : List Key2). kept_from_of same2 l (pairs a (up_from (suc k) (length a)))) (new_past x k acc b)
    ∙ kept_from (acc ++ ((x, k) ∷ [])) a (suc k) (below_more x k acc b)
    ∙ append_assoc acc ((x, k) ∷ []) (pairs a (up_from (suc k) (length a)))

places_from_lem : (acc : List Key2) (a : List ℕ) (k : ℕ) → Below k acc → places_from same2 acc (pairs a (up_from k (length a))) ≡ up_from (length acc) (length a)
places_from_lem acc [] k b = refl
places_from_lem acc (x ∷ a) k b =
    let e : length (acc ++ ((x, k) ∷ [])) ≡ suc (length acc) = omega (arith, length-append acc ((x, k) ∷ [])) in
    (λ i. place_past x k acc b i ∷ places_from same2 (new_past x k acc b i) (pairs a (up_from (suc k) (length a))))
    ∙ ap (λ (l : List ℕ). length acc ∷ l) (places_from_lem (acc ++ ((x, k) ∷ [])) a (suc k) (below_more x k acc b) ∙ ap (λ (j : ℕ). up_from j (length a)) e)

firsts : (a : List ℕ) (k : ℕ) → map (λ (p : Key2). p.0) (pairs a (up_from k (length a))) ≡ a
firsts [] k = refl
firsts (x ∷ a) k = ap (λ (l : List ℕ). x ∷ l) (firsts a (suc k))

seconds : (a : List ℕ) (k : ℕ) → map (λ (p : Key2). p.1) (pairs a (up_from k (length a))) ≡ up_from k (length a)
seconds [] k = refl
seconds (x ∷ a) k = ap (λ (l : List ℕ). k ∷ l) (seconds a (suc k))

-- ---- one mux
spread_from : (n j i k : ℕ) → k ≡ i + j → map (λ (p : ℕ). get_or (up_from n k) p X) (up_from i j) ≡ up_from (n + i) j
spread_from n zero i k e = refl
spread_from n (suc j) i k e =
    let a : n + suc i ≡ suc (n + i) = omega arith in
    (λ r. up_at n k i X (omega (arith, e)) r ∷ spread_from n j (suc i) k (omega (arith, e)) r) ∙ ap (λ (m : ℕ). (n + i) ∷ up_from m j) a

module _ (s : ℕ) (a : Value) (k : ℕ) where
  abbrev b : Value
  b = up_from k (length a)

  abbrev bare : Trace Value
  bare = add_mux_of (Pos s) a b >>= λ v. done (spread (up_from 0 (length a)) v)

  dedup_is : add_dedup_mux_of (Pos s) a b ≡ bare
  unfolding add_dedup_mux_of
  dedup_is =
      (λ i. add_mux_of (Pos s) (map (λ (p : Key2). p.0) (kept_from [] a k tt i)) (map (λ (p : Key2). p.1) (kept_from [] a k tt i)) >>= λ v. done (spread (places_from_lem [] a k tt i) v))
      ∙ (λ i. add_mux_of (Pos s) (firsts a k i) (seconds a k i) >>= λ v. done (spread (up_from 0 (length a)) v))

  pub dedup_counted : Counted (add_dedup_mux_of (Pos s) a b) (5 + 2 * length a) (length a)
  dedup_counted =
      subst (λ (t : Trace Value). Counted t (5 + 2 * length a) (length a)) (sym dedup_is)
      (counted_as bare _ _ _ _ (omega (arith, length_up k (length a))) refl (counted_same (add_mux_of (Pos s) a b) (spread (up_from 0 (length a))) _ _ (counted_mux (Pos s) a b (sym (length_up k (length a))))))

  bare_value : (n : ℕ) → (bare n).value ≡ up_from n (length a)
  unfolding ◌>>=◌ done add_mux_of mux_by request spread
  bare_value n =
      let z : n + 0 ≡ n = omega arith in
      spread_from n (length a) 0 (length a) (sym (zero-add (length a))) ∙ ap (λ (m : ℕ). up_from m (length a)) z

  pub dedup_value : (n : ℕ) → (add_dedup_mux_of (Pos s) a b n).value ≡ up_from n (length a)
  dedup_value n = ap (λ (t : Trace Value). (t n).value) dedup_is ∙ bare_value n

-- ---- the runs of a select
longer_sum : (b : Bool) (ns : List ℕ) → sum_by (λ (n : ℕ). n) (longer b ns) ≡ suc (sum_by (λ (n : ℕ). n) ns)
unfolding longer
longer_sum false ns = omega arith
longer_sum true [] = refl
longer_sum true (n ∷ ns) = omega arith

pub runs_sum : (s : List ℕ) → sum_by (λ (n : ℕ). n) (runs s) ≡ length s
unfolding runs
runs_sum [] = refl
runs_sum (x ∷ []) = refl
runs_sum (x ∷ y ∷ l) = longer_sum (eqb x y) (runs (y ∷ l)) ∙ ap suc (runs_sum (y ∷ l))

-- a run of n bits, and the runs after it
runs_cons : (n : ℕ) (ns : List ℕ) (s a b : Value) → mux_runs (n ∷ ns) s a b ≡ (add_dedup_mux_of (Pos (get_or s 0 X)) (take n a) (take n b) >>= λ v. (mux_runs ns (drop n s) (drop n a) (drop n b) >>= λ w. done (v ++ w)))
unfolding mux_runs
runs_cons n ns s a b = refl

runs_nil : (s a b : Value) → mux_runs [] s a b ≡ done []
unfolding mux_runs
runs_nil s a b = refl

-- its parts of the nets in order
module _ (n : ℕ) (ns : List ℕ) (s a : Value) (k : ℕ) (h : n ≤ length a) where
  short : length (take n a) ≡ n
  short = omega (arith, length-take n a, h)

  rest : length (drop n a) ≡ length a - n
  rest = length-drop n a

  low : take n (up_from k (length a)) ≡ up_from k (length (take n a))
  low = up_take n k (length a) h ∙ ap (up_from k) (sym short)

  high : drop n (up_from k (length a)) ≡ up_from (k + n) (length (drop n a))
  high = up_drop n k (length a) h ∙ ap (up_from (k + n)) (sym rest)

  abbrev first : Trace Value
  first = add_dedup_mux_of (Pos (get_or s 0 X)) (take n a) (up_from k (length (take n a)))

  abbrev others : Trace Value
  others = mux_runs ns (drop n s) (drop n a) (up_from (k + n) (length (drop n a)))

  cons_is : mux_runs (n ∷ ns) s a (up_from k (length a)) ≡ (first >>= λ v. (others >>= λ w. done (v ++ w)))
  cons_is =
      runs_cons n ns s a (up_from k (length a))
      ∙ (λ i. add_dedup_mux_of (Pos (get_or s 0 X)) (take n a) (low i) >>= λ v. (mux_runs ns (drop n s) (drop n a) (high i) >>= λ w. done (v ++ w)))

  cons_counted : (c : ℕ) → Counted others c (length (drop n a)) → Counted (mux_runs (n ∷ ns) s a (up_from k (length a))) (5 + 2 * n + c) (length a)
  cons_counted c d =
      subst (λ (t : Trace Value). Counted t (5 + 2 * n + c) (length a)) (sym cons_is)
      (counted_as _ _ _ _ _ (omega (arith, short)) (omega (arith, short, rest, h))
      (counted_bind first (λ v. (others >>= λ w. done (v ++ w))) _ _ c (length (drop n a)) (dedup_counted (get_or s 0 X) (take n a) k)
      (λ m. counted_same others (λ w. (first m).value ++ w) c (length (drop n a)) d) (λ v. chains_bind others _ (chains_mux_runs ns _ _ _) (λ w. chains_done _))))

  both_value : (m : ℕ) → ((first >>= λ v. (others >>= λ w. done (v ++ w))) m).value ≡ (first m).value ++ (others (first m).next).value
  unfolding ◌>>=◌ done
  both_value m = refl

  cons_value : (m : ℕ) → ((j : ℕ) → (others j).value ≡ up_from j (length (drop n a))) → (mux_runs (n ∷ ns) s a (up_from k (length a)) m).value ≡ up_from m (length a)
  cons_value m e =
      let next : (first m).next ≡ m + length (take n a) = (dedup_counted (get_or s 0 X) (take n a) k).nets m in
      let all : length (take n a) + length (drop n a) ≡ length a = omega (arith, short, rest, h) in
      ap (λ (t : Trace Value). (t m).value) cons_is ∙ both_value m
      ∙ (λ i. dedup_value (get_or s 0 X) (take n a) k m i ++ (e (first m).next ∙ ap (λ (j : ℕ). up_from j (length (drop n a))) next) i)
      ∙ up_append m (length (take n a)) (length (drop n a)) ∙ ap (up_from m) all

-- all runs
pub runs_counted : (ns : List ℕ) (s a : Value) (k : ℕ) → sum_by (λ (n : ℕ). n) ns ≡ length a → Counted (mux_runs ns s a (up_from k (length a))) (5 * length ns + 2 * length a) (length a)
runs_counted [] s a k e =
    subst (λ (t : Trace Value). Counted t (5 * 0 + 2 * length a) (length a)) (sym (runs_nil s a (up_from k (length a))))
    (counted_as (done []) 0 0 _ _ (omega (arith, e)) e (counted_done []))
runs_counted (n ∷ ns) s a k e =
    let h : n ≤ length a = omega (arith, e) in
    counted_as _ _ _ _ _ (omega (arith, length-drop n a, h)) refl
    (cons_counted n ns s a k h _ (runs_counted ns (drop n s) (drop n a) (k + n) (omega (arith, e, length-drop n a))))

none_value : (s a b : Value) (m : ℕ) → (mux_runs [] s a b m).value ≡ []
unfolding mux_runs done
none_value s a b m = refl

pub runs_value : (ns : List ℕ) (s a : Value) (k : ℕ) → sum_by (λ (n : ℕ). n) ns ≡ length a → (m : ℕ) → (mux_runs ns s a (up_from k (length a)) m).value ≡ up_from m (length a)
runs_value [] s a k e m = none_value s a (up_from k (length a)) m ∙ ap (up_from m) e
runs_value (n ∷ ns) s a k e m =
    let h : n ≤ length a = omega (arith, e) in
    cons_value n ns s a k h m (runs_value ns (drop n s) (drop n a) (k + n) (omega (arith, e, length-drop n a)))

-- ---- a bitwise mux over w fresh nets
module _ (w : ℕ) (mask bits : Value) (k : ℕ) (em : length mask ≡ w) (eb : length bits ≡ w) where
  over_is : add_bitwise_mux_of mask bits (up_from k w) ≡ mux_runs (runs mask) mask bits (up_from k (length bits))
  unfolding add_bitwise_mux_of
  over_is = ap (λ (j : ℕ). mux_runs (runs mask) mask bits (up_from k j)) (sym eb)

  sum_is : sum_by (λ (n : ℕ). n) (runs mask) ≡ length bits
  sum_is = runs_sum mask ∙ em ∙ sym eb

  pub over_counted : Counted (add_bitwise_mux_of mask bits (up_from k w)) (5 * length (runs mask) + 2 * w) w
  over_counted =
      subst (λ (t : Trace Value). Counted t (5 * length (runs mask) + 2 * w) w) (sym over_is)
      (counted_as _ _ _ _ _ (ap (λ (j : ℕ). 5 * length (runs mask) + 2 * j) eb) eb (runs_counted (runs mask) mask bits k sum_is))

  pub over_value : (m : ℕ) → (add_bitwise_mux_of mask bits (up_from k w) m).value ≡ up_from m w
  over_value m = ap (λ (t : Trace Value). (t m).value) over_is ∙ runs_value (runs mask) mask bits k sum_is m ∙ ap (up_from m) eb
