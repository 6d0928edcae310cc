-- A merging mux for each run: what is left from i on gives the whole.
use mathlib.Core.Path.{◌≡◌, refl, sym, ap, ◌∙◌}
use Prim.Native.Nat.{ℕ, suc, zero, ◌+◌, ◌-◌, ◌<◌, ◌≤◌, min}
use native.Mathlib.Omega.{arith}
use mathlib.Core.Bool.{false}
use mathlib.Core.List.{List, [], ◌∷◌, ◌++◌}
use lib.ListN.{length, take, drop, get_or, length-append, drop_of_length-le}
use lib.Seq.{sets, length-take-le, drop-drop, drop-cons}
use Rattle.lists.proofs.Choice.{cases_le}
use Rattle.lists.specs.Lists.{part, pairs}
use Rattle.lists.specs.Distinct.{places}
use Rattle.lists.proofs.Store.{sets_append}
use Rattle.lists.proofs.Stores.{take_stored}
use Rattle.lists.proofs.Parts.{length_part}
use Rattle.lists.proofs.Pairs.{pairs_size}
use Rattle.lists.proofs.Distinct.{length_places}
use Rattle.rules.specs.Limits.{max_merge, X}
use Rattle.rules.specs.Value.{Value, Control, Pos}
use Rattle.rules.specs.Log.{Trace, ◌>>=◌, done}
use Rattle.rules.specs.Merge.{same2, add_dedup_mux_of, runs, mux_runs, add_bitwise_mux_of}
use Rattle.rules.proofs.Done.{done_value}
use Rattle.rules.proofs.Traces.{bind_value}
use Rattle.rules.proofs.Chain.{chains_dedup_mux}
use Rattle.log_entries.specs.Emission.{Lent, is_over, run}
use Rattle.log_entries.proofs.Emission.{run-done, run_then, run_same, run_next, run-held}
use Rattle.merge_mux.specs.Results.{results}
use Rattle.merge_mux.specs.Runs.{run_at, Bits, Within, bits_taken, bitwise_of}
use Rattle.merge_mux.proofs.Spread.{length_spread, results_are}
use Rattle.merge_mux.proofs.RunLaws.{runs_from_lem, run_within}

-- what is left from i on
unfoldable pub left : ℕ → Value → Value → Value → Trace Value
left i s a b = mux_runs (runs (drop i s)) (drop i s) (drop i a) (drop i b)

left_whole : (s a b : Value) → left 0 s a b ≡ add_bitwise_mux_of s a b
unfolding left add_bitwise_mux_of
left_whole s a b = refl

-- nothing is left
left_none : (i : ℕ) (s a b : Value) → length s ≤ i → left i s a b ≡ done []
unfolding left mux_runs runs
left_none i s a b h = ap (λ (l : List ℕ). mux_runs (runs l) l (drop i a) (drop i b)) (drop_of_length-le s h)

mux_runs_cons : (n : ℕ) (ns : List ℕ) (s a b : Value)
    → mux_runs (n ∷ ns) s a b ≡ (add_dedup_mux_of (Pos (get_or s 0 X)) (take n a) (take n b) >>= λ v. (mux_runs ns (drop n s) (drop n a) (drop n b) >>= λ w. done (v ++ w)))
unfolding mux_runs
mux_runs_cons n ns s a b = refl

head_at : (s : Value) (i : ℕ) → i < length s → get_or (drop i s) 0 X ≡ get_or s i 0
head_at s i h = ap (λ (l : List ℕ). get_or l 0 X) (drop-cons s i 0 h)

-- ---- one run of m bits from i on, of which the first select is x
module _ (s a b : Value) (i m : ℕ) (h : i < length s) (e : m ≡ run_at (drop i s)) where
  abbrev one : Trace Value
  one = add_dedup_mux_of (Pos (get_or s i 0)) (part i m a) (part i m b)

  left_more : left i s a b ≡ (one >>= λ v. (left (i + m) s a b >>= λ w. done (v ++ w)))
  unfolding left
  left_more =
      let q : runs (drop i s) ≡ m ∷ runs (drop (i + m) s) = runs_from_lem s i h ∙ ap (λ (n : ℕ). n ∷ runs (drop (i + n) s)) (sym e) in
      ap (λ (ns : List ℕ). mux_runs ns (drop i s) (drop i a) (drop i b)) q
      ∙ mux_runs_cons m (runs (drop (i + m) s)) (drop i s) (drop i a) (drop i b)
      ∙ rw (head_at s i h, drop-drop m i s, drop-drop m i a, drop-drop m i b)

  -- the value of what is left: the run's, and that of the rest
  left_value : (n : ℕ) → (left i s a b n).value ≡ (one n).value ++ (left (i + m) s a b (one n).next).value
  left_value n = ap (λ (t : Trace Value). (t n).value) left_more ∙ bound n
    where
      bound : (k : ℕ) → ((one >>= λ v. (left (i + m) s a b >>= λ w. done (v ++ w))) k).value ≡ (one k).value ++ (left (i + m) s a b (one k).next).value
      bound k = bind_value one (λ v. (left (i + m) s a b >>= λ w. done (v ++ w))) k ∙ bind_value (left (i + m) s a b) (λ w. done ((one k).value ++ w)) (one k).next ∙ done_value _ _

-- as many nets as the shorter value has
dedup_length : (c : Control) (a b : Value) (n : ℕ) → length (add_dedup_mux_of c a b n).value ≡ min (length a) (length b)
unfolding add_dedup_mux_of ◌>>=◌ done
dedup_length c a b n = length_spread (places same2 (pairs a b)) _ ∙ length_places same2 [] (pairs a b) ∙ pairs_size a b

-- ---- the loop
pub record Going (s a b nets₀ nets : List ℕ) (l₀ l : Lent) (i : ℕ) : Type 0 where
  pub within : i ≤ length s
  pub whole : run (left i s a b) l ≡ run (add_bitwise_mux_of s a b) l₀
  pub value : is_over (run (left i s a b) l).state ≡ false → sets nets i (left i s a b l.state.next).value ≡ sets nets₀ 0 (add_bitwise_mux_of s a b l₀.state.next).value

pub going_starts : (s a b nets : List ℕ) (l : Lent) → Going s a b nets nets l l 0
going_starts s a b nets l = record {
  within = omega arith;
  whole = ap (λ (t : Trace Value). run t l) (left_whole s a b);
  value = λ o. ap (λ (t : Trace Value). sets nets 0 (t l.state.next).value) (left_whole s a b);
}

module _ (s a b nets₀ nets nets' : List ℕ) (l₀ l l1 : Lent) (i m : ℕ) (g : Going s a b nets₀ nets l₀ l i)
    (h : i < length s) (e : m ≡ run_at (drop i s)) (in_s : i + m ≤ length s) (in_a : i + m ≤ length a) (in_b : i + m ≤ length b)
    (e1 : l1 ≡ run (one s a b i m h e) l) (en : nets' ≡ results (is_over l1.state) nets i (one s a b i m h e l.state.next).value) where
  abbrev t : Trace Value
  t = one s a b i m h e

  abbrev rest : Trace Value
  rest = left (i + m) s a b

  step : run rest l1 ≡ run (left i s a b) l
  step =
      sym (run_same rest (λ w. (t l.state.next).value ++ w) l1)
      ∙ run_then l l1 (run (rest >>= λ w. done ((t l.state.next).value ++ w)) l1) t (λ v. (rest >>= λ w. done (v ++ w))) (t l.state.next).value (chains_dedup_mux _ _ _) e1 (λ o. refl) refl
      ∙ ap (λ (u : Trace Value). run u l) (sym (left_more s a b i m h e))

  stored : is_over l1.state ≡ false → sets nets' (i + m) (rest l1.state.next).value ≡ sets nets i (left i s a b l.state.next).value
  stored o =
      let n = l.state.next in
      let v = (t n).value in
      let q : l1.state.next ≡ (t n).next =
      ap (λ (x : Lent). x.state.next) e1 ∙ run_next t l (chains_dedup_mux _ _ _) (sym (ap (λ (x : Lent). is_over x.state) e1) ∙ o) in
      let k : i + m ≡ i + length v = ap (λ (j : ℕ). i + j) (sym (dedup_length (Pos (get_or s i 0)) (part i m a) (part i m b) n ∙ sizes)) in
      let p : nets' ≡ sets nets i v = en ∙ results_are (is_over l1.state) nets i v o in
      ap (λ (x : List ℕ). sets x (i + m) (rest l1.state.next).value) p
      ∙ ap (λ (j : ℕ). sets (sets nets i v) (i + m) (rest j).value) q
      ∙ ap (λ (j : ℕ). sets (sets nets i v) j (rest (t n).next).value) k
      ∙ sets_append v (rest (t n).next).value nets i
      ∙ ap (sets nets i) (sym (left_value s a b i m h e n))
    where
      sizes : min (length (part i m a)) (length (part i m b)) ≡ m
      sizes = omega (arith, length_part i m a in_a, length_part i m b in_b)

  pub turn : Going s a b nets₀ nets' l₀ l1 (i + m)
  turn = record {
    within = in_s;
    whole = step ∙ g.whole;
    value = λ o. stored (run-held rest l1 o) ∙ g.value (sym (ap (λ (x : Lent). is_over x.state) step) ∙ o);
  }

module _ (s a b nets₀ nets : List ℕ) (l₀ l : Lent) (i : ℕ) (g : Going s a b nets₀ nets l₀ l i) (h : length s ≤ i) where
  nothing : run (left i s a b) l ≡ l
  nothing = ap (λ (t : Trace Value). run t l) (left_none i s a b h) ∙ run-done [] l

  pub going_ends : l ≡ run (add_bitwise_mux_of s a b) l₀
  going_ends = sym nothing ∙ g.whole

  pub nets_end : is_over l.state ≡ false → nets ≡ sets nets₀ 0 (add_bitwise_mux_of s a b l₀.state.next).value
  nets_end o =
      sym (ap (λ (t : Trace Value). sets nets i (t l.state.next).value) (left_none i s a b h) ∙ ap (sets nets i) (done_value [] l.state.next))
      ∙ g.value (ap (λ (x : Lent). is_over x.state) nothing ∙ o)

-- ---- as many nets as selects
module _ (s a b : Value) (ea : length a ≡ length s) (eb : length b ≡ length s) where
  ends_length : (i n : ℕ) → length s ≤ i → length (left i s a b n).value ≡ length s - i
  ends_length i n h = ap (λ (t : Trace Value). length (t n).value) (left_none i s a b h) ∙ ap length (done_value [] n) ∙ omega arith

  one_length : (i : ℕ) (h : i < length s) (n : ℕ) → length (one s a b i (run_at (drop i s)) h refl n).value ≡ run_at (drop i s)
  one_length i h n =
      let m = run_at (drop i s) in
      let w = run_within s i h in
      let p = length_part i m a (omega arith) in
      let q = length_part i m b (omega arith) in
      dedup_length (Pos (get_or s i 0)) (part i m a) (part i m b) n ∙ omega arith

  left_length : (fuel i n : ℕ) → length s ≤ i + fuel → i ≤ length s → length (left i s a b n).value ≡ length s - i
  left_length zero i n f g = ends_length i n (omega arith)
  left_length (suc k) i n f g =
      cases_le (length s) i (ends_length i n) (λ h.
      let m = run_at (drop i s) in
      let w = run_within s i h in
      let v = (one s a b i m h refl n).value in
      let r = (left (i + m) s a b (one s a b i m h refl n).next).value in
      ap length (left_value s a b i m h refl n) ∙ length-append v r
      ∙ (omega (arith, one_length i h n, left_length k (i + m) (one s a b i m h refl n).next (omega arith) (omega arith))))

  pub bitwise_length : (n : ℕ) → length (add_bitwise_mux_of s a b n).value ≡ length s
  bitwise_length n = ap (λ (t : Trace Value). length (t n).value) (sym (left_whole s a b)) ∙ left_length (length s) 0 n (omega arith) (omega arith) ∙ omega arith

-- ---- values cut to the bits that they all have
module _ (s a b : Value) (n : ℕ) (w : Within s a b n) where
  pub cut_bits : Bits (take n s) (take n a) (take n b)
  cut_bits =
      let x = length-take-le n s w.in_s in
      let y = length-take-le n a w.in_a in
      let z = length-take-le n b w.in_b in
      record { first = y ∙ sym x; second = z ∙ sym x; few = rw x w.few }

  -- what the loop stored in spare room is the value
  pub cut_value : (nets nets' : List ℕ) (k : ℕ) → max_merge ≤ length nets → nets' ≡ sets nets 0 (add_bitwise_mux_of (take n s) (take n a) (take n b) k).value
      → take n nets' ≡ (add_bitwise_mux_of (take n s) (take n a) (take n b) k).value
  cut_value nets nets' k h e =
      take_stored nets nets' _ n e
      (sym (bitwise_length (take n s) (take n a) (take n b) cut_bits.first cut_bits.second k ∙ length-take-le n s w.in_s))
      (omega (arith, w.few))

  pub cut_is : n ≡ bits_taken s a b → add_bitwise_mux_of (take n s) (take n a) (take n b) ≡ bitwise_of s a b
  unfolding bitwise_of
  cut_is e = ap (λ (m : ℕ). add_bitwise_mux_of (take m s) (take m a) (take m b)) e

pub within_bits : (s a b : Value) (x y n : ℕ) → x ≡ min max_merge (length s) → y ≡ min (length a) (length b) → n ≡ min x y → (n ≡ bits_taken s a b) × Within s a b n
unfolding bits_taken
within_bits s a b x y n e f g = (g ∙ rw (e, f), record { in_s = omega arith; in_a = omega arith; in_b = omega arith; few = omega arith })
