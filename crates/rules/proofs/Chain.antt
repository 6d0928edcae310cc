-- Traces whose entries are in sequence: closed under one trace after another, with each request; and a limit of the nets that a trace gives.
use mathlib.Core.Path.{◌≡◌, refl, sym, ◌∙◌}
use Prim.Native.Nat.{ℕ, ◌+◌}
use native.Mathlib.Nat.{add-zero, add_assoc}
use mathlib.Core.Bool.{Bool, true, false, ◌||◌}
use mathlib.Core.List.{List, [], ◌∷◌, ◌++◌}
use Rattle.lists.specs.Choice.{when◌then◌else◌}
use Rattle.lists.specs.Lists.{sum_by}
use Rattle.rules.specs.Value.{Value, Control, Pos, Neg, is_always}
use Rattle.rules.specs.Cell.{Controls, FlipFlop}
use Rattle.rules.specs.Log.{Entry, Trace, ◌>>=◌, ◌>>◌, done, request, add_void_of, add_not_of, add_and_of, add_or_of, mux_by, add_mux_of, add_eq_of, add_shl_of, add_ushr_of, add_dff_of, replace_value_of, into_pos_of, remap_reset_over_enable_of}
use Rattle.rules.specs.Merge.{add_dedup_mux_of, add_dedup_dff_of, mux_runs, add_bitwise_mux_of}
use Rattle.rules.specs.Beside.Chain.{result_width, StartsAt, Chained, Chains}

pub chained_append : (n m k : ℕ) (es fs : List Entry) → Chained n es m → Chained m fs k → Chained n (es ++ fs) k
unfolding Chained
chained_append n m k [] fs c d = rw c d
chained_append n m k (e ∷ es) fs c d = (c.0, chained_append (n + result_width e) m k es fs c.1 d)

-- the next free net after: all results have been counted
pub chained_next : (n m : ℕ) (es : List Entry) → Chained n es m → m ≡ n + sum_by result_width es
unfolding Chained
chained_next n m [] c = sym (add-zero n ∙ c)
chained_next n m (e ∷ es) c = chained_next (n + result_width e) m es c.1 ∙ add_assoc n (result_width e) (sum_by result_width es)

module _ {A : Type 0} where
  pub chains_done : (a : A) → Chains (done a)
  unfolding Chains Chained done
  chains_done a n = refl

  pub chains_if : (b : Bool) (t u : Trace A) → Chains t → Chains u → Chains (when b then t else u)
  chains_if true t u c d = c
  chains_if false t u c d = d

module _ {A B : Type 0} where
  pub chains_bind : (t : Trace A) (f : A → Trace B) → Chains t → ((a : A) → Chains (f a)) → Chains (t >>= f)
  unfolding Chains ◌>>=◌
  chains_bind t f c d n =
      let a = t n in
      chained_append n a.next (f a.value a.next).next a.entries (f a.value a.next).entries (c n) (d a.value a.next)

  pub chains_then : (t : Trace A) (u : Trace B) → Chains t → Chains u → Chains (t >> u)
  unfolding ◌>>◌
  chains_then t u c d = chains_bind t (λ a. u) c (λ a. d)

-- ---- the requests
pub chains_void : (w : ℕ) → Chains (add_void_of w)
unfolding Chains Chained StartsAt result_width add_void_of request
chains_void w n = (refl, refl)

pub chains_not : (a : Value) → Chains (add_not_of a)
unfolding Chains Chained StartsAt result_width add_not_of request
chains_not a n = (refl, refl)

pub chains_and : (a b : Value) → Chains (add_and_of a b)
unfolding Chains Chained StartsAt result_width add_and_of request
chains_and a b n = (refl, refl)

pub chains_or : (a b : Value) → Chains (add_or_of a b)
unfolding Chains Chained StartsAt result_width add_or_of request
chains_or a b n = (refl, refl)

pub chains_mux_by : (s : ℕ) (a b : Value) → Chains (mux_by s a b)
unfolding Chains Chained StartsAt result_width mux_by request
chains_mux_by s a b n = (refl, refl)

pub chains_mux : (c : Control) (a b : Value) → Chains (add_mux_of c a b)
unfolding add_mux_of
chains_mux (Pos s) a b = chains_mux_by s a b
chains_mux (Neg s) a b = chains_mux_by s b a

pub chains_eq : (a b : Value) → Chains (add_eq_of a b)
unfolding Chains Chained StartsAt result_width add_eq_of
chains_eq a b n = (refl, refl)

pub chains_shl : (stride : ℕ) (s a : Value) → Chains (add_shl_of stride s a)
unfolding Chains Chained StartsAt result_width add_shl_of request
chains_shl stride s a n = (refl, refl)

pub chains_ushr : (stride : ℕ) (s a : Value) → Chains (add_ushr_of stride s a)
unfolding Chains Chained StartsAt result_width add_ushr_of request
chains_ushr stride s a n = (refl, refl)

pub chains_dff : (f : FlipFlop) → Chains (add_dff_of f)
unfolding Chains Chained StartsAt result_width add_dff_of request
chains_dff f n = (refl, refl)

pub chains_replace : (from to : Value) → Chains (replace_value_of from to)
unfolding Chains Chained StartsAt result_width replace_value_of request
chains_replace from to n = (tt, refl)

-- ---- what is made of them
pub chains_into_pos : (c : Control) → Chains (into_pos_of c)
unfolding into_pos_of
chains_into_pos (Pos n) = chains_done (n ∷ [])
chains_into_pos (Neg n) = chains_not (n ∷ [])

pub chains_remap : (c : Controls) → Chains (remap_reset_over_enable_of c)
unfolding remap_reset_over_enable_of
chains_remap c =
    chains_if c.reset_over_enable _ _ (chains_done c)
    (chains_if (is_always 0 c.reset || is_always 1 c.enable) _ _ (chains_done _)
    (chains_bind (into_pos_of c.reset) _ (chains_into_pos c.reset) (λ r.
    chains_bind (into_pos_of c.enable) _ (chains_into_pos c.enable) (λ e.
    chains_bind (add_and_of r e) _ (chains_and r e) (λ n. chains_done _)))))

pub chains_dedup_mux : (c : Control) (a b : Value) → Chains (add_dedup_mux_of c a b)
unfolding add_dedup_mux_of
chains_dedup_mux c a b = chains_bind _ _ (chains_mux c _ _) (λ v. chains_done _)

pub chains_dedup_dff : (f : FlipFlop) → Chains (add_dedup_dff_of f)
unfolding add_dedup_dff_of
chains_dedup_dff f = chains_bind _ _ (chains_dff _) (λ v. chains_done _)

pub chains_mux_runs : (ns : List ℕ) (s a b : Value) → Chains (mux_runs ns s a b)
unfolding mux_runs
chains_mux_runs [] s a b = chains_done []
chains_mux_runs (n ∷ ns) s a b =
    chains_bind _ _ (chains_dedup_mux _ _ _) (λ v. chains_bind _ _ (chains_mux_runs ns _ _ _) (λ w. chains_done (v ++ w)))

pub chains_bitwise_mux : (s a b : Value) → Chains (add_bitwise_mux_of s a b)
unfolding add_bitwise_mux_of
chains_bitwise_mux s a b = chains_mux_runs _ s a b
