-- into_pos and remap_reset_over_enable: their numbers, and their traces as calls of code see them.
use mathlib.Core.Path.{◌≡◌, refl, sym, ap, ◌∙◌}
use Prim.Native.Nat.{ℕ, ◌+◌, ◌*◌, ◌<◌, ◌≤◌}
use native.Mathlib.Omega.{arith}
use mathlib.Core.Bool.{true, false, ◌||◌}
use mathlib.Core.List.{[], ◌∷◌}
use lib.ListN.{get_or}
use Rattle.lists.proofs.Choice.{if_true, if_false}
use Rattle.rules.specs.Limits.{max_nets, X}
use Rattle.rules.specs.Value.{Control, Pos, Neg, is_always}
use Rattle.rules.specs.Cell.{Controls}
use Rattle.rules.specs.Log.{Trace, ◌>>=◌, done, request, into_pos_of, add_not_of, add_and_of, with_reset, remap_reset_over_enable_of, LogState, start_net}
use Rattle.rules.proofs.Chain.{chains_into_pos}
use Rattle.rules.proofs.Counted.{Counted, counted_done, counted_not, most_remap, start_le}
use Rattle.log_entries.specs.Emission.{Lent, is_over, run}
use Rattle.log_entries.proofs.Emission.{run-done, run_then, run_same, run_next, run-held}
use Rattle.log_requests.specs.Remap.{nots_of, gated_reset}

-- ---- into_pos
pub counted_into_pos : (c : Control) → Counted (into_pos_of c) (5 * nots_of c) (nots_of c)
unfolding into_pos_of nots_of
counted_into_pos (Pos n) = counted_done (n ∷ [])
counted_into_pos (Neg n) = counted_not (n ∷ [])

pub pos_run : (n : ℕ) (l : Lent) → l ≡ run (into_pos_of (Pos n)) l
unfolding into_pos_of
pos_run n l = sym (run-done (n ∷ []) l)

pub pos_value : (n m : ℕ) → n ∷ [] ≡ (into_pos_of (Pos n) m).value
unfolding into_pos_of done
pos_value n m = refl

pub neg_run : (n : ℕ) (x l : Lent) → x ≡ run (add_not_of (n ∷ [])) l → x ≡ run (into_pos_of (Neg n)) l
unfolding into_pos_of
neg_run n x l e = e

pub neg_value : (n m : ℕ) → m ∷ [] ≡ (into_pos_of (Neg n) m).value
unfolding into_pos_of add_not_of request
neg_value n m = refl

-- ---- the gated reset
module _ (c : Controls) (l l1 l2 l3 : Lent) (x y : ℕ)
    (e1 : l1 ≡ run (into_pos_of c.reset) l) (f1 : x ∷ [] ≡ (into_pos_of c.reset l.state.next).value)
    (e2 : l2 ≡ run (into_pos_of c.enable) l1) (f2 : y ∷ [] ≡ (into_pos_of c.enable l1.state.next).value)
    (e3 : l3 ≡ run (add_and_of (x ∷ []) (y ∷ [])) l2) where
  pub gated_run : l3 ≡ run (gated_reset c) l
  unfolding gated_reset
  gated_run =
      run_then l l1 l3 (into_pos_of c.reset) _ (x ∷ []) (chains_into_pos c.reset) e1 (λ o. f1)
      (run_then l1 l2 l3 (into_pos_of c.enable) _ (y ∷ []) (chains_into_pos c.enable) e2 (λ o. f2)
      (e3 ∙ sym (run_same (add_and_of (x ∷ []) (y ∷ [])) (λ n. with_reset c (Pos (get_or n 0 X))) l2)))

  held_2 : is_over l3.state ≡ false → is_over l2.state ≡ false
  held_2 o = run-held (add_and_of (x ∷ []) (y ∷ [])) l2 (sym (ap (λ (z : Lent). is_over z.state) e3) ∙ o)

  held_1 : is_over l3.state ≡ false → is_over l1.state ≡ false
  held_1 o = run-held (into_pos_of c.enable) l1 (sym (ap (λ (z : Lent). is_over z.state) e2) ∙ held_2 o)

  next_1 : is_over l3.state ≡ false → l1.state.next ≡ (into_pos_of c.reset l.state.next).next
  next_1 o = ap (λ (z : Lent). z.state.next) e1 ∙ run_next (into_pos_of c.reset) l (chains_into_pos c.reset) (sym (ap (λ (z : Lent). is_over z.state) e1) ∙ held_1 o)

  next_2 : is_over l3.state ≡ false → l2.state.next ≡ (into_pos_of c.enable l1.state.next).next
  next_2 o = ap (λ (z : Lent). z.state.next) e2 ∙ run_next (into_pos_of c.enable) l1 (chains_into_pos c.enable) (sym (ap (λ (z : Lent). is_over z.state) e2) ∙ held_2 o)

  pub gated_value : is_over l3.state ≡ false → with_reset c (Pos l2.state.next) ≡ (gated_reset c l.state.next).value
  unfolding gated_reset ◌>>=◌ add_and_of request done
  gated_value o =
      rw (next_2 o, next_1 o, ← f1)

-- ---- the whole
module _ (c : Controls) where
  -- already set: nothing; a constant that settles it: only the flag; else the gated reset
  remap_set_is : c.reset_over_enable ≡ true → remap_reset_over_enable_of c ≡ done c
  unfolding remap_reset_over_enable_of
  remap_set_is e = if_true c.reset_over_enable _ _ e

  remap_flag_is : c.reset_over_enable ≡ false → (is_always 0 c.reset || is_always 1 c.enable) ≡ true → remap_reset_over_enable_of c ≡ done (with_reset c c.reset)
  unfolding remap_reset_over_enable_of
  remap_flag_is e f = if_false c.reset_over_enable _ _ e ∙ if_true (is_always 0 c.reset || is_always 1 c.enable) _ _ f

  pub remap_gated : c.reset_over_enable ≡ false → (is_always 0 c.reset || is_always 1 c.enable) ≡ false → remap_reset_over_enable_of c ≡ gated_reset c
  unfolding remap_reset_over_enable_of gated_reset
  remap_gated e f = if_false c.reset_over_enable _ _ e ∙ if_false (is_always 0 c.reset || is_always 1 c.enable) _ _ f

  nothing : (t : Trace Controls) (d : Controls) (l : Lent) → t ≡ done d → (l ≡ run t l) × (d ≡ (t l.state.next).value)
  unfolding done
  nothing t d l e = (sym (run-done d l) ∙ ap (λ (u : Trace Controls). run u l) (sym e), ap (λ (u : Trace Controls). (u l.state.next).value) (sym e))

  pub remap_set : (l : Lent) → c.reset_over_enable ≡ true → (l ≡ run (remap_reset_over_enable_of c) l) × (c ≡ (remap_reset_over_enable_of c l.state.next).value)
  remap_set l e = nothing (remap_reset_over_enable_of c) c l (remap_set_is e)

  pub remap_flag : (l : Lent) → c.reset_over_enable ≡ false → (is_always 0 c.reset || is_always 1 c.enable) ≡ true
      → (l ≡ run (remap_reset_over_enable_of c) l) × (with_reset c c.reset ≡ (remap_reset_over_enable_of c l.state.next).value)
  remap_flag l e f = nothing (remap_reset_over_enable_of c) (with_reset c c.reset) l (remap_flag_is e f)

-- too few nets to reach X
pub remap_below : (c : Controls) (s : LogState) → (remap_reset_over_enable_of c (start_net s)).next < X
remap_below c s = below (start_net s) (start_le s) (most_remap c (start_net s))
  where
    below : (n : ℕ) {m : ℕ} → n ≤ max_nets → m ≤ n + 3 → m < X
    below n h g = omega arith
