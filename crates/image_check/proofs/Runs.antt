-- What `any` over a slice gives, and over its front.
use Prim.Native.Nat.{ℕ, zero, suc, ◌+◌, ◌≤◌, ◌<◌}
use mathlib.Core.Path.{◌≡◌, refl, sym, ap, ◌∙◌}
use mathlib.Core.Bool.{Bool, true, false, ◌||◌}
use mathlib.Core.List.{List, [], ◌∷◌}
use native.Mathlib.Omega.{arith}
use lib.ListN.{length, take, get_or}
use Rattle.std.specs.Bool.{MatchBool}
use Rattle.std.specs.List.{AllWithin, HoldsAt}
use Rattle.lists.specs.Lists.{any, up_from}
use Rattle.lists.proofs.All.{any_has}

module _ (f : ℕ → Bool) where
  none : (l : List ℕ) → AllWithin (λ x. f x ≡ false) l 0 (length l) → any f l ≡ false
  none [] h = refl
  none (a ∷ l) h = rw (h 0 a (omega arith) (omega arith)) (none l (λ k d m n. h (suc k) d (omega arith) (omega arith)))

  -- the answer of std's `any`, as its lemma `cases_from_any` has it
  pub any_ran : (r : Bool) (l : List ℕ) → MatchBool r ((k : ℕ) × (k < length l) × HoldsAt (λ x. f x ≡ true) l k) (AllWithin (λ x. f x ≡ false) l 0 (length l)) → r ≡ any f l
  any_ran true l h = sym (any_has f l h.0 0 h.1 (h.2 0))
  any_ran false l h = sym (none l h)

  pub any_take : (g : ℕ → Bool) (l : List ℕ) (b n : ℕ) → n ≤ length l → ((j : ℕ) → j < n → f (get_or l j 0) ≡ g (b + j)) → any f (take n l) ≡ any g (up_from b n)
  any_take g l b zero h e = refl
  any_take g [] b (suc n) h e = absurd (omega arith)
  any_take g (a ∷ l) b (suc n) h e =
      let head : f a ≡ g b = e 0 (omega arith) ∙ ap g (omega arith) in
      let tail : any f (take n l) ≡ any g (up_from (suc b) n) = any_take g l (suc b) n (omega arith) (λ j m. e (suc j) (omega arith) ∙ ap g (omega arith)) in
      λ i. head i || tail i
