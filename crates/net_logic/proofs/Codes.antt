-- A turn of the pass that finds the largest code.
use mathlib.Core.Path.{◌≡◌, refl, sym, ap, ◌∙◌}
use Prim.Native.Nat.{ℕ, ◌+◌, ◌<◌, max}
use native.Mathlib.Numerals.{add-one}
use native.Mathlib.Omega.{arith}
use mathlib.Core.Bool.{Bool, true, false, ◌&&◌}
use mathlib.Core.List.{List}
use lib.Dec.{leb}
use lib.ListN.{length, drop, get_or}
use lib.Seq.{drop-cons, drop-length}
use borrow.Author.Tests.{lt-leb, le-leb, leb-true, leb-false}
use Rattle.lists.specs.Lists.{all}
use Rattle.rules.specs.Limits.{trit_x}
use Rattle.rules.specs.Logic.{are_trits}

both_within : (m x t : ℕ) → (leb m t && leb x t) ≡ leb (max m x) t
both_within m x t = on (leb m t) refl (leb x t) refl
  where
    on : (a : Bool) → leb m t ≡ a → (b : Bool) → leb x t ≡ b → (a && b) ≡ leb (max m x) t
    on true e true f = sym (le-leb (max m x) t (omega (arith, leb-true m t e, leb-true x t f)))
    on true e false f = sym (lt-leb (max m x) t (omega (arith, leb-false x t f)))
    on false e b f = sym (lt-leb (max m x) t (omega (arith, leb-false m t e)))

and_assoc : (a b c : Bool) → (a && (b && c)) ≡ ((a && b) && c)
and_assoc true b c = refl
and_assoc false b c = refl

and_last : (a : Bool) → (a && true) ≡ a
and_last true = refl
and_last false = refl

abbrev pub is_trit_of : ℕ → Bool
is_trit_of t = leb t trit_x

-- what the largest of the codes before i says, and those from i on
module _ (l : List ℕ) where
  abbrev pub Most : ℕ → ℕ → Type 0
  Most m i = all is_trit_of l ≡ (is_trit_of m && all is_trit_of (drop i l))

  pub most_turn : (m i : ℕ) → i < length l → Most m i → Most (max m (get_or l i 0)) (i + 1)
  most_turn m i h e =
      e ∙ ap (λ (t : Bool). is_trit_of m && t) (rw (add-one, drop-cons l i 0 h)) ∙ and_assoc (is_trit_of m) (is_trit_of (get_or l i 0)) (all is_trit_of (drop (i + 1) l))
      ∙ ap (λ (t : Bool). t && all is_trit_of (drop (i + 1) l)) (both_within m (get_or l i 0) trit_x)

  pub most_end : (m i : ℕ) → i ≡ length l → Most m i → is_trit_of m ≡ are_trits l
  unfolding are_trits
  most_end m i h e = sym (e ∙ ap (λ (k : List ℕ). is_trit_of m && all is_trit_of k) (ap (λ (n : ℕ). drop n l) h ∙ drop-length l) ∙ and_last (is_trit_of m))
