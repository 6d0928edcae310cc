-- Laws of pairs of old and new wide logs.
use mathlib.Core.Path.{◌≡◌, refl, sym, ap, ◌∙◌}
use Prim.Native.Nat.{ℕ}
use mathlib.Core.Bool.{Bool, true, not, ◌||◌}
use mathlib.Core.Logic.{◌≢◌}
use borrow.Author.Tests.{eq-eqb, ne_eqb}
use Rattle.rules.specs.Cell.{Plan}
use Rattle.rules.specs.Conditions.{bad_wide}
use Rattle.swizzle_plan.specs.Numbers.{wides_bad}
use mathlib.Core.List.{List, [], ◌∷◌, map}
use lib.ListN.{length, length-map}
use Rattle.lists.specs.Lists.{any, pairs}
use Rattle.lists.proofs.Choice.{or_left}

-- the first of each pair may be a number of something
module _ {A : Type 0} (h : A → ℕ) where
  pub any_first : (f : ℕ → ℕ → Bool) (l : List A) (b : List ℕ) → any (λ (x : ℕ × ℕ). f x.0 x.1) (pairs (map h l) b) ≡ any (λ (x : A × ℕ). f (h x.0) x.1) (pairs l b)
  any_first f [] b = refl
  any_first f (x ∷ l) [] = refl
  any_first f (x ∷ l) (y ∷ b) = ap (λ (t : Bool). f (h x) y || t) (any_first f l b)

  pub map_first : (g : ℕ → ℕ → ℕ) (l : List A) (b : List ℕ) → map (λ (x : ℕ × ℕ). g x.0 x.1) (pairs (map h l) b) ≡ map (λ (x : A × ℕ). g (h x.0) x.1) (pairs l b)
  map_first g [] b = refl
  map_first g (x ∷ l) [] = refl
  map_first g (x ∷ l) (y ∷ b) = ap (λ (t : List ℕ). g (h x) y ∷ t) (map_first g l b)

-- ---- new wide logs over the old ones of ports
module _ (p : Plan) (f : ℕ → ℕ) (ports news : List ℕ) where
  long : length (map f ports) ≡ length ports
  long = length-map ports f

  pub wides_long : length news ≢ length ports → true ≡ wides_bad p (map f ports) news
  wides_long h = sym (or_left _ (ap not (ne_eqb (length news) (length (map f ports)) (λ e. h (e ∙ long)))))

  pub wides_equal : length news ≡ length ports → (r : Bool) → r ≡ any (λ (x : ℕ × ℕ). bad_wide p x.0 x.1) (pairs (map f ports) news) → r ≡ wides_bad p (map f ports) news
  wides_equal h r q = q ∙ sym (ap (λ (t : Bool). not t || any (λ (x : ℕ × ℕ). bad_wide p x.0 x.1) (pairs (map f ports) news)) (eq-eqb (length news) (length (map f ports)) (h ∙ sym long)))
