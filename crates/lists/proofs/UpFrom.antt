-- Laws of `up_from`, the numbers from one on.
use mathlib.Core.Path.{◌≡◌, refl, sym, ap, ◌∙◌}
use Prim.Native.Nat.{ℕ, zero, suc, ◌+◌, ◌-◌, ◌<◌, ◌≤◌}
use native.Mathlib.Numerals.{add-one}
use native.Mathlib.Nat.{zero-add, add-zero, suc-add, add-suc}
use native.Mathlib.Omega.{arith}
use mathlib.Core.Bool.{Bool, true, false, ◌||◌}
use mathlib.Core.List.{[], ◌∷◌, map}
use lib.ListN.{length, get_or}
use Rattle.lists.specs.Lists.{any, up_from}
use Rattle.lists.proofs.Choice.{or_false}

pub length_up : (a n : ℕ) → length (up_from a n) ≡ n
length_up a zero = refl
length_up a (suc n) = ap suc (length_up (suc a) n)

module _ {ℓ} {A : Type ℓ} (f : ℕ → A) where
  pub get_d_up : (a n i : ℕ) (d : A) → i < n → get_or (map f (up_from a n)) i d ≡ f (a + i)
  get_d_up a zero i d h = absurd (omega arith)
  get_d_up a (suc n) zero d h = ap f (sym (add-zero a))
  get_d_up a (suc n) (suc i) d h = get_d_up (suc a) n i d (omega arith) ∙ ap f (suc-add a i ∙ sym (add-suc a i))

module _ (f : ℕ → Bool) where
  -- a test of some of n + m numbers is one of the first n, or of the others
  pub any_up : (a n m : ℕ) → any f (up_from a (n + m)) ≡ (any f (up_from a n) || any f (up_from (a + n) m))
  any_up a zero m = (λ k. any f (up_from (sym (add-zero a) k) (zero-add m k)))
  any_up a (suc n) m =
      ap (λ (k : ℕ). any f (up_from a k)) (suc-add n m) ∙ ap (λ (t : Bool). f a || t) (any_up (suc a) n m) ∙ assoc (f a) _ _
      ∙ ap (λ (k : ℕ). any f (up_from a (suc n)) || any f (up_from k m)) (suc-add a n ∙ sym (add-suc a n))
    where
      assoc : (a b c : Bool) → (a || (b || c)) ≡ ((a || b) || c)
      assoc true b c = refl
      assoc false b c = refl

  -- a test of none of them
  pub any_none : (a n : ℕ) → any f (up_from a n) ≡ false → (i : ℕ) → i < n → f (a + i) ≡ false
  any_none a zero e i h = absurd (omega arith)
  any_none a (suc n) e zero h = ap f (add-zero a) ∙ (or_false (f a) _ e).0
  any_none a (suc n) e (suc i) h = ap f (add-suc a i ∙ sym (suc-add a i)) ∙ any_none (suc a) n (or_false (f a) _ e).1 i (omega arith)

-- two tests that agree on the numbers, each from its own start
pub any_same : (f g : ℕ → Bool) (a b n : ℕ) → ((j : ℕ) → j < n → f (a + j) ≡ g (b + j)) → any f (up_from a n) ≡ any g (up_from b n)
any_same f g a b zero h = refl
any_same f g a b (suc n) h =
    let head : f a ≡ g b = ap f (sym (add-zero a)) ∙ h 0 (omega arith) ∙ ap g (add-zero b) in
    let tail : any f (up_from (suc a) n) ≡ any g (up_from (suc b) n) =
    any_same f g (suc a) (suc b) n (λ j l. ap f (suc-add a j ∙ sym (add-suc a j)) ∙ h (suc j) (omega arith) ∙ ap g (add-suc b j ∙ sym (suc-add b j))) in
    λ k. head k || tail k

-- a turn of a loop that counts up
pub count_step : (i n : ℕ) → i < n → up_from i (n - i) ≡ i ∷ up_from (i + 1) (n - (i + 1))
count_step i n h =
    let e : n - i ≡ suc (n - (i + 1)) = omega arith in
    ap (up_from i) e ∙ (rw add-one)

pub count_end : (i n : ℕ) → n ≤ i → up_from i (n - i) ≡ []
count_end i n h = let e : n - i ≡ 0 = omega arith in ap (up_from i) e

pub up_at : (a n i d : ℕ) → i < n → get_or (up_from a n) i d ≡ a + i
up_at a zero i d h = absurd (omega arith)
up_at a (suc n) zero d h = omega arith
up_at a (suc n) (suc i) d h = up_at (suc a) n i d (omega arith) ∙ omega arith

pub up_past : (first n i d : ℕ) → n ≤ i → get_or (up_from first n) i d ≡ d
up_past first zero i d h = refl
up_past first (suc n) zero d h = absurd (omega arith)
up_past first (suc n) (suc i) d h = up_past (suc first) n i d (omega arith)
