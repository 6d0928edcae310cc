-- Laws of `all`, `any`, `least` and `least_by`: a turn of a loop over a list, and what is known of each element at the end.
use mathlib.Core.Path.{◌≡◌, refl, sym, ap, ◌∙◌}
use Prim.Native.Nat.{ℕ, zero, suc, ◌+◌, ◌<◌, min}
use native.Mathlib.Numerals.{add-one}
use native.Mathlib.Omega.{arith}
use mathlib.Core.Bool.{Bool, true, false, ◌&&◌, ◌||◌}
use mathlib.Core.List.{List, [], ◌∷◌}
use lib.Dec.{eqb}
use lib.ListN.{length, take, drop, get_or}
use lib.Seq.{drop-cons, drop-length}
use borrow.Author.Tests.{eqb-true, eqb-false, ne_eqb}
use Rattle.lists.specs.Choice.{least}
use Rattle.lists.specs.Lists.{all, any, least_by}
use Rattle.lists.proofs.Choice.{or_false, and_true}

least_cases {ℓ} : {P : Type ℓ} (a : ℕ) → (a ≡ 0 → P) → ((a ≡ 0 → ⊥) → P) → P
least_cases {P = P} a f g = on (eqb a 0) refl
  where
    on : (t : Bool) → eqb a 0 ≡ t → P
    on true e = f (eqb-true a 0 e)
    on false e = g (eqb-false a 0 e)

pub least_none : (a : ℕ) → least a 0 ≡ a
least_none a = least_cases a (λ e. rw e) (λ n. rw (ne_eqb a 0 n))

pub least_both : (a b : ℕ) → (a ≡ 0 → ⊥) → (b ≡ 0 → ⊥) → least a b ≡ min a b
least_both a b n k = rw (ne_eqb a 0 n, ne_eqb b 0 k)

pub least_assoc : (a b c : ℕ) → least (least a b) c ≡ least a (least b c)
least_assoc a b c =
    least_cases a (λ e. rw e)
    (λ n. least_cases b (λ e. rw e (ap (λ (x : ℕ). least x c) (least_none a)))
    (λ k. least_cases c (λ e. rw e (least_none (least a b) ∙ ap (least a) (sym (least_none b)))) (λ j.
    let x : least a b ≡ min a b = least_both a b n k in
    let y : least b c ≡ min b c = least_both b c k j in
    rw (x, y) (least_both (min a b) c (λ z. omega_absurd a b n k z) j ∙ assoc ∙ sym (least_both a (min b c) n (λ z. omega_absurd b c k j z))))))
  where
    pos : (x : ℕ) → (x ≡ 0 → ⊥) → 0 < x
    pos zero f = absurd (f refl)
    pos (suc x) f = omega arith

    omega_absurd : (x y : ℕ) → (x ≡ 0 → ⊥) → (y ≡ 0 → ⊥) → min x y ≡ 0 → ⊥
    omega_absurd x y f g z = omega (arith, pos x f, pos y g)

    assoc : min (min a b) c ≡ min a (min b c)
    assoc = omega arith

-- no number at all: neither part has one
pub least_both_none : (a b : ℕ) → least a b ≡ 0 → (a ≡ 0) × (b ≡ 0)
least_both_none a b e =
    least_cases a (λ z. (z, rw z at e))
    (λ n. least_cases b (λ z. (absurd (n (sym (least_none a) ∙ rw z at e)), z)) (λ k. absurd (lower (pos a n) (pos b k) (sym (least_both a b n k) ∙ e))))
  where
    pos : (x : ℕ) → (x ≡ 0 → ⊥) → 0 < x
    pos zero f = absurd (f refl)
    pos (suc x) f = omega arith

    lower : 0 < a → 0 < b → min a b ≡ 0 → ⊥
    lower x y z = omega arith

module _ {ℓ} {A : Type ℓ} (f : A → ℕ) where
  -- a turn of the loop
  pub least_turn : (l : List A) (i acc r : ℕ) (d : A) → i < length l → r ≡ least acc (f (get_or l i d))
      → least_by f l ≡ least acc (least_by f (drop i l)) → least_by f l ≡ least r (least_by f (drop (i + 1) l))
  least_turn l i acc r d h q e =
      e ∙ ap (λ (x : List A). least acc (least_by f x)) (drop-cons l i d h ∙ ap (λ (n : ℕ). get_or l i d ∷ drop n l) (sym (add-one i)))
      ∙ sym (least_assoc acc (f (get_or l i d)) (least_by f (drop (i + 1) l))) ∙ ap (λ (x : ℕ). least x (least_by f (drop (i + 1) l))) (sym q)

  pub least_end : (l : List A) (i acc : ℕ) → i ≡ length l → least_by f l ≡ least acc (least_by f (drop i l)) → acc ≡ least_by f l
  least_end l i acc h e = sym (e ∙ ap (λ (x : List A). least acc (least_by f x)) (ap (λ (n : ℕ). drop n l) h ∙ drop-length l) ∙ least_none acc)

  -- where the whole has no number, no element has one
  pub least_each : (l : List A) (i : ℕ) (d : A) → i < length l → least_by f l ≡ 0 → f (get_or l i d) ≡ 0
  least_each [] i d h e = absurd (omega arith)
  least_each (a ∷ l) zero d h e = (least_both_none (f a) (least_by f l) e).0
  least_each (a ∷ l) (suc i) d h e = least_each l i d (omega arith) (least_both_none (f a) (least_by f l) e).1

module _ {A : Type 0} (f : A → Bool) where
  -- a test that holds of no element holds of none in particular
  pub any_at : (l : List A) → any f l ≡ false → (j : ℕ) (d : A) → j < length l → f (get_or l j d) ≡ false
  any_at [] e j d h = absurd (omega arith)
  any_at (a ∷ l) e zero d h = (or_false (f a) (any f l) e).0
  any_at (a ∷ l) e (suc j) d h = any_at l (or_false (f a) (any f l) e).1 j d (omega arith)

module _ {A : Type 0} (f : A → Bool) where
  pub all_take : (n : ℕ) (l : List A) → all f l ≡ true → all f (take n l) ≡ true
  all_take zero l e = refl
  all_take (suc n) [] e = refl
  all_take (suc n) (a ∷ l) e = rw (and_true (f a) (all f l) e).0 (all_take n l (and_true (f a) (all f l) e).1)

  pub all_drop : (n : ℕ) (l : List A) → all f l ≡ true → all f (drop n l) ≡ true
  all_drop zero l e = e
  all_drop (suc n) [] e = refl
  all_drop (suc n) (a ∷ l) e = all_drop n l (and_true (f a) (all f l) e).1

module _ {A : Type 0} (f : A → Bool) where
  -- one element for which the test holds is enough
  pub any_has : (l : List A) (i : ℕ) (d : A) → i < length l → f (get_or l i d) ≡ true → any f l ≡ true
  any_has [] i d h e = absurd (omega arith)
  any_has (a ∷ l) zero d h e = ap (λ (t : Bool). t || any f l) e
  any_has (a ∷ l) (suc i) d h e = or_one (f a) (any_has l i d (omega arith) e)
    where
      or_one : (t : Bool) {u : Bool} → u ≡ true → (t || u) ≡ true
      or_one true q = refl
      or_one false q = q

module _ {A B : Type 0} (f : A → Bool) (g : B → Bool) (d : A) (e : B) where
  -- two tests that agree place by place
  pub all_alike : (l : List A) (m : List B) → length l ≡ length m → ((i : ℕ) → i < length l → f (get_or l i d) ≡ g (get_or m i e)) → all f l ≡ all g m
  all_alike [] [] h q = refl
  all_alike [] (b ∷ m) h q = absurd (omega arith)
  all_alike (a ∷ l) [] h q = absurd (omega arith)
  all_alike (a ∷ l) (b ∷ m) h q =
      let rest : all f l ≡ all g m = all_alike l m (omega arith) (λ i t. q (suc i) (omega arith)) in
      λ k. q 0 (omega arith) k && rest k
