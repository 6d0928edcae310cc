-- A turn of each loop.
use mathlib.Core.Path.{◌≡◌, refl, sym, ap, ◌∙◌}
use mathlib.Core.Bool.{Bool, true, false, not, ◌&&◌}
use Prim.Native.Nat.{ℕ, zero, suc, ◌+◌, ◌-◌, ◌<◌, ◌≤◌}
use native.Mathlib.Omega.{arith}
use native.Mathlib.Numerals.{add-one}
use mathlib.Core.List.{List, [], ◌∷◌, ◌++◌, map, append-nil}
use lib.ListN.{length, get_or, set, length-map, drop_of_length-le}
use lib.Seq.{sets, sets-eq}
use Rattle.lists.specs.Lists.{all, up_from}
use Rattle.lists.proofs.UpFrom.{count_step, count_end, length_up}
use Rattle.try_kit.specs.Paint.{pattern_of, pattern_from}

-- ---- a pattern
module _ {A : Type 0} (f : ℕ → A) where
  pub left : ℕ → ℕ → List A
  left n i = map f (up_from i (n - i))

  pub fill_all : (l : List A) → sets l 0 (left (length l) 0) ≡ pattern_of f (length l)
  unfolding left pattern_of
  fill_all l =
      let n = length l in
      let z : n - 0 ≡ n = omega arith in
      let w = map f (up_from 0 n) in
      let q : length w ≡ n = length-map (up_from 0 n) f ∙ length_up 0 n in
      ap (λ (k : ℕ). sets l 0 (map f (up_from 0 k))) z
      ∙ sets-eq w l 0 (omega arith)
      ∙ ap (λ (r : List A). w ++ r) (drop_of_length-le l {i = 0 + length w} (omega arith))
      ∙ append-nil w

  pub fill_turn : (l : List A) (n i : ℕ) (b : A) → i < n → b ≡ f i → sets (set l i b) (i + 1) (left n (i + 1)) ≡ sets l i (left n i)
  unfolding left
  fill_turn l n i b h e = rw (count_step i n h, e, add-one)

  pub fill_end : (l : List A) (n i : ℕ) → n ≤ i → sets l i (left n i) ≡ l
  unfolding left
  fill_end l n i h = rw (count_end i n h)

-- ---- comparing with a pattern
default_any : {A : Type 0} (l : List A) (i : ℕ) (d e : A) → i < length l → get_or l i d ≡ get_or l i e
default_any [] i d e h = absurd (omega arith)
default_any (x ∷ l) zero d e h = refl
default_any (x ∷ l) (suc i) d e h = default_any l i d e (omega arith)

from_not : (t : Bool) → not t ≡ true → t ≡ false
from_not true e = cc
from_not false e = refl

from_not_not : (t : Bool) → not t ≡ false → t ≡ true
from_not_not true e = refl
from_not_not false e = cc

module _ {A : Type 0} (eq : A → A → Bool) (f : ℕ → A) (room : List A) (i : ℕ) where
  pub painted_end : length room ≤ i → true ≡ pattern_from eq f room i
  unfolding pattern_from
  painted_end h = sym (ap (all (λ k. eq (get_or room k (f k)) (f k))) (count_end i (length room) h))

  module _ (x b : A) (h : i < length room) (e : x ≡ get_or room i x) (k : b ≡ f i) where
    painted_step : pattern_from eq f room i ≡ (eq x b && pattern_from eq f room (i + 1))
    unfolding pattern_from
    painted_step =
        let z : get_or room i (f i) ≡ x = default_any room i (f i) x h ∙ sym e in
        ap (all (λ k. eq (get_or room k (f k)) (f k))) (count_step i (length room) h)
        ∙ ap (λ (y : A). eq y (f i) && pattern_from eq f room (i + 1)) z ∙ ap (λ (y : A). eq x y && pattern_from eq f room (i + 1)) (sym k)

    pub painted_fail : not (eq x b) ≡ true → false ≡ pattern_from eq f room i
    painted_fail n = sym (painted_step ∙ ap (λ (t : Bool). t && pattern_from eq f room (i + 1)) (from_not (eq x b) n))

    pub painted_pass : not (eq x b) ≡ false → pattern_from eq f room (i + 1) ≡ pattern_from eq f room i
    painted_pass n = sym (painted_step ∙ ap (λ (t : Bool). t && pattern_from eq f room (i + 1)) (from_not_not (eq x b) n))
