-- The first elements of a list changed one after the other, as the loops do it.
use mathlib.Core.Path.{◌≡◌, refl, sym, ap, ◌∙◌}
use Prim.Native.Nat.{ℕ, zero, suc, ◌+◌, ◌≤◌, min}
use native.Mathlib.Omega.{arith}
use native.Mathlib.Numerals.{add-one}
use mathlib.Core.Bool.{Bool}
use mathlib.Core.List.{List, [], ◌∷◌, ◌++◌}
use lib.ListN.{length, length-take, get_or, set, take, drop}
use Rattle.lists.proofs.Choice.{cases_le}
use Rattle.net_memory.specs.declared.MemoryReadPort.{MemoryReadPort}
use Rattle.port_settle.specs.Settled.{undefined_if, first_changed, with_relations, relations_by, settled_by}

module _ {A : Type 0} (f : ℕ → A → A) where
  next_from : (d : A) (l : List A) (s j t : ℕ) → t ≡ s + j → set (first_changed f s j l) j (f t (get_or (first_changed f s j l) j d)) ≡ first_changed f s (suc j) l
  next_from d [] s zero t e = refl
  next_from d [] s (suc j) t e = refl
  next_from d (x ∷ l) s zero t e = ap (λ (n : ℕ). f n x ∷ l) (let z : t ≡ s = omega arith in z)
  next_from d (x ∷ l) s (suc j) t e = ap (λ (r : List A). f s x ∷ r) (next_from d l (suc s) j t (omega arith))

  change_next : (d : A) (l : List A) (j : ℕ) → set (first_changed f 0 j l) j (f j (get_or (first_changed f 0 j l) j d)) ≡ first_changed f 0 (j + 1) l
  change_next d l j = next_from d l 0 j j (omega arith) ∙ ap (λ (n : ℕ). first_changed f 0 n l) (sym (add-one j))

  -- past the end nothing changes
  change_all : (l : List A) (s n k : ℕ) → length l ≤ n → length l ≤ k → first_changed f s n l ≡ first_changed f s k l
  change_all [] s zero zero h g = refl
  change_all [] s zero (suc k) h g = refl
  change_all [] s (suc n) zero h g = refl
  change_all [] s (suc n) (suc k) h g = refl
  change_all (x ∷ l) s zero k h g = absurd (omega arith)
  change_all (x ∷ l) s (suc n) zero h g = absurd (omega arith)
  change_all (x ∷ l) s (suc n) (suc k) h g = ap (λ (r : List A). f s x ∷ r) (change_all l (suc s) n k (omega arith) (omega arith))

  change_most : (l : List A) (n k : ℕ) → n ≡ min k (length l) → first_changed f 0 n l ≡ first_changed f 0 k l
  change_most l n k e =
      cases_le k (length l)
      (λ h. ap (λ (i : ℕ). first_changed f 0 i l) (let z : n ≡ k = omega arith in z))
      (λ h. change_all l 0 n k (omega arith) (omega arith))

  -- a turn of the loop, and its end
  pub change_turn : (d : A) (l items : List A) (j : ℕ) (r : A) → items ≡ first_changed f 0 j l → r ≡ f j (get_or items j d) → set items j r ≡ first_changed f 0 (j + 1) l
  change_turn d l items j r e q = ap (set items j) q ∙ (λ k. set (e k) j (f j (get_or (e k) j d))) ∙ change_next d l j

  front_from : (l : List A) (s n : ℕ) → first_changed f s n (take n l) ++ drop n l ≡ first_changed f s n l
  front_from l s zero = refl
  front_from [] s (suc n) = refl
  front_from (x ∷ l) s (suc n) = ap (λ (r : List A). f s x ∷ r) (front_from l (suc s) n)

  pub change_end : (l items : List A) (j n : ℕ) → items ≡ first_changed f 0 j (take n l) → n ≤ j → items ++ drop n l ≡ first_changed f 0 n l
  change_end l items j n e h =
      ap (λ (i : List A). i ++ drop n l) (e ∙ change_all (take n l) 0 j n (omega (arith, length-take n l)) (omega (arith, length-take n l))) ∙ front_from l 0 n

-- all relations that a port names
module _ (is : ℕ → Bool) where
  pub relations_all : (p : MemoryReadPort) (n : ℕ) → length p.relations ≡ 8 → n ≡ min p.relations_len 8 → relations_by is n p ≡ settled_by is p
  relations_all p n h e = ap (with_relations p) (change_most (λ i. undefined_if (is i)) p.relations n p.relations_len (let z : n ≡ min p.relations_len (length p.relations) = omega arith in z))
