-- Laws of `concat_map`: a turn of a loop that stores the lists, the views of what was stored, and its length.
use mathlib.Core.Path.{◌≡◌, refl, sym, ap, ◌∙◌}
use Prim.Native.Nat.{ℕ, ◌+◌, ◌<◌}
use native.Mathlib.Numerals.{add-one}
use mathlib.Core.List.{List, [], ◌∷◌, ◌++◌, map, append_assoc, append-nil}
use lib.ListN.{length, take, get_or, length-append}
use lib.Seq.{sets, take-suc, take_at, drop_at}
use Rattle.lists.specs.Lists.{sum_by, concat_map}
use Rattle.lists.specs.Views.{views}
use Rattle.lists.proofs.Store.{sets_at}

module _ {A B : Type 0} (f : A → List B) where
  concat_snoc : (l : List A) (a : A) → concat_map f (l ++ (a ∷ [])) ≡ concat_map f l ++ f a
  concat_snoc [] a = append-nil (f a)
  concat_snoc (b ∷ l) a = ap (λ (r : List B). f b ++ r) (concat_snoc l a) ∙ sym (append_assoc (f b) (concat_map f l) (f a))

  pub concat_more : (l : List A) (i : ℕ) (d : A) → i < length l → concat_map f (take (i + 1) l) ≡ concat_map f (take i l) ++ f (get_or l i d)
  concat_more l i d h = rw (add-one, take-suc l i d h) (concat_snoc (take i l) (get_or l i d))

  -- a turn of the loop that stores the lists
  pub concat_stored : (s : List B) (at n : ℕ) (l : List A) (i : ℕ) (d : A) → i < length l → n ≡ at + length (concat_map f (take i l))
      → sets (sets s at (concat_map f (take i l))) n (f (get_or l i d)) ≡ sets s at (concat_map f (take (i + 1) l))
  concat_stored s at n l i d h e = rw (concat_more l i d h) (sets_at s at n (concat_map f (take i l)) (f (get_or l i d)) e)

-- what is read off the lists of each element
module _ {K P A B R : Type 0} (s t : P → ℕ) (read : P → List A → List B → R) (p : K → P) (x : K → List A) (y : K → List B)
    (ex : (k : K) → length (x k) ≡ s (p k)) (ey : (k : K) → length (y k) ≡ t (p k)) where
  pub views_concat : (ks : List K) (l : List A) (m : List B)
      → views s t read (map p ks) (concat_map x ks ++ l) (concat_map y ks ++ m) ≡ map (λ k. read (p k) (x k) (y k)) ks
  views_concat [] l m = refl
  views_concat (k ∷ ks) l m =
      rw (append_assoc (x k) (concat_map x ks) l, append_assoc (y k) (concat_map y ks) m, take_at (x k) (concat_map x ks ++ l) (s (p k)) (ex k), take_at (y k) (concat_map y ks ++ m) (t (p k)) (ey k), drop_at (x k) (concat_map x ks ++ l) (s (p k)) (ex k), drop_at (y k) (concat_map y ks ++ m) (t (p k)) (ey k))
      (ap (λ (r : List R). read (p k) (x k) (y k) ∷ r) (views_concat ks l m))

pub concat_map_lem : {A B C : Type 0} (f : B → List C) (g : A → B) (l : List A) → concat_map f (map g l) ≡ concat_map (λ a. f (g a)) l
concat_map_lem f g [] = refl
concat_map_lem f g (a ∷ l) = ap (λ r. f (g a) ++ r) (concat_map_lem f g l)

-- the length of the lists of each element
module _ {A B P : Type 0} (f : A → List B) (p : A → P) (s : P → ℕ) (e : (a : A) → length (f a) ≡ s (p a)) where
  pub length_concat : (l : List A) → length (concat_map f l) ≡ sum_by s (map p l)
  length_concat [] = refl
  length_concat (a ∷ l) = length-append (f a) (concat_map f l) ∙ (λ i. e a i + length_concat l i)
