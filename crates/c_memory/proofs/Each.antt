-- A list of the images of another list's elements.
use mathlib.Core.Path.{◌≡◌, refl, sym, ap, subst, ◌∙◌}
use Prim.Native.Nat.{ℕ, ◌<◌}
use mathlib.Core.List.{List, [], ◌∷◌, map}
use lib.ListN.{length, length-map, get_or, replicate}
use Rattle.std.specs.Array.{AllOfLen}
use Rattle.std.proofs.lemmas.List.{ext_get_or, length-replicate, get_or-replicate, get_or-map}

-- an image that is known place by place
pub by_place : {A B : Type 0} (f : A → B) (d : A) (xs : List A) (ys : List B) (n : ℕ) → length xs ≡ n → length ys ≡ n → ((i : ℕ) → i < n → get_or ys i (f d) ≡ f (get_or xs i d)) → ys ≡ map f xs
by_place f d xs ys n hx hy h =
    ext_get_or (f d) ys (map f xs) (hy ∙ sym hx ∙ sym (length-map xs f)) (λ i l. h i (subst (λ m. i < m) hy l) ∙ sym (get_or-map f xs i d (f d) (subst (λ m. i < m) (hy ∙ sym hx) l)))

-- a function after another that it undoes
pub undone : {A B : Type 0} (f : A → B) (g : B → A) → ((b : B) → f (g b) ≡ b) → (l : List B) → map f (map g l) ≡ l
undone f g e [] = refl
undone {B = B} f g e (b ∷ l) = ap (λ (x : B). x ∷ map f (map g l)) (e b) ∙ ap (λ (r : List B). b ∷ r) (undone f g e l)

-- an array whose elements are all known to be v
pub all_of : {A : Type 0} (P : A → Type 0) (v : A) → ((x : A) → P x → x ≡ v) → (xs : List A) (n : ℕ) → AllOfLen P xs n → xs ≡ replicate n v
all_of P v is xs n a =
    ext_get_or v xs (replicate n v) (a.long ∙ sym (length-replicate n v))
    (λ i l. let below = subst (λ m. i < m) a.long l in is (get_or xs i v) (a.at i v below) ∙ sym (get_or-replicate n i v v below))
