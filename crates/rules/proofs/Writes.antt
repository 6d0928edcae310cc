-- Rows of entries written into an image one after the other, over any function that gives each entry its place.
use Prim.Native.Nat.{ℕ, zero, suc, ◌+◌, ◌≤◌, ◌<◌}
use mathlib.Core.Path.{◌≡◌, refl, sym, ap, ◌∙◌, subst}
use mathlib.Core.Logic.{◌≢◌}
use mathlib.Core.Bool.{Bool, true, false}
use mathlib.Core.List.{List, [], ◌∷◌}
use native.Mathlib.Omega.{arith}
use lib.Dec.{eqb}
use native.Mathlib.Numerals.{add-one}
use lib.ListN.{length, get_or, take, drop, length-set, drop_of_length-le}
use lib.Seq.{set_comm, set-set, get_or-set_same, get_or-set_other, take-set-lt, drop-set-lt, drop-cons}
use Rattle.rules.specs.Limits.{None}
use Rattle.rules.specs.Image.{put, put_row}

put_comm : (t t' : Bool) (a a' x y : ℕ) (l : List ℕ) → a ≢ a' → put t a x (put t' a' y l) ≡ put t' a' y (put t a x l)
unfolding put
put_comm true true a a' x y l n = refl
put_comm true false a a' x y l n = refl
put_comm false true a a' x y l n = refl
put_comm false false a a' x y l n = set_comm l a' a y x (λ e. n (sym e))

put-put : (t : Bool) (a x y : ℕ) (l : List ℕ) → put t a x (put t a y l) ≡ put t a x l
unfolding put
put-put true a x y l = refl
put-put false a x y l = set-set l a y x

length_put : (t : Bool) (a x : ℕ) (l : List ℕ) → length (put t a x l) ≡ length l
unfolding put
length_put true a x l = refl
length_put false a x l = length-set l a x

-- no place of the entries numbered from i on, n of them, is a
abbrev pub Clear : (ℕ → ℕ) → ℕ → ℕ → ℕ → Type 0
Clear at i n a = (j : ℕ) → i ≤ j → j < i + n → at j ≢ a

clear_tail : (at : ℕ → ℕ) (i n a : ℕ) → Clear at i (suc n) a → Clear at (suc i) n a
clear_tail at i n a c j l k = c j (omega arith) (omega arith)

module _ (at : ℕ → ℕ) (trits : List ℕ) where
  past_put : (es : List ℕ) (i : ℕ) (t : Bool) (a y : ℕ) (l : List ℕ) → Clear at i (length es) a
      → put_row at es i trits (put t a y l) ≡ put t a y (put_row at es i trits l)
  unfolding put_row
  past_put [] i t a y l c = refl
  past_put (e ∷ es) i t a y l c =
      ap (put_row at es (suc i) trits) (put_comm (eqb e None) t (at i) a (get_or trits e 0) y l (c i (omega arith) (omega arith)))
      ∙ past_put es (suc i) t a y (put (eqb e None) (at i) (get_or trits e 0) l) (clear_tail at i (length es) a c)

  pub length_put_row : (es : List ℕ) (i : ℕ) (l : List ℕ) → length (put_row at es i trits l) ≡ length l
  unfolding put_row
  length_put_row [] i l = refl
  length_put_row (e ∷ es) i l =
      length_put_row es (suc i) (put (eqb e None) (at i) (get_or trits e 0) l) ∙ length_put (eqb e None) (at i) (get_or trits e 0) l

-- two rows with no place in common, in either order
pub rows_comm : (at at' : ℕ → ℕ) (v w : List ℕ) (es es' : List ℕ) (i i' : ℕ) (l : List ℕ)
    → ((j j' : ℕ) → i ≤ j → j < i + length es → i' ≤ j' → j' < i' + length es' → at j ≢ at' j')
    → put_row at es i v (put_row at' es' i' w l) ≡ put_row at' es' i' w (put_row at es i v l)
unfolding put_row
rows_comm at at' v w es [] i i' l c = refl
rows_comm at at' v w es (e ∷ es') i i' l c =
    rows_comm at at' v w es es' i (suc i') (put (eqb e None) (at' i') (get_or w e 0) l) (λ j j' a b d f. c j j' a b (omega arith) (omega arith))
    ∙ ap (put_row at' es' (suc i') w) (past_put at v es i (eqb e None) (at' i') (get_or w e 0) l (λ j a b. c j i' a b (omega arith) (omega arith)))

-- one row twice: the later trits stay
pub rows_twice : (at : ℕ → ℕ) (v w : List ℕ) (es : List ℕ) (i : ℕ) (l : List ℕ)
    → ((j j' : ℕ) → i ≤ j → j < j' → j' < i + length es → at j' ≢ at j)
    → put_row at es i v (put_row at es i w l) ≡ put_row at es i v l
unfolding put_row
rows_twice at v w [] i l c = refl
rows_twice at v w (e ∷ es) i l c =
    let free : Clear at (suc i) (length es) (at i) = λ j a b. c i j (omega arith) a (omega arith) in
    let t = eqb e None in
    ap (λ (m : List ℕ). put_row at es (suc i) v (put t (at i) (get_or v e 0) m)) (past_put at w es (suc i) t (at i) (get_or w e 0) l free)
    ∙ ap (put_row at es (suc i) v) (put-put t (at i) (get_or v e 0) (get_or w e 0) (put_row at es (suc i) w l) ∙ sym (past_put at w es (suc i) t (at i) (get_or v e 0) l free))
    ∙ rows_twice at v w es (suc i) (put t (at i) (get_or v e 0) l) (λ j j' a b d. c j j' (omega arith) b (omega arith))

-- ---- what a row leaves as it was, and what it stores
get_d_put_other : (t : Bool) (a x k d : ℕ) (l : List ℕ) → (t ≡ false → a ≢ k) → get_or (put t a x l) k d ≡ get_or l k d
unfolding put
get_d_put_other true a x k d l n = refl
get_d_put_other false a x k d l n = get_or-set_other l a k x d (λ e. n refl (sym e))

-- k is no place of an entry that names a bit
abbrev pub Off : (ℕ → ℕ) → List ℕ → ℕ → ℕ → Type 0
Off at es i k = (j : ℕ) → j < length es → eqb (get_or es j None) None ≡ false → at (i + j) ≢ k

pub row_frame : (at : ℕ → ℕ) (v es : List ℕ) (i k d : ℕ) (l : List ℕ) → Off at es i k → get_or (put_row at es i v l) k d ≡ get_or l k d
unfolding put_row
row_frame at v [] i k d l c = refl
row_frame at v (e ∷ es) i k d l c =
    row_frame at v es (suc i) k d (put (eqb e None) (at i) (get_or v e 0) l)
    (λ j a b. subst (λ (n : ℕ). at n ≢ k) (omega arith) (c (suc j) (omega arith) b))
    ∙ get_d_put_other (eqb e None) (at i) (get_or v e 0) k d l (λ b. subst (λ (n : ℕ). at n ≢ k) (omega arith) (c 0 (omega arith) b))

get_d_put_same : (t : Bool) (a x d : ℕ) (l : List ℕ) → t ≡ false → a < length l → get_or (put t a x l) a d ≡ x
unfolding put
get_d_put_same true a x d l e h = let z : ◌≡◌ {A = ℕ} 0 1 = cc in absurd (omega arith)
get_d_put_same false a x d l e h = get_or-set_same l a x d h

-- the places of n entries, numbered from i, are different
abbrev pub Apart : (ℕ → ℕ) → ℕ → ℕ → Type 0
Apart at i n = (j j' : ℕ) → i ≤ j → j < j' → j' < i + n → at j' ≢ at j

row_first : (at : ℕ → ℕ) (v es : List ℕ) (e i : ℕ) (l : List ℕ) (d : ℕ) → Apart at i (suc (length es))
    → eqb e None ≡ false → at i < length l → get_or (put_row at (e ∷ es) i v l) (at i) d ≡ get_or v e 0
unfolding put_row
row_first at v es e i l d c b f =
    row_frame at v es (suc i) (at i) d (put (eqb e None) (at i) (get_or v e 0) l) (λ j x y. c i (suc i + j) (omega arith) (omega arith) (omega arith))
    ∙ get_d_put_same (eqb e None) (at i) (get_or v e 0) d l b f

-- an entry that names a bit has that bit's trit at its place
pub row_at : (at : ℕ → ℕ) (v es : List ℕ) (i : ℕ) (l : List ℕ) (d : ℕ) → Apart at i (length es)
    → (j k : ℕ) → k ≡ i + j → j < length es → eqb (get_or es j None) None ≡ false → at k < length l
    → get_or (put_row at es i v l) (at k) d ≡ get_or v (get_or es j None) 0
unfolding put_row
row_at at v [] i l d c j k q a b f = absurd (omega arith)
row_at at v (e ∷ es) i l d c zero k q a b f =
    let z : k ≡ i = omega arith in
    ap (λ (n : ℕ). get_or (put_row at (e ∷ es) i v l) (at n) d) z ∙ row_first at v es e i l d c b (subst (λ (n : ℕ). at n < length l) z f)
row_at at v (e ∷ es) i l d c (suc j) k q a b f =
    row_at at v es (suc i) (put (eqb e None) (at i) (get_or v e 0) l) d (λ m m' x y z. c m m' (omega arith) y (omega arith)) j k (omega arith) (omega arith) b
    (subst (λ (n : ℕ). at k < n) (sym (length_put (eqb e None) (at i) (get_or v e 0) l)) f)

-- ---- a row whose places are all below n leaves the rest alone
take_put : (t : Bool) (a x n : ℕ) (l : List ℕ) → (t ≡ false → a < n) → take n (put t a x l) ≡ put t a x (take n l)
unfolding put
take_put true a x n l h = refl
take_put false a x n l h = take-set-lt n l a x (h refl)

drop_put : (t : Bool) (a x n : ℕ) (l : List ℕ) → (t ≡ false → a < n) → drop n (put t a x l) ≡ drop n l
unfolding put
drop_put true a x n l h = refl
drop_put false a x n l h = drop-set-lt n l a x (h refl)

abbrev pub Below : (ℕ → ℕ) → List ℕ → ℕ → ℕ → Type 0
Below at es i n = (j : ℕ) → j < length es → eqb (get_or es j None) None ≡ false → at (i + j) < n

below_head : (at : ℕ → ℕ) (e : ℕ) (es : List ℕ) (i n : ℕ) → Below at (e ∷ es) i n → eqb e None ≡ false → at i < n
below_head at e es i n c b = subst (λ (k : ℕ). at k < n) (omega arith) (c 0 (omega arith) b)

below_tail : (at : ℕ → ℕ) (e : ℕ) (es : List ℕ) (i n : ℕ) → Below at (e ∷ es) i n → Below at es (suc i) n
below_tail at e es i n c j a b = subst (λ (k : ℕ). at k < n) (omega arith) (c (suc j) (omega arith) b)

pub row_take : (at : ℕ → ℕ) (v es : List ℕ) (i n : ℕ) (l : List ℕ) → Below at es i n → take n (put_row at es i v l) ≡ put_row at es i v (take n l)
unfolding put_row
row_take at v [] i n l c = refl
row_take at v (e ∷ es) i n l c =
    row_take at v es (suc i) n (put (eqb e None) (at i) (get_or v e 0) l) (below_tail at e es i n c)
    ∙ ap (put_row at es (suc i) v) (take_put (eqb e None) (at i) (get_or v e 0) n l (below_head at e es i n c))

pub row_drop : (at : ℕ → ℕ) (v es : List ℕ) (i n : ℕ) (l : List ℕ) → Below at es i n → drop n (put_row at es i v l) ≡ drop n l
unfolding put_row
row_drop at v [] i n l c = refl
row_drop at v (e ∷ es) i n l c =
    row_drop at v es (suc i) n (put (eqb e None) (at i) (get_or v e 0) l) (below_tail at e es i n c)
    ∙ drop_put (eqb e None) (at i) (get_or v e 0) n l (below_head at e es i n c)

-- ---- for the code: one entry more, and the end
row_step : (at : ℕ → ℕ) (v es : List ℕ) (i : ℕ) (l : List ℕ) → i < length es
    → put_row at (drop i es) i v l ≡ put_row at (drop (i + 1) es) (i + 1) v (put (eqb (get_or es i 0) None) (at i) (get_or v (get_or es i 0) 0) l)
unfolding put_row
row_step at v es i l a = rw (drop-cons es i 0 a, add-one i)

pub row_again : (at : ℕ → ℕ) (v es : List ℕ) (i : ℕ) (l l' g : List ℕ) → i < length es
    → l' ≡ put (eqb (get_or es i 0) None) (at i) (get_or v (get_or es i 0) 0) l → put_row at (drop i es) i v l ≡ g
    → put_row at (drop (i + 1) es) (i + 1) v l' ≡ g
row_again at v es i l l' g a e k = ap (put_row at (drop (i + 1) es) (i + 1) v) e ∙ sym (row_step at v es i l a) ∙ k

pub row_end : (at : ℕ → ℕ) (v es : List ℕ) (i : ℕ) (l : List ℕ) → length es ≤ i → put_row at (drop i es) i v l ≡ l
unfolding put_row
row_end at v es i l a = ap (λ (x : List ℕ). put_row at x i v l) (drop_of_length-le es {i = i} a)
