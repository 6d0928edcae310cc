-- A row taken out of an image, entry by entry; and that it is the row read back.
use Prim.Native.Nat.{ℕ, zero, suc, ◌+◌, ◌-◌, ◌≤◌, ◌<◌}
use mathlib.Core.Path.{◌≡◌, refl, sym, ap, ◌∙◌, subst}
use mathlib.Core.Logic.{◌≢◌}
use mathlib.Core.Bool.{Bool, true, false}
use mathlib.Core.List.{List, [], ◌∷◌}
use native.Mathlib.Omega.{arith}
use native.Mathlib.Numerals.{add-one}
use lib.Dec.{eqb}
use lib.ListN.{length, get_or, set, drop, drop_of_length-le, length-set, get_or-append}
use native.Mathlib.Nat.{zero-add, add-zero, suc-add, add-suc, le_refl}
use lib.Seq.{sets, sets-eq, length-sets, drop-cons, get_or-drop, get_or-set_same, get_or-set_other, ext_get_or}
use borrow.Author.Tests.{ne_eqb, eqb-false}
use Rattle.lists.specs.Distinct.{place_in}
use Rattle.lists.proofs.Choice.{cases_le}
use Rattle.lists.proofs.Store.{drop_sets}
use Rattle.rules.specs.Limits.{None, trit_x}
use Rattle.rules.specs.Geometry.{Layout}
use Rattle.rules.specs.Image.{put, index_of}
use Rattle.rules.specs.Conditions.{times, bad_layout}
use Rattle.rules.specs.Beside.Layouts.{bit_of, read_row}
use Rattle.rules.proofs.Named.{name_in, name_at, name_only, once}
use Rattle.rules.proofs.GoodLayouts.{good, good_small, named}
use Rattle.rules.proofs.ReadBack.{length_read_row, get_d_read_row}
use Rattle.image_rows.specs.Steps.{take_row}

-- ---- for the loop: one entry more, and the end
take_step : (at : ℕ → ℕ) (image es : List ℕ) (i : ℕ) (l : List ℕ) → i < length es
    → take_row at (drop i es) i image l ≡ take_row at (drop (i + 1) es) (i + 1) image (put (eqb (get_or es i 0) None) (get_or es i 0) (get_or image (at i) trit_x) l)
unfolding take_row
take_step at image es i l a = rw (drop-cons es i 0 a, add-one i)

pub take_again : (at : ℕ → ℕ) (image es : List ℕ) (i : ℕ) (l l' g : List ℕ) → i < length es
    → l' ≡ put (eqb (get_or es i 0) None) (get_or es i 0) (get_or image (at i) trit_x) l → take_row at (drop i es) i image l ≡ g
    → take_row at (drop (i + 1) es) (i + 1) image l' ≡ g
take_again at image es i l l' g a e k = ap (take_row at (drop (i + 1) es) (i + 1) image) e ∙ sym (take_step at image es i l a) ∙ k

pub take_end : (at : ℕ → ℕ) (image es : List ℕ) (i : ℕ) (l : List ℕ) → length es ≤ i → take_row at (drop i es) i image l ≡ l
unfolding take_row
take_end at image es i l a = ap (λ (x : List ℕ). take_row at x i image l) (drop_of_length-le es {i = i} a)

-- ---- what is taken
length_put : (t : Bool) (a x : ℕ) (l : List ℕ) → length (put t a x l) ≡ length l
unfolding put
length_put true a x l = refl
length_put false a x l = length-set l a x

pub length_take_row : (at : ℕ → ℕ) (es : List ℕ) (i : ℕ) (image l : List ℕ) → length (take_row at es i image l) ≡ length l
unfolding take_row
length_take_row at [] i image l = refl
length_take_row at (e ∷ es) i image l =
    length_take_row at es (suc i) image (put (eqb e None) e (get_or image (at i) trit_x) l) ∙ length_put (eqb e None) e (get_or image (at i) trit_x) l

put_other : (t : Bool) (a x k d : ℕ) (l : List ℕ) → (t ≡ false → a ≡ k → ⊥) → get_or (put t a x l) k d ≡ get_or l k d
unfolding put
put_other true a x k d l n = refl
put_other false a x k d l n = get_or-set_other l a k x d (λ e. n refl (sym e))

put_same : (t : Bool) (a x k d : ℕ) (l : List ℕ) → t ≡ false → a ≡ k → k < length l → get_or (put t a x l) k d ≡ x
unfolding put
put_same true a x k d l e f h = let z : ◌≡◌ {A = ℕ} 0 1 = cc in absurd (omega arith)
put_same false a x k d l e f h = ap (λ (n : ℕ). get_or (set l n x) k d) f ∙ get_or-set_same l k x d h

-- a bit that no entry names stays
take_other : (at : ℕ → ℕ) (es : List ℕ) (i : ℕ) (image l : List ℕ) (k d : ℕ) → ((j : ℕ) → j < length es → get_or es j None ≢ None → get_or es j None ≡ k → ⊥)
    → get_or (take_row at es i image l) k d ≡ get_or l k d
unfolding take_row
take_other at [] i image l k d n = refl
take_other at (e ∷ es) i image l k d n =
    take_other at es (suc i) image (put (eqb e None) e (get_or image (at i) trit_x) l) k d (λ j h. n (suc j) (omega arith))
    ∙ put_other (eqb e None) e (get_or image (at i) trit_x) k d l (λ t. n 0 (omega arith) (eqb-false e None t))

-- a bit that one entry alone names has the trit at its place
take_named : (at : ℕ → ℕ) (es : List ℕ) (i : ℕ) (image l : List ℕ) (k d j : ℕ) → k ≢ None → k < length l
    → j < length es → get_or es j None ≡ k → ((m : ℕ) → m < length es → get_or es m None ≡ k → m ≡ j)
    → get_or (take_row at es i image l) k d ≡ get_or image (at (i + j)) trit_x
unfolding take_row
take_named at [] i image l k d j n s h e o = absurd (omega arith)
take_named at (e ∷ es) i image l k d zero n s h f o =
    take_other at es (suc i) image (put (eqb e None) e (get_or image (at i) trit_x) l) k d (λ m a x b. not_suc (o (suc m) (omega arith) b))
    ∙ put_same (eqb e None) e (get_or image (at i) trit_x) k d l (ne_eqb e None (λ z. n (sym f ∙ z))) f s
    ∙ ap (λ (m : ℕ). get_or image (at m) trit_x) (sym (add-zero i))
  where
    not_suc : {m : ℕ} → suc m ≡ 0 → ⊥
    not_suc z = omega arith
take_named at (e ∷ es) i image l k d (suc j) n s h f o =
    take_named at es (suc i) image (put (eqb e None) e (get_or image (at i) trit_x) l) k d j n (subst (λ (m : ℕ). k < m) (sym (length_put (eqb e None) e (get_or image (at i) trit_x) l)) s)
    (omega arith) f (λ m a b. pred (o (suc m) (omega arith) b))
    ∙ ap (λ (m : ℕ). get_or image (at m) trit_x) (suc-add i j ∙ sym (add-suc i j))
  where
    pred : {m : ℕ} → suc m ≡ suc j → m ≡ j
    pred z = omega arith

-- ---- a list stored at the front
front_in : (l ws : List ℕ) (k d : ℕ) → length ws ≤ length l → k < length ws → get_or (sets l 0 ws) k d ≡ get_or ws k d
front_in l ws k d h s =
    ap (λ (x : List ℕ). get_or x k d) (sets-eq ws l 0 (subst (λ (n : ℕ). n ≤ length l) (sym (zero-add (length ws))) h)) ∙ get_or-append ws _ d k s

front_past : (l ws : List ℕ) (k d : ℕ) → length ws ≤ k → get_or (sets l 0 ws) k d ≡ get_or l k d
front_past l ws k d h =
    let e : k ≡ length ws + (k - length ws) = omega arith in
    ap (λ (n : ℕ). get_or (sets l 0 ws) n d) e ∙ sym (get_or-drop (length ws) (sets l 0 ws) (k - length ws) d)
    ∙ ap (λ (x : List ℕ). get_or x (k - length ws) d) (drop_sets (length ws) ws l 0 (subst (λ (n : ℕ). n ≤ length ws) (sym (zero-add (length ws))) (le_refl (length ws))))
    ∙ get_or-drop (length ws) l (k - length ws) d ∙ ap (λ (n : ℕ). get_or l n d) (sym e)

-- ---- so the row that is taken is the row read back
module _ (q : Layout) (e : bad_layout q ≡ false) (image room : List ℕ) (row : ℕ) (fits : q.width ≤ length room) where
  wide : length (read_row q image row) ≡ q.width
  wide = length_read_row q image row

  named_once : (b : ℕ) → b < q.width → times b q.entries ≡ 1
  named_once = once q.width q.entries (good q e).entries

  low : (k : ℕ) → k < q.width → get_or (take_row (index_of q row) q.entries 0 image room) k 0 ≡ get_or (sets room 0 (read_row q image row)) k 0
  unfolding bit_of
  low k l =
      take_named (index_of q row) q.entries 0 image room k 0 (place_in eqb k q.entries) (λ z. omega (arith, (good_small q e).width_max)) (omega arith)
      (name_in k q.entries (omega (arith, named_once k l))) (name_at k q.entries (omega (arith, named_once k l)))
      (λ m a b. name_only k m q.entries (omega (arith, named_once k l)) a b)
      ∙ ap (λ (n : ℕ). get_or image (index_of q row n) trit_x) (zero-add _)
      ∙ sym (front_in room (read_row q image row) k 0 (subst (λ (n : ℕ). n ≤ length room) (sym wide) fits) (subst (λ (n : ℕ). k < n) (sym wide) l) ∙ get_d_read_row q image row k 0 l)

  high : (k : ℕ) → q.width ≤ k → get_or (take_row (index_of q row) q.entries 0 image room) k 0 ≡ get_or (sets room 0 (read_row q image row)) k 0
  high k l =
      take_other (index_of q row) q.entries 0 image room k 0
      (λ j a n b. past (named q.width q.entries (good q e).entries j a n) b)
      ∙ sym (front_past room (read_row q image row) k 0 (subst (λ (n : ℕ). n ≤ k) (sym wide) l))
    where
      past : {x : ℕ} → x < q.width → x ≡ k → ⊥
      past a b = omega arith

  pub taken_is : take_row (index_of q row) q.entries 0 image room ≡ sets room 0 (read_row q image row)
  taken_is =
      ext_get_or 0 (take_row (index_of q row) q.entries 0 image room) (sets room 0 (read_row q image row))
      (length_take_row (index_of q row) q.entries 0 image room ∙ sym (length-sets room 0 (read_row q image row)))
      (λ k l. cases_le q.width k (high k) (low k))
