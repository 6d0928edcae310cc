-- Laws of parts of lists: what is taken of what is dropped, and lists that agree on a front, a middle or a back.
use mathlib.Core.Path.{◌≡◌, refl, sym, ap, ◌∙◌}
use Prim.Native.Nat.{ℕ, zero, suc, ◌+◌, ◌-◌, ◌≤◌, min, ◌<◌}
use native.Mathlib.Nat.{zero-add, suc-add, le-add_right}
use native.Mathlib.Omega.{arith}
use mathlib.Core.List.{List, [], ◌∷◌, ◌++◌}
use lib.ListN.{length, take, drop, set, replicate, length-drop, drop_of_length-le, get_or}
use native.Mathlib.Numerals.{add-one}
use Rattle.lists.proofs.Choice.{cases_le}
use lib.Seq.{take_all, take-take, drop-drop, take-nil, length-take-le, drop-cons}
use Rattle.lists.specs.Lists.{part}

module _ {ℓ} {A : Type ℓ} where
  -- what is dropped of what is taken
  pub drop_take : (n k : ℕ) (l : List A) → drop n (take (n + k) l) ≡ take k (drop n l)
  drop_take zero k l = ap (λ (i : ℕ). take i l) (zero-add k)
  drop_take (suc n) k [] = rw suc-add (sym (take-nil k))
  drop_take (suc n) k (a ∷ l) = rw suc-add (drop_take n k l)

  -- two lists with the same front have the same shorter front, and the same part of it
  pub same_front : (n k : ℕ) (l l' : List A) → take (n + k) l' ≡ take (n + k) l → take n l' ≡ take n l
  same_front n k l l' e =
      sym (take-take n (n + k) l' (le-add_right n k)) ∙ ap (take n) e ∙ take-take n (n + k) l (le-add_right n k)

  pub same_middle : (n k : ℕ) (l l' : List A) → take (n + k) l' ≡ take (n + k) l → take k (drop n l') ≡ take k (drop n l)
  same_middle n k l l' e = sym (drop_take n k l') ∙ ap (drop n) e ∙ drop_take n k l

  -- two lists with the same back have the same shorter back
  pub same_back : (a b : ℕ) (l l' : List A) → a ≤ b → drop a l' ≡ drop a l → drop b l' ≡ drop b l
  same_back a b l l' h e =
      let q : b ≡ a + (b - a) = omega arith in
      rw q (sym (drop-drop (b - a) a l') ∙ ap (drop (b - a)) e ∙ drop-drop (b - a) a l)

  -- a part of a part
  pub part-part : (a n b s : ℕ) (l : List A) → a + n ≤ s → part a n (part b s l) ≡ part (b + a) n l
  part-part a n b s l h =
      same_middle a n (drop b l) (take s (drop b l)) (take-take (a + n) s (drop b l) h) ∙ ap (take n) (drop-drop a b l)

  pub length_part : (a n : ℕ) (l : List A) → a + n ≤ length l → length (part a n l) ≡ n
  length_part a n l h = length-take-le n (drop a l) (omega (arith, length-drop a l))

  take_replicate : (n k : ℕ) (v : A) → take n (replicate (n + k) v) ≡ replicate n v
  take_replicate zero k v = refl
  take_replicate (suc n) k v = rw suc-add (ap (λ (r : List A). v ∷ r) (take_replicate n k v))

  drop_replicate : (n k : ℕ) (v : A) → drop n (replicate (n + k) v) ≡ replicate k v
  drop_replicate zero k v = rw zero-add
  drop_replicate (suc n) k v = rw suc-add (drop_replicate n k v)

  -- a part of equal elements
  pub part_replicate : (a n s : ℕ) (v : A) → a + n ≤ s → part a n (replicate s v) ≡ replicate n v
  part_replicate a n s v h =
      let e : s ≡ a + (n + (s - (a + n))) = omega arith in
      rw e (ap (take n) (drop_replicate a (n + (s - (a + n))) v) ∙ take_replicate n (s - (a + n)) v)

  pub take_set : (n : ℕ) (l : List A) (i : ℕ) (a : A) → take n (set l i a) ≡ set (take n l) i a
  take_set zero l i a = refl
  take_set (suc n) [] i a = refl
  take_set (suc n) (x ∷ l) zero a = refl
  take_set (suc n) (x ∷ l) (suc i) a = ap (λ (r : List A). x ∷ r) (take_set n l i a)

  -- no more is taken than is there
  pub take_most : (n : ℕ) (l : List A) → take (min n (length l)) l ≡ take n l
  take_most n l =
      cases_le n (length l)
      (λ h. let e : min n (length l) ≡ n = omega arith in ap (λ (k : ℕ). take k l) e)
      (λ h. let e : min n (length l) ≡ length l = omega arith in ap (λ (k : ℕ). take k l) e ∙ take_all (length l) l (omega arith) ∙ sym (take_all n l (omega arith)))

  pub drop_most : (n : ℕ) (l : List A) → drop (min n (length l)) l ≡ drop n l
  drop_most n l =
      cases_le n (length l)
      (λ h. let e : min n (length l) ≡ n = omega arith in ap (λ (k : ℕ). drop k l) e)
      (λ h. let e : min n (length l) ≡ length l = omega arith in ap (λ (k : ℕ). drop k l) e ∙ drop_of_length-le l {i = length l} (omega arith) ∙ sym (drop_of_length-le l {i = n} (omega arith)))

  -- a part between ends that are cut at the list's
  pub part-between : (a n s e : ℕ) (l : List A) → e ≡ min (a + n) (length l) → s ≡ min a e → take (e - s) (drop s l) ≡ part a n l
  part-between a n s e l p q =
      cases_le a (length l)
      (λ h.
      let x : s ≡ a = omega arith in
      let y : e - s ≡ min n (length (drop a l)) = omega (arith, length-drop a l) in
      rw (y, x) (take_most n (drop a l)))
      (λ h.
      let x : drop s l ≡ [] = drop_of_length-le l {i = s} (omega arith) in
      let y : drop a l ≡ [] = drop_of_length-le l {i = a} (omega arith) in
      rw (x, y) (take-nil (e - s) ∙ sym (take-nil n)))

  -- no elements in front
  pub none_front : (a l : List A) → length a ≡ 0 → a ++ l ≡ l
  none_front [] l e = refl
  none_front (x ∷ a) l e = absurd (omega arith)

  -- within a list the default does not matter
  pub get_d_any : (l : List A) (j : ℕ) (d d' : A) → j < length l → get_or l j d ≡ get_or l j d'
  get_d_any [] j d d' h = absurd (omega arith)
  get_d_any (x ∷ l) zero d d' h = refl
  get_d_any (x ∷ l) (suc j) d d' h = get_d_any l j d d' (omega arith)

  -- the first element of a part
  pub part_cons : (a n : ℕ) (l : List A) (d : A) → a < length l → part a (suc n) l ≡ get_or l a d ∷ part (a + 1) n l
  part_cons a n l d h = rw (drop-cons l a d h, add-one)
