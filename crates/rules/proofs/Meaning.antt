-- The definition `layout` is the image that the rules describe, and the only one.
use Prim.Native.Nat.{ℕ, zero, suc, ◌+◌, ◌*◌, ◌≤◌, ◌<◌}
use mathlib.Core.Path.{◌≡◌, refl, sym, ◌∙◌, subst}
use mathlib.Core.Logic.{◌⊎◌, ◌≢◌, inl, inr, ⊎_elim}
use mathlib.Core.List.{List}
use native.Mathlib.Omega.{arith}
use native.Mathlib.Decide.{ℕ_discrete}
use native.Mathlib.Nat.{le_refl, le_of_eq, le_of_lt, lt_of_lt_of_le, eq-or-lt_of_le, le_of_suc-le-suc, ne_of_lt, zero-add}
use lib.ListN.{length, get_or, drop, replicate, get_or-replicate, length-replicate}
use lib.Seq.{get_or-take, get_or-drop, ext_get_or}
use borrow.Author.Tests.{ne_eqb}
use Rattle.rules.specs.Limits.{trit_x, None}
use Rattle.rules.specs.Geometry.{Layout, row_len_of}
use Rattle.rules.specs.Logic.{undef}
use Rattle.rules.specs.Image.{image_size, index_of, write_row, row_of, write_rows, layout}
use Rattle.rules.specs.Patch.{IsPlace, LaysOut}
use Rattle.rules.proofs.Writes.{row_at}
use Rattle.rules.proofs.Places.{index_inj}
use Rattle.rules.proofs.Demand.{Accepted, entry_in, places_below, frame, length_write_rows, length_layout}

trit_of_lem : (w r e : ℕ) (rows : List ℕ) → e < w → get_or (row_of w rows r) e 0 ≡ get_or rows (r * w + e) 0
unfolding row_of
trit_of_lem w r e rows l = get_or-take w (drop (r * w) rows) e 0 l ∙ get_or-drop (r * w) rows e 0

module _ (q : Layout) (z : Accepted q) (rows : List ℕ) where
  stays : (n : ℕ) (l : List ℕ) (k : ℕ) → n ≤ q.depth → ((r : ℕ) → r < n → IsPlace q r k → ⊥) → get_or (write_rows q rows n l) k trit_x ≡ get_or l k trit_x
  unfolding write_rows
  stays zero l k h o = refl
  stays (suc n) l k h o =
      frame q z n (row_of q.width rows n) (write_rows q rows n l) k (o n (le_refl (suc n)))
      ∙ stays n l k (le_of_lt h) (λ r a. o r (omega arith))

  module _ (j : ℕ) (lj : j < length q.entries) (nj : get_or q.entries j None ≢ None) where
    lands : (r : ℕ) (v l : List ℕ) → r < q.depth → image_size q ≤ length l → get_or (write_row q r v l) (index_of q r j) trit_x ≡ get_or v (get_or q.entries j None) 0
    unfolding write_row
    lands r v l h s =
        let b = ne_eqb (get_or q.entries j None) None nj in
        row_at (index_of q r) v q.entries 0 l trit_x
        (λ m m' x y w e. ne_of_lt y (sym (index_inj q z.sized r r m' m h h (entry_in q z m' w) (entry_in q z m (omega arith)) e).1))
        j j (sym (zero-add j)) lj b
        (subst (λ (n : ℕ). index_of q r n < length l) (zero-add j) (places_below q z r (length l) h s j lj b))

    bit : (n r : ℕ) (l : List ℕ) → r < n → n ≤ q.depth → image_size q ≤ length l
        → get_or (write_rows q rows n l) (index_of q r j) trit_x ≡ get_or (row_of q.width rows r) (get_or q.entries j None) 0
    unfolding write_rows
    bit zero r l h d s = absurd (omega arith)
    bit (suc n) r l h d s =
        let s' : image_size q ≤ length (write_rows q rows n l) = subst (λ (m : ℕ). image_size q ≤ m) (sym (length_write_rows q rows n l)) s in
        ⊎_elim
        (λ e. subst (λ (m : ℕ). get_or (write_row q n (row_of q.width rows n) (write_rows q rows n l)) (index_of q m j) trit_x ≡ get_or (row_of q.width rows m) (get_or q.entries j None) 0) (sym e)
        (lands n (row_of q.width rows n) (write_rows q rows n l) d s'))
        (λ e.
        frame q z n (row_of q.width rows n) (write_rows q rows n l) (index_of q r j)
        (λ p. ne_of_lt e (sym (index_inj q z.sized n r p.entry j d (lt_of_lt_of_le h d) p.within (entry_in q z j (in_zero lj)) p.is).0))
        ∙ bit n r l e (le_of_lt d) s)
        (eq-or-lt_of_le (le_of_suc-le-suc h))
      where
        in_zero : {a b : ℕ} → a < b → a < 0 + b
        in_zero x = omega arith

  -- the definition is as the rules say
  pub layout_means : LaysOut q rows (layout q rows)
  unfolding layout undef row_len_of
  layout_means = record {
    size = length_layout q rows;
    bits = λ r j l a n.
        bit j a n q.depth r (replicate (image_size q) trit_x) l (le_refl q.depth) (omega (arith, length-replicate (image_size q) trit_x))
        ∙ trit_of_lem q.width r (get_or q.entries j None) rows (z.named j a n);
    others = λ k l o. stays q.depth (replicate (image_size q) trit_x) k (le_refl q.depth) o ∙ get_or-replicate (image_size q) k trit_x trit_x l;
  }

-- ---- and there is no other such image
bounded : (P : ℕ → Type 0) → ((i : ℕ) → Dec (P i)) → (n : ℕ) → ((i : ℕ) × (i < n) × P i) ⊎ ((i : ℕ) → i < n → P i → ⊥)
bounded P d zero = inr (λ i l p. omega arith)
bounded P d (suc n) = ⊎_elim
    (λ s. inl (s.0, omega (arith, s.1), s.2))
    (λ o. elim (d n) [
      | yes p ↦ inl (n, omega arith, p)
      | no x ↦ inr (λ i l p. ⊎_elim (λ e. x (subst P e p)) (λ k. o i k p) (eq-or-lt_of_le (le_of_suc-le-suc l)))
    ])
    (bounded P d n)

place_dec : (q : Layout) (r k : ℕ) → Dec (IsPlace q r k)
unfolding row_len_of
place_dec q r k =
    ⊎_elim
    (λ s. yes (record { entry = s.0; within = s.1; names = s.2.0; is = s.2.1 }))
    (λ o. no (λ p. o p.entry p.within (p.names, p.is)))
    (bounded (λ (j : ℕ). (get_or q.entries j None ≢ None) × (index_of q r j ≡ k)) here (length q.entries))
  where
    here : (j : ℕ) → Dec ((get_or q.entries j None ≢ None) × (index_of q r j ≡ k))
    here j = elim (ℕ_discrete (get_or q.entries j None) None) [
      | yes e ↦ no (λ p. p.0 e)
      | no n ↦ elim (ℕ_discrete (index_of q r j) k) [ yes e ↦ yes (n, e) | no m ↦ no (λ p. m p.1) ]
    ]

pub only_one : (q : Layout) (rows a b : List ℕ) → LaysOut q rows a → LaysOut q rows b → a ≡ b
only_one q rows a b x y = ext_get_or trit_x a b (x.size ∙ sym y.size) each
  where
    each : (k : ℕ) → k < length a → get_or a k trit_x ≡ get_or b k trit_x
    each k l = ⊎_elim
        (λ s.
        let p = s.2 in
        subst (λ (m : ℕ). get_or a m trit_x ≡ get_or b m trit_x) p.is
        (x.bits s.0 p.entry s.1 p.within p.names ∙ sym (y.bits s.0 p.entry s.1 p.within p.names)))
        (λ o. x.others k (lt_of_lt_of_le l (le_of_eq x.size)) o ∙ sym (y.others k (lt_of_lt_of_le l (le_of_eq x.size)) o))
        (bounded (λ (r : ℕ). IsPlace q r k) (λ r. place_dec q r k) q.depth)

-- so an image that has each bit at its place and X elsewhere is `layout`
pub only_layout : (q : Layout) → Accepted q → (rows image : List ℕ) → LaysOut q rows image → image ≡ layout q rows
only_layout q z rows image h = only_one q rows image (layout q rows) h (layout_means q z rows)
