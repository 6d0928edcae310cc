-- The cursor over the columns of a grid, and the loop that stores a run of them.
use mathlib.Core.Path.{◌≡◌, refl, sym, ap, ◌∙◌}
use Prim.Native.Nat.{ℕ, suc, ◌+◌, ◌-◌, ◌*◌, ◌/◌, ◌%◌, ◌<◌, ◌≤◌, min}
use native.Mathlib.Nat.{zero-mul, one-mul, add-mul, mul_assoc, mul_left_comm, mul-le-mul_left, mul-le-mul_right, mod-lt, div-add-mod'}
use native.Mathlib.Numerals.{add-one}
use native.Mathlib.Omega.{arith}
use mathlib.Core.List.{List, [], ◌∷◌}
use lib.Arith.{digits_div, digits_mod}
use borrow.Author.Tests.{lt-ltb, le-ltb}
use lib.ListN.{length, take, drop, get_or, set, drop_of_length-le}
use lib.Seq.{drop-cons, get_or-take, length-take-le}
use Rattle.lists.proofs.Choice.{cases_le}
use Rattle.swizzle_laws.specs.Order.{flip, home, spill}
use Rattle.swizzle_laws.specs.Stores.{spill_fit}
use Rattle.swizzle_laws.proofs.Order.{home_lt, turned}
use Rattle.swizzle_columns.specs.declared.Grid.{Grid}
use Rattle.swizzle_columns.specs.declared.Cursor.{Cursor}
use Rattle.swizzle_columns.specs.Steps.{Good, At, next_of, Steppable}

-- ---- the digits of the next number
module _ (U i : ℕ) (pos : 0 < U) where
  digit_next : i % U + 1 < U → ((i + 1) / U ≡ i / U) × ((i + 1) % U ≡ i % U + 1)
  digit_next h =
      let e : i + 1 ≡ i / U * U + (i % U + 1) = omega (arith, div-add-mod' i U) in
      (ap (λ (n : ℕ). n / U) e ∙ digits_div (i / U) h, ap (λ (n : ℕ). n % U) e ∙ digits_mod (i / U) h)

  digit_wrap : U ≤ i % U + 1 → ((i + 1) / U ≡ i / U + 1) × ((i + 1) % U ≡ 0)
  digit_wrap h =
      let l = mod-lt i pos in
      let e : i + 1 ≡ (i / U + 1) * U + 0 = omega (arith, div-add-mod' i U, add-mul (i / U) 1 U) in
      (ap (λ (n : ℕ). n / U) e ∙ digits_div (i / U + 1) pos, ap (λ (n : ℕ). n % U) e ∙ digits_mod (i / U + 1) pos)

-- ---- the place of the next column
module _ (M R U i : ℕ) (mp : 0 < M) (rp : 0 < R) (up : 0 < U) where
  home-step : i % U + 1 < U → home M R U (i + 1) ≡ home M R U i + 1
  unfolding home
  home-step h =
      let d = digit_next U i up h in
      (λ j. flip M R (d.0 j) * U + d.1 j) ∙ omega arith

  home_hop : U ≤ i % U + 1 → i / U % M + 1 < M → home M R U (i + 1) ≡ home M R U i + 1 + (R - 1) * U
  unfolding home flip
  home_hop h g =
      let d = digit_wrap U i up h in
      let e = digit_next M (i / U) mp g in
      let k : (i + 1) / U % M ≡ i / U % M + 1 = ap (λ (n : ℕ). n % M) d.0 ∙ e.1 in
      let m : (i + 1) / U / M ≡ i / U / M = ap (λ (n : ℕ). n / M) d.0 ∙ e.0 in
      (λ j. (k j * R + m j) * U + d.1 j) ∙ sums (i / U % M) (i / U / M) (i % U) (mod-lt i up) h
    where
      sums : (a c b : ℕ) → b < U → U ≤ b + 1 → ((a + 1) * R + c) * U + 0 ≡ (a * R + c) * U + b + 1 + (R - 1) * U
      sums a c b l h =
          let x : (a + 1) * R + c ≡ (a * R + c) + (1 + (R - 1)) = omega (arith, add-mul a 1 R) in
          ap (λ (n : ℕ). n * U + 0) x ∙ omega (arith, add-mul (a * R + c) (1 + (R - 1)) U, add-mul 1 (R - 1) U)

  home_wrapped : U ≤ i % U + 1 → M ≤ i / U % M + 1 → home M R U (i + 1) + (M - 1) * (R * U) ≡ home M R U i + 1
  unfolding home flip
  home_wrapped h g =
      let d = digit_wrap U i up h in
      let e = digit_wrap M (i / U) mp g in
      let k : (i + 1) / U % M ≡ 0 = ap (λ (n : ℕ). n % M) d.0 ∙ e.1 in
      let m : (i + 1) / U / M ≡ i / U / M + 1 = ap (λ (n : ℕ). n / M) d.0 ∙ e.0 in
      (λ j. (k j * R + m j) * U + d.1 j + (M - 1) * (R * U)) ∙ sums (i / U % M) (i / U / M) (i % U) (mod-lt i up) h (mod-lt (i / U) mp) g
    where
      sums : (a c b : ℕ) → b < U → U ≤ b + 1 → a < M → M ≤ a + 1 → (0 * R + (c + 1)) * U + 0 + (M - 1) * (R * U) ≡ (a * R + c) * U + b + 1
      sums a c b l h l' g =
          let x : M - 1 ≡ a = omega arith in
          let y : 0 * R + (c + 1) ≡ c + 1 = omega (arith, zero-mul R) in
          (λ j. y j * U + 0 + x j * (R * U)) ∙ omega (arith, add-mul c 1 U, add-mul (a * R) c U, mul_assoc a R U)

-- ---- sizes
module _ (g : Grid) (size : ℕ) (o : Good g size) where
  abbrev M : ℕ
  M = g.mems

  abbrev R : ℕ
  R = g.rows

  abbrev U : ℕ
  U = g.unit

  -- the columns of a memory, its rows' and all
  pub unit_le : U ≤ R * U
  unit_le = rw one-mul at (mul-le-mul_right U o.rows_pos)

  wide_le : R * U ≤ size
  wide_le =
      let a : 1 * (R * U) ≤ M * (R * U) = mul-le-mul_right (R * U) o.mems_pos in
      omega (arith, o.size_is, mul_left_comm M R U, one-mul (R * U))

  mems_le : M ≤ size
  mems_le =
      let p : 1 ≤ R * U = omega (arith, unit_le, o.unit_pos) in
      let a : M * 1 ≤ M * (R * U) = mul-le-mul_left M p in
      omega (arith, o.size_is, mul_left_comm M R U)

  hop_le : g.hop + U ≡ R * U
  hop_le =
      let e : R ≡ (R - 1) + 1 = omega (arith, o.rows_pos) in
      let f : R * U ≡ ((R - 1) + 1) * U = ap (λ (n : ℕ). n * U) e in
      omega (arith, o.hop_is, add-mul (R - 1) 1 U)

  index_lt : (i : ℕ) → i < size → home M R U i < size
  index_lt i h =
      let e : M * R * U ≡ size = turned M R U ∙ sym o.size_is in
      rw e at (home_lt M R U i (rw e h))

  pub place_fits : (i : ℕ) → i < size → ((i / U % M * R + i / U / M) * U + i % U < size) × (i / U % M * R + i / U / M < size)
  unfolding home flip
  place_fits i h =
      let x = index_lt i h in
      let y : (i / U % M * R + i / U / M) * 1 ≤ (i / U % M * R + i / U / M) * U = mul-le-mul_left (i / U % M * R + i / U / M) o.unit_pos in
      (x, omega arith)

  -- a step
  module _ (i : ℕ) (c : Cursor) (a : At g i c) where
    pub next_at_lem : At g (i + 1) (next_of g c)
    next_at_lem =
        cases_le U (i % U + 1)
        (λ h.
        let e = digit_wrap U i o.unit_pos h in
        cases_le M (i / U % M + 1)
        (λ k.
        let f = digit_wrap M (i / U) o.mems_pos k in
        let w = home_wrapped M R U i o.mems_pos o.rows_pos o.unit_pos h k in
        rw (le-ltb (c.bit + 1) U (omega (arith, a.bit_is)), le-ltb (c.mem + 1) M (omega (arith, a.mem_is)))
        (record { index_is = back a.index_is o.back_is w; bit_is = sym e.1; mem_is = sym (ap (λ (n : ℕ). n % M) e.0 ∙ f.1) }))
        (λ k.
        let f = digit_next M (i / U) o.mems_pos k in
        let w = home_hop M R U i o.mems_pos o.rows_pos o.unit_pos h k in
        rw (le-ltb (c.bit + 1) U (omega (arith, a.bit_is)), lt-ltb (c.mem + 1) M (omega (arith, a.mem_is)))
        (record { index_is = omega (arith, a.index_is, o.hop_is, w); bit_is = sym e.1; mem_is = ap (λ (n : ℕ). n + 1) a.mem_is ∙ sym (ap (λ (n : ℕ). n % M) e.0 ∙ f.1) })))
        (λ h.
        let e = digit_next U i o.unit_pos h in
        let w = home-step M R U i o.mems_pos o.rows_pos o.unit_pos h in
        rw (lt-ltb (c.bit + 1) U (omega (arith, a.bit_is)))
        (record { index_is = omega (arith, a.index_is, w); bit_is = omega (arith, a.bit_is, e.1); mem_is = a.mem_is ∙ ap (λ (n : ℕ). n % M) (sym e.0) }))
      where
        back : {x y b b' z : ℕ} → x ≡ y → b ≡ b' → z + b' ≡ y + 1 → x + 1 - b ≡ z
        back p q r = omega arith

    pub steppable : i < size → Steppable c g
    steppable h =
        let m = o.low in
        let p = mod-lt i o.unit_pos in
        let q = mod-lt (i / U) o.mems_pos in
        let x = index_lt i h in record {
          bit_max = omega (arith, a.bit_is, unit_le, wide_le);
          mem_max = omega (arith, a.mem_is, mems_le);
          index_max = omega (arith, a.index_is);
          hop_max = omega (arith, hop_le, wide_le);
          back_low = λ k l. omega (arith, a.index_is, o.back_is, home_wrapped M R U i o.mems_pos o.rows_pos o.unit_pos (omega (arith, a.bit_is)) (omega (arith, a.mem_is)));
        }

-- ---- the run: what is left from i on gives the whole
module _ {A : Type 0} (g : Grid) where
  abbrev pub left : ℕ → List A → List A → ℕ → List A
  left start l ws i = spill g.mems g.rows g.unit l (start + i) (drop i ws)

  spill_cons : (l : List A) (i : ℕ) (w : A) (ws : List A)
      → spill g.mems g.rows g.unit l i (w ∷ ws) ≡ spill g.mems g.rows g.unit (set l (home g.mems g.rows g.unit i) w) (suc i) ws
  unfolding spill
  spill_cons l i w ws = refl

  pub run_turn : (start n i : ℕ) (l ws : List A) (at : ℕ) (d : A) → n ≤ length ws → i < n → at ≡ home g.mems g.rows g.unit (start + i)
      → left start (set l at (get_or ws i d)) (take n ws) (i + 1) ≡ left start l (take n ws) i
  run_turn start n i l ws at d m h e =
      let x : start + (i + 1) ≡ suc (start + i) = omega arith in
      let y : i < length (take n ws) = omega (arith, length-take-le n ws m) in
      let z : get_or ws i d ∷ drop (suc i) (take n ws) ≡ drop i (take n ws) =
      ap (λ (w : A). w ∷ drop (suc i) (take n ws)) (sym (get_or-take n ws i d h)) ∙ sym (drop-cons (take n ws) i d y) in
      ap (λ (k : ℕ). spill g.mems g.rows g.unit (set l at (get_or ws i d)) k (drop (i + 1) (take n ws))) x
      ∙ ap (λ (k : ℕ). spill g.mems g.rows g.unit (set l at (get_or ws i d)) (suc (start + i)) (drop k (take n ws))) (add-one i)
      ∙ ap (λ (k : ℕ). spill g.mems g.rows g.unit (set l k (get_or ws i d)) (suc (start + i)) (drop (suc i) (take n ws))) e
      ∙ sym (spill_cons l (start + i) (get_or ws i d) (drop (suc i) (take n ws)))
      ∙ ap (spill g.mems g.rows g.unit l (start + i)) z

  -- with the element as it is read
  pub run_stored : (start n i : ℕ) (l ws : List A) (at : ℕ) (x d : A) → x ≡ get_or ws i d → n ≤ length ws → i < n → at ≡ home g.mems g.rows g.unit (start + i)
      → left start (set l at x) (take n ws) (i + 1) ≡ left start l (take n ws) i
  run_stored start n i l ws at x d q m h e = ap (λ (y : A). left start (set l at y) (take n ws) (i + 1)) q ∙ run_turn start n i l ws at d m h e

  pub run_ends : (start n i : ℕ) (l ws : List A) → n ≤ length ws → n ≤ i → left start l (take n ws) i ≡ l
  unfolding spill
  run_ends start n i l ws m h = rw (drop_of_length-le (take n ws) {i = i} (omega (arith, length-take-le n ws m)))

  pub run-whole : (size start n : ℕ) (l ws : List A) → Good g size → n ≡ min (length ws) (size - start)
      → spill g.mems g.rows g.unit l start (take n ws) ≡ spill_fit g.mems g.rows g.unit l start ws
  unfolding spill_fit
  run-whole size start n l ws o e =
      ap (λ (k : ℕ). spill g.mems g.rows g.unit l start (take k ws)) (e ∙ ap (λ (k : ℕ). min (length ws) (k - start)) o.size_is)

  spill_nil : (start : ℕ) (l : List A) → l ≡ spill g.mems g.rows g.unit l start []
  unfolding spill
  spill_nil start l = refl

  -- none fit
  pub run_none : (size start : ℕ) (l ws : List A) → Good g size → 0 ≡ min (length ws) (size - start) → l ≡ spill_fit g.mems g.rows g.unit l start ws
  run_none size start l ws o e = spill_nil start l ∙ run-whole size start 0 l ws o e
