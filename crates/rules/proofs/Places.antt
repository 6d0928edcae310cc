-- Places: two entries of rows of one memory never share one, and each lies inside the image.
use Prim.Native.Nat.{ℕ, suc, ◌+◌, ◌-◌, ◌*◌, ◌/◌, ◌%◌, ◌^◌, ◌≤◌, ◌<◌}
use mathlib.Core.Path.{◌≡◌, refl, sym, ap, ◌∙◌, subst}
use mathlib.Core.Logic.{◌⊎◌, inl, inr, ⊎_elim}
use native.Mathlib.Omega.{arith}
use native.Mathlib.Nat.{div-mul-le_self, mul_comm, eq-zero-or-pos, mod-lt, min-eq_left, min-eq_right, mul-le-mul_right, mul-le-mul_left, add-le-add, div-add-mod', le-div_iff_mul-le, suc-mul, lt_of_lt_of_le, mul_assoc}
use lib.Arith.{digits_lt, digits_div, digits_mod}
use borrow.Author.Tests.{lt-ltb, le-ltb, eq-eqb, ne_eqb}
use Rattle.rules.specs.Numbers.{ceil_div, top_bits}
use Rattle.rules.specs.Geometry.{Layout, soft_bits, soft, row_len_of, full_depth_of, full_chunks, part_depth_of, all_chunks, full_mems, all_mems}
use Rattle.rules.specs.Image.{flat_at, spot_of, column, place_of, depth_at, rows_before, flat, index_of}
use Rattle.rules.proofs.Walks.{In, inside, walk_inj, lt_or_le}

-- ---- the rows of the memories before one
module _ (full H P : ℕ) where
  pub before_suc : (m : ℕ) → rows_before full H P (suc m) ≡ rows_before full H P m + depth_at full H P m
  unfolding rows_before depth_at
  before_suc m = ⊎_elim
      (λ l. rw (lt-ltb m full l, min-eq_left {n = suc m} {m = full} l, min-eq_left {n = m} {m = full} (omega arith))
      (let e : suc m - full ≡ 0 = omega arith in let f : m - full ≡ 0 = omega arith in rw (e, f) (omega (arith, suc-mul m H))))
      (λ l. rw (le-ltb m full l, min-eq_right {n = full} {m = suc m} (omega arith), min-eq_right {n = full} {m = m} (omega arith))
      (let e : suc m - full ≡ suc (m - full) = omega arith in rw e (omega (arith, suc-mul (m - full) P))))
      (lt_or_le m full)

  pub before_mono : (m m' : ℕ) → m ≤ m' → rows_before full H P m ≤ rows_before full H P m'
  unfolding rows_before
  before_mono m m' l = add-le-add (mul-le-mul_right H (omega arith)) (mul-le-mul_right P (omega arith))

  before_inj : (m m' r r' : ℕ) → r < depth_at full H P m → r' < depth_at full H P m'
      → rows_before full H P m + r ≡ rows_before full H P m' + r' → (m ≡ m') × (r ≡ r')
  before_inj m m' r r' l l' e =
      let c : (m < m' → ⊥) = λ k. omega (arith, before_suc m, before_mono (suc m) m' k) in
      let c' : (m' < m → ⊥) = λ k. omega (arith, before_suc m', before_mono (suc m') m k) in
      let q : m ≡ m' = omega arith in
      (q, omega (arith, ap (rows_before full H P) q))

-- ---- a column inside the first memories, and one inside all
ceil_gt : (a b c : ℕ) → 0 < b → c < a → c / b < ceil_div a b
unfolding ceil_div
ceil_gt a b c pos l = (le-div_iff_mul-le pos).1 (omega (arith, suc-mul (c / b) b, div-add-mod' c b))

pub ceil_mono : (a a' b : ℕ) → 0 < b → a ≤ a' → ceil_div a b ≤ ceil_div a' b
unfolding ceil_div
ceil_mono a a' b pos l = (le-div_iff_mul-le pos).1 (omega (arith, div-mul-le_self (a + (b - 1)) b))

pos_of : {a b : ℕ} → a < b → 0 < b
pos_of l = omega arith

under_next : (a r : ℕ) {d b c : ℕ} → r < d → b ≡ a + d → b ≤ c → a + r < c
under_next a r l e k = omega arith

-- row r is below the depth of memory m
deep : (full H P m r : ℕ) → r < H → (m < full) ⊎ (r < P) → r < depth_at full H P m
unfolding depth_at
deep full H P m r l k = ⊎_elim
    (λ a. rw (lt-ltb m full a) l)
    (λ a. rw (le-ltb m full a) (⊎_elim (λ b. absurd (omega arith)) (λ b. b) k))
    (lt_or_le m full)

-- the full memories are some of all
pub full_all : (q : Layout) → 0 < q.unit → full_mems q ≤ all_mems q
unfolding all_mems all_chunks full_mems
full_all q pos = ⊎_elim
    (λ e. rw (eq-eqb (part_depth_of q) 0 e) (omega arith))
    (λ l. rw (ne_eqb (part_depth_of q) 0 (λ e. omega arith)) (ceil_mono _ _ q.unit pos (mul-le-mul_left (row_len_of q * 2 ^ soft q) (omega arith))))
    (eq-zero-or-pos (part_depth_of q))

-- what the sizes of a swizzle that is accepted give
pub record Sized (q : Layout) : Type 0 where
  pub unit_pos : 0 < q.unit
  pub mask_fits : q.soft_mask < 2 ^ 32
  pub depth_fits : q.depth ≤ 2 ^ 32
  pub aligned : q.depth % 2 ^ top_bits 32 q.soft_mask ≡ 0

module _ (q : Layout) (z : Sized q) where
  spot_in : (r : ℕ) → r < q.depth → In (2 ^ soft q) (full_chunks q) (part_depth_of q) (full_depth_of q) (spot_of q r)
  unfolding soft soft_bits full_chunks part_depth_of full_depth_of spot_of
  spot_in r l = inside 32 q.soft_mask q.hard r q.depth z.mask_fits l z.depth_fits z.aligned

  turned : (F : ℕ) → 2 ^ soft q * F * row_len_of q ≡ row_len_of q * 2 ^ soft q * F
  turned F = mul_comm (2 ^ soft q * F) (row_len_of q) ∙ sym (mul_assoc (row_len_of q) (2 ^ soft q) F)

  full_is : full_mems q ≡ ceil_div (row_len_of q * 2 ^ soft q * full_chunks q) q.unit
  unfolding full_mems
  full_is = refl

  all_is : 0 < part_depth_of q → all_mems q ≡ ceil_div (row_len_of q * 2 ^ soft q * (full_chunks q + 1)) q.unit
  unfolding all_mems all_chunks
  all_is l = rw (ne_eqb (part_depth_of q) 0 (λ e. omega arith))

  pub all_full : full_mems q ≤ all_mems q
  all_full = full_all q z.unit_pos

  -- the row number in a memory is below that memory's depth, and the memory is one of all
  pub placed : (r i : ℕ) → r < q.depth → i < row_len_of q
      → ((place_of q r i).row < depth_at (full_mems q) (full_depth_of q) (part_depth_of q) (place_of q r i).memory) × ((place_of q r i).memory < all_mems q)
  unfolding place_of column
  placed r i l k =
      let p = spot_in r l in
      let u = q.unit in
      let col = (spot_of q r).chunk * row_len_of q + i in
      ⊎_elim
      (λ c.
      let m : col / u < full_mems q = subst (λ (x : ℕ). col / u < x) (sym full_is) (ceil_gt _ u col z.unit_pos
      (subst (λ (x : ℕ). col < x) (turned (full_chunks q)) (digits_lt c k))) in
      (deep _ _ _ _ _ p.low (inl m), lt_of_lt_of_le m all_full))
      (λ c. (
        deep _ _ _ _ _ p.low (inr c.1),
        subst (λ (x : ℕ). col / u < x) (sym (all_is (pos_of c.1))) (ceil_gt _ u col z.unit_pos
            (subst (λ (x : ℕ). col < x) (turned (full_chunks q + 1)) (digits_lt c.0 k))),
      ))
      p.inner

  -- no two entries share a place
  pub index_inj : (r r' i i' : ℕ) → r < q.depth → r' < q.depth → i < row_len_of q → i' < row_len_of q → index_of q r i ≡ index_of q r' i' → (r ≡ r') × (i ≡ i')
  unfolding index_of flat flat_at place_of column spot_of
  index_inj r r' i i' l l' k k' e =
      let u = q.unit in
      let p = place_of q r i in
      let p' = place_of q r' i' in
      let B = rows_before (full_mems q) (full_depth_of q) (part_depth_of q) in
      let bl : p.bit < u = mod-lt _ z.unit_pos in
      let bl' : p'.bit < u = mod-lt _ z.unit_pos in
      let eb : p.bit ≡ p'.bit = sym (digits_mod (B p.memory + p.row) bl) ∙ ap (λ (x : ℕ). x % u) e ∙ digits_mod (B p'.memory + p'.row) bl' in
      let er : B p.memory + p.row ≡ B p'.memory + p'.row =
      sym (digits_div (B p.memory + p.row) bl) ∙ ap (λ (x : ℕ). x / u) e ∙ digits_div (B p'.memory + p'.row) bl' in
      let em = before_inj (full_mems q) (full_depth_of q) (part_depth_of q) p.memory p'.memory p.row p'.row (placed r i l k).0 (placed r' i' l' k').0 er in
      let c = (spot_of q r).chunk in
      let c' = (spot_of q r').chunk in
      let ec : c * row_len_of q + i ≡ c' * row_len_of q + i' =
      sym (div-add-mod' _ u) ∙ ap (λ (x : ℕ). x * u + p.bit) em.0 ∙ ap (λ (x : ℕ). p'.memory * u + x) eb ∙ div-add-mod' _ u in
      let ei : i ≡ i' = sym (digits_mod c k) ∙ ap (λ (x : ℕ). x % row_len_of q) ec ∙ digits_mod c' k' in
      let eh : c ≡ c' = sym (digits_div c k) ∙ ap (λ (x : ℕ). x / row_len_of q) ec ∙ digits_div c' k' in
      (walk_inj 32 q.soft_mask q.hard r r' (lt_of_lt_of_le l z.depth_fits) (lt_of_lt_of_le l' z.depth_fits) (λ j. record { chunk = eh j; row = em.1 j }), ei)

  pub index_in : (r i : ℕ) → r < q.depth → i < row_len_of q → index_of q r i < rows_before (full_mems q) (full_depth_of q) (part_depth_of q) (all_mems q) * q.unit
  unfolding index_of flat flat_at place_of
  index_in r i l k =
      let p = placed r i l k in
      let m = (place_of q r i).memory in
      digits_lt (under_next _ _ p.0 (before_suc (full_mems q) (full_depth_of q) (part_depth_of q) m) (before_mono (full_mems q) (full_depth_of q) (part_depth_of q) (suc m) (all_mems q) p.1))
      (mod-lt _ z.unit_pos)

-- ---- for the code
pub before_low : (full H P m : ℕ) → m < full → rows_before full H P m ≡ m * H
unfolding rows_before
before_low full H P m l =
    let e : m - full ≡ 0 = omega arith in
    rw (min-eq_left {n = m} {m = full} (omega arith), e) (omega arith)

pub before_high : (full H P m : ℕ) → full ≤ m → rows_before full H P m ≡ full * H + (m - full) * P
unfolding rows_before
before_high full H P m l = rw (min-eq_right {n = full} {m = m} l)
