-- Each row of each piece stands within the columns of the new rows.
use mathlib.Core.Path.{◌≡◌, refl, sym, ap, ◌∙◌, subst}
use Prim.Native.Nat.{ℕ, zero, suc, ◌+◌, ◌-◌, ◌*◌, ◌/◌, ◌%◌, ◌^◌, ◌≤◌, ◌<◌}
use native.Mathlib.Nat.{zero-add, suc-add, mul_assoc, mul_comm, suc-mul, pow-succ', le_trans, mul-le-mul_right, mul-le-mul_left, div-div-eq-div-mul, pow-le-pow_right, lt-div-mul-add}
use native.Mathlib.Omega.{arith}
use mathlib.Core.List.{List, [], ◌∷◌, ◌++◌, append_assoc}
use lib.ListN.{length, replicate, length-append, length-replicate}
use mathlib.Core.Bool.{Bool, true, false}
use Rattle.lists.specs.Choice.{when◌then◌else◌}
use Rattle.swizzle_laws.specs.Masks.{rows_mask}
use Rattle.swizzle_laws.proofs.Masking.{rows_append, rows_high, rows_below, spot_walk}
use Rattle.swizzle_laws.proofs.ReadCounts.{bits_enough}
use lib.Pow.{pow-add}
use Rattle.rules.specs.Limits.{addr_bits}
use Rattle.rules.specs.Numbers.{softs, ceil_div, bits_for}
use Rattle.rules.specs.Value.{Value}
use Rattle.rules.specs.Geometry.{Layout, walk, soft_bits, soft, row_len_of, all_chunks, all_mems, columns}
use Rattle.rules.specs.Swizzle.{Role, High, is_row, Split, roles, low_roles, mux_roles, spot_by, count_doubles, split_by, split_addr, piece_start}
use Rattle.rules.proofs.Walks.{softs_le}
use Rattle.swizzle_laws.proofs.Within.{softs_of, soft-roles, Inside, mux_within, low_within}

-- ---- soft bits of a mask, in two parts
softs_zero : (m : ℕ) → softs 0 m ≡ 0
unfolding softs
softs_zero m = refl

softs_suc : (n m : ℕ) → softs (suc n) m ≡ m % 2 + softs n (m / 2)
unfolding softs
softs_suc n m = refl

pub softs_add : (a b m : ℕ) → softs (a + b) m ≡ softs a m + softs b (m / 2 ^ a)
softs_add zero b m =
    let e : m / 2 ^ 0 ≡ m = omega arith in
    ap (λ (n : ℕ). softs n m) (zero-add b) ∙ omega (arith, softs_zero m, ap (softs b) e)
softs_add (suc a) b m =
    ap (λ (n : ℕ). softs n m) (suc-add a b) ∙ softs_suc (a + b) m ∙ ap (λ (n : ℕ). m % 2 + n) (softs_add a b (m / 2))
    ∙ omega (arith, softs_suc a m, ap (softs b) (div-div-eq-div-mul m 2 (2 ^ a) ∙ ap (λ (n : ℕ). m / n) (sym (pow-succ' 2 a))))

pub softs_mono : (a c m : ℕ) → a ≤ c → softs a m ≤ softs c m
softs_mono a c m h =
    let e : c ≡ a + (c - a) = omega arith in
    omega (arith, ap (λ (n : ℕ). softs n m) e ∙ softs_add a (c - a) m)

-- ---- columns hold every chunk
pub ceil_holds : (n u : ℕ) → 0 < u → n ≤ ceil_div n u * u
unfolding ceil_div
ceil_holds n u h = bound n u (lt-div-mul-add {a = n + (u - 1)} {b = u} h) h
  where
    bound : (n u : ℕ) → n + (u - 1) < (n + (u - 1)) / u * u + u → 0 < u → n ≤ (n + (u - 1)) / u * u
    bound n u g k = omega arith

columns_hold : (q : Layout) → 0 < q.unit → row_len_of q * 2 ^ soft q * all_chunks q ≤ columns q
unfolding columns all_mems
columns_hold q h = ceil_holds (row_len_of q * 2 ^ soft q * all_chunks q) q.unit h

-- ---- the plan's numbers of a port
-- the new rows take the non-soft bits under the old wide log, the address fits, and there is a unit
pub record Splittable (q : Layout) (old new : ℕ) (addr : Value) : Type 0 where
  pub enough : old - softs old q.soft_mask ≤ new
  pub short : old + length addr ≤ addr_bits
  pub unit : 0 < q.unit

module _ (q : Layout) (old new : ℕ) (addr : Value) (ok : Splittable q old new addr) where
  abbrev mask : ℕ
  mask = q.soft_mask

  abbrev wide : ℕ
  wide = new - (old - softs old mask)

  abbrev rs : List Role
  rs = roles (mask / 2 ^ old) wide (q.hard - new) addr

  abbrev s : Split
  s = split_addr q old new addr

  soft_sum : softs_of rs + softs old mask ≤ soft q
  unfolding soft soft_bits
  soft_sum = omega (arith, soft-roles addr (mask / 2 ^ old) wide (q.hard - new), softs_add old (length addr) mask, softs_mono (old + length addr) addr_bits mask ok.short)

  pieces_are : s.pieces ≡ all_chunks q * 2 ^ count_doubles rs
  unfolding split_addr split_by
  pieces_are = refl

  roles_are : s.piece_roles ≡ low_roles old mask ++ (mux_roles rs ++ replicate (bits_for s.pieces) High)
  unfolding split_addr split_by
  roles_are = append_assoc (low_roles old mask) (mux_roles rs) _

  number_low : (x j : ℕ) → x < s.pieces → j < 2 ^ old → j + 2 ^ old * x < 2 ^ old * s.pieces
  number_low x j h g = low (2 ^ old * x) (2 ^ old) (2 ^ old * s.pieces) (subst (λ (n : ℕ). n ≤ 2 ^ old * s.pieces) (mul_comm (2 ^ old) (suc x) ∙ suc-mul x (2 ^ old) ∙ ap (λ (n : ℕ). n + 2 ^ old) (mul_comm x (2 ^ old))) (mul-le-mul_left (2 ^ old) h)) g
    where
      low : (a b c : ℕ) → a + b ≤ c → j < b → j + a < c
      low a b c p q = omega arith

  powers : (c a b n : ℕ) → a + b ≤ n → c * 2 ^ a * 2 ^ b ≤ c * 2 ^ n
  powers c a b n h = subst (λ (m : ℕ). m ≤ c * 2 ^ n) (sym (mul_assoc c (2 ^ a) (2 ^ b) ∙ ap (λ (m : ℕ). c * m) (sym (pow-add 2 a b)))) (mul-le-mul_left c (pow-le-pow_right (omega arith) h))

  spot_within : (x j : ℕ) → x < s.pieces → j < 2 ^ old → Inside (all_chunks q * 2 ^ soft q) (2 ^ new) (spot_by s.piece_roles (j + 2 ^ old * x))
  spot_within x j h g =
      let i = low_within (mux_roles rs ++ replicate (bits_for s.pieces) High) s.pieces (all_chunks q * 2 ^ softs_of rs) (2 ^ wide)
      (λ z k. mux_within addr (mask / 2 ^ old) wide (q.hard - new) (bits_for s.pieces) (all_chunks q) z (rw (← pieces_are) k))
      old mask (softs old mask) (old - softs old mask) (j + 2 ^ old * x) refl (omega (arith, softs_le old mask)) (number_low x j h g) in
      rw roles_are (record {
        in_chunk = below i.in_chunk (powers (all_chunks q) (softs_of rs) (softs old mask) (soft q) soft_sum);
        in_row = below i.in_row (rows_bound ok.enough);
      })
    where
      below : {a b c : ℕ} → a < b → b ≤ c → a < c
      below p q = omega arith

      sum : old - softs old mask ≤ new → wide + (old - softs old mask) ≤ new
      sum k = omega arith

      rows_bound : old - softs old mask ≤ new → 2 ^ wide * 2 ^ (old - softs old mask) ≤ 2 ^ new
      rows_bound k = subst (λ (m : ℕ). m ≤ 2 ^ new) (pow-add 2 wide (old - softs old mask)) (pow-le-pow_right (omega arith) (sum k))

  old_is : s.old ≡ old
  unfolding split_addr split_by
  old_is = refl

  -- a row of a piece ends before the columns of the new rows do
  pub piece_within : (x j : ℕ) → x < s.pieces → j < 2 ^ old → piece_start q s x j + row_len_of q ≤ 2 ^ new * columns q
  unfolding piece_start
  piece_within x j h g =
      rw old_is
      (let i = spot_within x j h g in
      let p = spot_by s.piece_roles (j + 2 ^ old * x) in
      let c = le_trans (subst (λ (n : ℕ). suc p.chunk * row_len_of q ≤ n) (mul_comm (all_chunks q * 2 ^ soft q) (row_len_of q) ∙ swap (row_len_of q) (all_chunks q) (2 ^ soft q)) (mul-le-mul_right (row_len_of q) i.in_chunk)) (columns_hold q ok.unit) in
      let r = mul-le-mul_right (columns q) i.in_row in
      ends (p.row * columns q) (p.chunk * row_len_of q) (row_len_of q) (columns q) (2 ^ new * columns q) (subst (λ (n : ℕ). n ≤ columns q) (suc-mul p.chunk (row_len_of q)) c) (subst (λ (n : ℕ). n ≤ 2 ^ new * columns q) (suc-mul p.row (columns q)) r))
    where
      swap : (l a b : ℕ) → l * (a * b) ≡ l * b * a
      swap l a b = ap (λ (n : ℕ). l * n) (mul_comm a b) ∙ sym (mul_assoc l b a)

      ends : (a b l c n : ℕ) → b + l ≤ c → a + c ≤ n → a + b + l ≤ n
      ends a b l c n f g = omega arith

-- ---- the spot of a piece by a mask of its number's bits
pub length_low : (k m : ℕ) → length (low_roles k m) ≡ k
unfolding low_roles
length_low zero m = refl
length_low (suc k) m = ap suc (length_low k (m / 2))

length_mux : (rs : List Role) → length (mux_roles rs) ≤ length rs
unfolding mux_roles
length_mux [] = omega arith
length_mux (r ∷ rs) = on (is_row r) (length_mux rs)
  where
    on : (b : Bool) → length (mux_roles rs) ≤ length rs → length (when b then mux_roles rs else r ∷ mux_roles rs) ≤ suc (length rs)
    on true h = omega arith
    on false h = omega arith

pub length_roles : (addr : Value) (m w r : ℕ) → length (roles m w r addr) ≡ length addr
unfolding roles
length_roles [] m w r = refl
length_roles (a ∷ more) m w r = ap suc (length_roles more _ _ _)

module _ (q : Layout) (old new : ℕ) (addr : Value) (ok : Splittable q old new addr) where
  abbrev low : List Role
  low = low_roles old q.soft_mask

  abbrev mux : List Role
  mux = mux_roles (roles (q.soft_mask / 2 ^ old) (new - (old - softs old q.soft_mask)) (q.hard - new) addr)

  abbrev split : Split
  split = split_addr q old new addr

  -- the bits that select a row of a wide port
  abbrev pub row_bits : ℕ
  row_bits = rows_mask low + 2 ^ old * rows_mask mux

  row_bits_lem : rows_mask split.piece_roles ≡ row_bits
  row_bits_lem =
      ap rows_mask (roles_are q old new addr ok) ∙ rows_append low _ ∙ ap (λ (n : ℕ). rows_mask low + 2 ^ n * rows_mask (mux ++ replicate (bits_for split.pieces) High)) (length_low old q.soft_mask)
      ∙ ap (λ (n : ℕ). rows_mask low + 2 ^ old * n) (rows_append mux _ ∙ ap (λ (n : ℕ). rows_mask mux + 2 ^ length mux * n) (rows_high (bits_for split.pieces)) ∙ none (rows_mask mux) (2 ^ length mux))
    where
      none : (a b : ℕ) → a + b * 0 ≡ a
      none a b = omega arith

  short_mux : old + length mux ≤ addr_bits
  short_mux = omega (arith, length_mux (roles (q.soft_mask / 2 ^ old) (new - (old - softs old q.soft_mask)) (q.hard - new) addr), length_roles addr (q.soft_mask / 2 ^ old) (new - (old - softs old q.soft_mask)) (q.hard - new), ok.short)

  pub row_bits_low : row_bits < 2 ^ addr_bits
  row_bits_low =
      let e : rows_mask (low ++ mux) ≡ row_bits = rows_append low mux ∙ ap (λ (n : ℕ). rows_mask low + 2 ^ n * rows_mask mux) (length_low old q.soft_mask) in
      let h = rows_below (low ++ mux) in
      let n : length (low ++ mux) ≤ addr_bits = omega (arith, length-append low mux, length_low old q.soft_mask, short_mux) in
      below (subst (λ (m : ℕ). m < 2 ^ length (low ++ mux)) e h) (pow-le-pow_right (omega arith) n)
    where
      below : {a b c : ℕ} → a < b → b ≤ c → a < c
      below p q = omega arith

  length_pieces : length split.piece_roles ≡ old + (length mux + bits_for split.pieces)
  length_pieces =
      ap length (roles_are q old new addr ok) ∙ length-append low _
      ∙ omega (arith, length_low old q.soft_mask, length-append mux (replicate (bits_for split.pieces) High), length-replicate (bits_for split.pieces) High)

  number_fits : (y : ℕ) → split.pieces ≤ 2 ^ addr_bits → y < 2 ^ old * split.pieces → y < 2 ^ length split.piece_roles
  number_fits y h g =
      below g (le_trans (mul-le-mul_left (2 ^ old) (bits_enough split.pieces h))
      (subst (λ (n : ℕ). n ≤ 2 ^ length split.piece_roles) (pow-add 2 old (bits_for split.pieces)) (pow-le-pow_right (omega arith) (omega (arith, length_pieces)))))
    where
      below : {a b c : ℕ} → a < b → b ≤ c → a < c
      below p q = omega arith

  pub piece_walk : (x j : ℕ) → 2 ^ old * split.pieces ≤ 2 ^ addr_bits → split.pieces ≤ 2 ^ addr_bits → x < split.pieces → j < 2 ^ old
      → spot_by split.piece_roles (j + 2 ^ old * x) ≡ walk addr_bits (2 ^ addr_bits - 1 - row_bits) addr_bits (j + 2 ^ old * x)
  piece_walk x j f f' h g =
      let y = j + 2 ^ old * x in
      let l = number_low q old new addr ok x j h g in
      spot_walk split.piece_roles addr_bits addr_bits y (number_fits y f' l) (below l f) (omega arith) (rw row_bits_lem row_bits_low)
      ∙ ap (λ (m : ℕ). walk addr_bits (2 ^ addr_bits - 1 - m) addr_bits y) row_bits_lem
    where
      below : {a b c : ℕ} → a < b → b ≤ c → a < c
      below p q = omega arith
