-- The split of a port that passes: how long its addresses are, and how many pieces there are.
use mathlib.Core.Path.{◌≡◌, refl, sym, subst}
use Prim.Native.Nat.{ℕ, suc, ◌+◌, ◌-◌, ◌*◌, ◌/◌, ◌%◌, ◌^◌, ◌≤◌, ◌<◌}
use native.Mathlib.Nat.{le_trans, mul-le-mul, pow-le-pow_right}
use native.Mathlib.Omega.{arith}
use lib.Pow.{pow_pos}
use mathlib.Core.Bool.{Bool, true, false}
use mathlib.Core.List.{List, [], ◌∷◌}
use lib.ListN.{length, replicate, length-append, length-replicate}
use lib.Dec.{eqb, ltb}
use borrow.Author.Tests.{ltb-true, le-leb}
use Rattle.lists.specs.Choice.{when◌then◌else◌}
use Rattle.rules.specs.Limits.{addr_bits, max_columns}
use Rattle.rules.specs.Numbers.{softs, bits_for}
use Rattle.rules.specs.Value.{Value, zext}
use Rattle.rules.specs.Geometry.{Layout, row_len_of, soft, all_chunks, columns}
use Rattle.rules.specs.Swizzle.{Role, Soft, Wide, Row, High, role_of, is_row, wide_after, rows_after, roles, row_nets, mux_nets, count_doubles, Split, split_by, split_addr}
use Rattle.rules.proofs.Walks.{tops_le}
use Rattle.swizzle_laws.proofs.ReadCounts.{split_enough}
use Rattle.swizzle_split.specs.Steps.{Fits, can_split}
use Rattle.swizzle_split.proofs.Splitting.{pieces_low}
use Rattle.swizzle_facts.specs.Passed.{LayoutPassed, PortPassed, SplitPassed}
use Rattle.swizzle_facts.proofs.Layouts.{product_some}
use Rattle.swizzle_laws.proofs.Within.{roles_cons}

-- ---- the result's address has no more bits than there are rows for
row_role : (mask wide rows : ℕ) → role_of mask wide rows ≡ Row → 0 < rows
unfolding role_of
row_role mask wide rows e = on (eqb (mask % 2) 1) (ltb 0 wide) (ltb 0 rows) refl e
  where
    on : (a b c : Bool) → ltb 0 rows ≡ c → (when a then Soft else when b then Wide else when c then Row else High) ≡ Row → 0 < rows
    on true b c q f = let z : ◌≡◌ {A = ℕ} 0 1 = cc in absurd (omega arith)
    on false true c q f = let z : ◌≡◌ {A = ℕ} 0 1 = cc in absurd (omega arith)
    on false false true q f = ltb-true 0 rows q
    on false false false q f = let z : ◌≡◌ {A = ℕ} 0 1 = cc in absurd (omega arith)

row_step : (r : Role) (mask wide rows a : ℕ) (more : Value) (rs : List Role) → role_of mask wide rows ≡ r → length (row_nets rs more) ≤ rows_after r rows → length (row_nets (r ∷ rs) (a ∷ more)) ≤ rows
unfolding row_nets is_row rows_after
row_step Soft mask wide rows a more rs e h = h
row_step Wide mask wide rows a more rs e h = h
row_step Row mask wide rows a more rs e h = omega (arith, row_role mask wide rows e)
row_step High mask wide rows a more rs e h = h

row_none : (mask wide rows : ℕ) → length (row_nets (roles mask wide rows []) []) ≤ rows
unfolding roles row_nets
row_none mask wide rows = omega arith

rows_le : (addr : Value) (mask wide rows : ℕ) → length (row_nets (roles mask wide rows addr) addr) ≤ rows
rows_le [] mask wide rows = row_none mask wide rows
rows_le (a ∷ more) mask wide rows =
    let r = role_of mask wide rows in
    rw (roles_cons mask wide rows a more) (row_step r mask wide rows a more _ refl (rows_le more (mask / 2) (wide_after r wide) (rows_after r rows)))

-- the mux address has no more bits than the address
mux_le : (rs : List Role) (v : Value) → length (mux_nets rs v) ≤ length v
unfolding mux_nets
mux_le [] v = omega arith
mux_le (r ∷ rs) [] = omega arith
mux_le (r ∷ rs) (a ∷ more) = on (is_row r) (mux_le rs more)
  where
    on : (b : Bool) → length (mux_nets rs more) ≤ length more → length (when b then mux_nets rs more else a ∷ mux_nets rs more) ≤ suc (length more)
    on true h = omega arith
    on false h = omega arith

length_zext : (v : Value) (n : ℕ) → length (zext v n) ≡ length v + (n - length v)
unfolding zext
length_zext v n = omega (arith, length-append v (replicate (n - length v) 0), length-replicate {A = ℕ} (n - length v) 0)

bits_max : (n : ℕ) → bits_for n ≤ addr_bits
unfolding bits_for
bits_max n = tops_le addr_bits (n - 1)

wide_power : (k : ℕ) → k ≤ 4 → 2 ^ k ≤ 16
wide_power k h = pow-le-pow_right {n = 2} (omega arith) {i = k} {j = 4} h

module _ (q : Layout) (old new : ℕ) (addr : Value) (size : ℕ) (l : LayoutPassed q) (p : PortPassed q old new addr size) where
  abbrev rs : List Role
  rs = roles (q.soft_mask / 2 ^ old) (new - (old - softs old q.soft_mask)) (q.hard - new) addr

  abbrev s : Split
  s = split_addr q old new addr

  -- what the split of an address asks
  pub split_fits : Fits q old new (length addr)
  split_fits = record {
    old_max = p.old_max;
    new_max = p.new_max;
    new_hard = p.new_hard;
    hard_max = omega (arith, l.small.hard_max);
    enough = p.enough;
    short = p.short;
    few = l.chunks_max;
  }

  pub split_can : can_split q old new (length addr) ≡ true
  unfolding can_split
  split_can =
      rw (le-leb old 4 p.old_max, le-leb new 4 p.new_max, le-leb new q.hard p.new_hard, le-leb q.hard 32 split_fits.hard_max, le-leb (old - softs old q.soft_mask) new p.enough)
      (rw (le-leb (old + length addr) addr_bits p.short, le-leb (all_chunks q * 2 ^ soft q) max_columns l.chunks_max))

  pieces_are : s.pieces ≡ all_chunks q * 2 ^ count_doubles rs
  unfolding split_addr split_by
  pieces_are = refl

  piece_max : s.pieces ≤ 524288
  piece_max = subst (λ (n : ℕ). n ≤ 524288) (sym pieces_are) (pieces_low q old new addr split_fits)

  piece_some : 0 < s.pieces
  piece_some = subst (λ (n : ℕ). 0 < n) (sym pieces_are) (product_some (all_chunks q) (2 ^ count_doubles rs) l.chunks_some (pow_pos (count_doubles rs)))

  piece_few : s.pieces ≤ 2 ^ length s.mux_addr
  unfolding split_addr
  piece_few = split_enough rs q old new addr (le_trans piece_max (omega arith))

  address_len : length s.addr ≡ q.hard - new
  unfolding split_addr split_by
  address_len = omega (arith, length_zext (row_nets rs addr) (q.hard - new), rows_le addr (q.soft_mask / 2 ^ old) (new - (old - softs old q.soft_mask)) (q.hard - new))

  mux_len : length s.mux_addr ≡ length (mux_nets rs addr) + (bits_for s.pieces - length (mux_nets rs addr))
  unfolding split_addr split_by
  mux_len = length_zext (mux_nets rs addr) (bits_for (all_chunks q * 2 ^ count_doubles rs))

  mux_short : length s.mux_addr ≤ addr_bits
  mux_short = omega (arith, mux_len, mux_le rs addr, bits_max s.pieces, p.short)

  old_same : s.old ≡ old
  unfolding split_addr split_by
  old_same = refl

  new_same : s.new ≡ new
  unfolding split_addr split_by
  new_same = refl

  bits_low : 2 ^ old * q.width ≤ 2048
  bits_low = mul-le-mul {n₁ = 2 ^ old} {m₁ = q.width} {n₂ = 16} {m₂ = 128} (wide_power old p.old_max) l.small.width_max

  pub split_passed : SplitPassed q old new s
  split_passed = record {
    old_is = old_same;
    new_is = new_same;
    addr_len = address_len;
    mux_max = mux_short;
    pieces_some = piece_some;
    pieces_max = piece_max;
    pieces_few = piece_few;
    numbers_max = mul-le-mul {n₁ = 2 ^ old} {m₁ = s.pieces} {n₂ = 16} {m₂ = 524288} (wide_power old p.old_max) piece_max;
    size_max = bits_low;
    nets_max = mul-le-mul {n₁ = s.pieces} {m₁ = 2 ^ old * q.width} {n₂ = 524288} {m₂ = 2048} piece_max bits_low;
    entries_max = mul-le-mul {n₁ = 2 ^ old} {m₁ = row_len_of q} {n₂ = 16} {m₂ = 256} (wide_power old p.old_max) l.small.len_max;
    wide_max = wide_power new p.new_max;
    columns_max = mul-le-mul {n₁ = 2 ^ new} {m₁ = columns q} {n₂ = 16} {m₂ = 32768} (wide_power new p.new_max) l.columns_max;
  }
