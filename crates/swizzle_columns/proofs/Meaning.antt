-- A port with the numbers of a split is the port of the rules: the starts of its pieces, and a read port's trits in the order of the memories.
use mathlib.Core.Path.{◌≡◌, refl, sym, ap, ◌∙◌}
use Prim.Native.Nat.{ℕ, ◌+◌, ◌-◌, ◌*◌, ◌^◌, ◌<◌, ◌≤◌}
use native.Mathlib.Omega.{arith}
use mathlib.Core.List.{List}
use lib.ListN.{length}
use Rattle.rules.specs.Limits.{addr_bits, trit_x}
use Rattle.rules.specs.Value.{Value}
use Rattle.rules.specs.Geometry.{Layout, walk, row_len_of, all_mems, columns}
use Rattle.rules.specs.Swizzle.{Split, spot_by, split_addr, split_by, piece_start, const_columns}
use Rattle.swizzle_laws.specs.Order.{ordered}
use Rattle.swizzle_laws.proofs.Loading.{row_length}
use Rattle.swizzle_laws.proofs.Places.{Splittable, row_bits, piece_walk}
use Rattle.swizzle_columns.specs.declared.WidePort.{WidePort}
use Rattle.swizzle_columns.specs.Rows.{start_of}
use Rattle.swizzle_columns.specs.Matches.{Laid}
use Rattle.swizzle_columns.specs.Wide.{PortFits, grid_of, port_trits, trits_of}
use Rattle.swizzle_columns.proofs.Fits.{grid_good, fits_tested, columns_can}
use Rattle.swizzle_columns.proofs.Trits.{laid_trits}
use Rattle.swizzle_columns.proofs.Walks.{start_is}

-- what a port's numbers are
pub record Means (q : Layout) (old new : ℕ) (addr : Value) (ok : Splittable q old new addr) (p : WidePort) : Type 0 where
  pub mems_are : p.mems ≡ all_mems q
  pub unit_is : p.unit ≡ q.unit
  pub rows_are : p.rows ≡ 2 ^ new
  pub olds_are : p.olds ≡ 2 ^ old
  pub width_is : p.width ≡ q.width
  pub chunks_are : p.chunks ≡ 2 ^ addr_bits - 1 - row_bits q old new addr ok
  pub pieces_are : p.pieces ≡ (split_addr q old new addr).pieces
  pub few : 2 ^ old * (split_addr q old new addr).pieces ≤ 2 ^ addr_bits
  pub fewer : (split_addr q old new addr).pieces ≤ 2 ^ addr_bits

module _ (q : Layout) (old new : ℕ) (addr : Value) (ok : Splittable q old new addr) (p : WidePort) (m : Means q old new addr ok p) where
  abbrev s : Split
  s = split_addr q old new addr

  pub old_is : s.old ≡ old
  unfolding split_addr split_by
  old_is = refl

  pub new_is : s.new ≡ new
  unfolding split_addr split_by
  new_is = refl

  pub columns_are : p.mems * p.unit ≡ columns q
  unfolding columns
  columns_are = λ i. m.mems_are i * m.unit_is i

  piece_start_lem : (x j : ℕ) → piece_start q s x j ≡ (spot_by s.piece_roles (j + 2 ^ s.old * x)).row * columns q + (spot_by s.piece_roles (j + 2 ^ s.old * x)).chunk * row_len_of q
  unfolding piece_start
  piece_start_lem x j = refl

  pub starts_are : (x j : ℕ) → x < p.pieces → j < p.olds → start_of p.chunks (p.mems * p.unit) (length q.entries) (j + p.olds * x) ≡ piece_start q s x j
  starts_are x j h g =
      let e : walk addr_bits p.chunks addr_bits (j + p.olds * x) ≡ spot_by s.piece_roles (j + 2 ^ s.old * x) =
      (λ i. walk addr_bits (m.chunks_are i) addr_bits (j + m.olds_are i * x))
      ∙ sym (piece_walk q old new addr ok x j m.few m.fewer (omega (arith, m.pieces_are)) (omega (arith, m.olds_are)))
      ∙ ap (λ (k : ℕ). spot_by s.piece_roles (j + 2 ^ k * x)) (sym old_is) in
      start_is p.chunks (p.mems * p.unit) (length q.entries) (j + p.olds * x)
      ∙ (λ i. (e i).row * columns_are i + (e i).chunk * sym (row_length q) i) ∙ sym (piece_start_lem x j)

  -- ---- trits of a clocked read port
  laid : Laid (grid_of p (length q.entries)) (p.mems * p.unit) p.pieces p.olds p.chunks p.width q.entries q s
  laid = record {
    mems_are = m.mems_are;
    rows_are = m.rows_are ∙ ap (λ (k : ℕ). 2 ^ k) (sym new_is);
    unit_is = m.unit_is;
    len_is = sym (row_length q);
    columns_are = columns_are;
    pieces_are = m.pieces_are;
    olds_are = m.olds_are ∙ ap (λ (k : ℕ). 2 ^ k) (sym old_is);
    width_is = m.width_is;
    entries_are = refl;
    starts_are = starts_are;
  }

  trits_value : (v : List ℕ) (size : ℕ) → PortFits p (length q.entries) size → port_trits p q.entries v size ≡ ordered q s (const_columns q s v)
  trits_value v size f = laid_trits _ _ _ _ _ _ _ v q s laid size (grid_good p (length q.entries) size f)

  pub trits_rules : (v room : List ℕ) → PortFits p (length q.entries) (length room) → trits_of p q.entries v room ≡ ordered q s (const_columns q s v)
  trits_rules v room f =
      let t = fits_tested p (length q.entries) (length room) f in
      columns_can trit_x p q.entries v room t.0 t.1 ∙ trits_value v (length room) f
