-- A port within the limits, as tests and as facts, and what its parts ask.
use mathlib.Core.Path.{◌≡◌, refl, subst}
use Prim.Native.Nat.{ℕ, zero, suc, ◌+◌, ◌*◌, ◌<◌, ◌≤◌}
use native.Mathlib.Nat.{mul-le-mul, mul-zero, zero-mul}
use native.Mathlib.Omega.{arith}
use mathlib.Core.Bool.{true, false}
use mathlib.Core.List.{List}
use lib.ListN.{length}
use lib.Seq.{sets}
use lib.Dec.{eqb, leb}
use borrow.Author.Tests.{le-leb, leb-true, eqb-true, eq-eqb, ltb-true, lt-ltb}
use Rattle.lists.proofs.Choice.{and_true}
use Rattle.rules.specs.Limits.{X, max_columns, max_row, max_width, max_nets, max_merge}
use Rattle.rules.specs.Swizzle.{repeating}
use Rattle.swizzle_laws.specs.Stores.{spill_at}
use Rattle.swizzle_columns.specs.declared.WidePort.{WidePort}
use Rattle.swizzle_columns.specs.Steps.{Good}
use Rattle.swizzle_columns.specs.Rows.{Bases, all_sources}
use Rattle.swizzle_columns.specs.Jobs.{Narrow, Port}
use Rattle.swizzle_columns.specs.Wide.{max_rows, sizes_fit, rows_fit, can_store, Stores, PortFits, grid_of, port_starts, stored_of, mask_row, port_columns, columns_of}

pub bounded : (a b c d : ℕ) → a ≤ c → b ≤ d → a * b ≤ c * d
bounded a b c d h g = mul-le-mul {n₁ = a} {m₁ = b} {n₂ = c} {m₂ = d} h g

-- ---- what they say
module _ (p : WidePort) (len size : ℕ) where
  pub fits_say : sizes_fit p size ≡ true → rows_fit p len ≡ true → PortFits p len size
  unfolding sizes_fit rows_fit
  fits_say e f =
      let a = and_true (leb p.rows max_rows) _ e in
      let b = and_true (leb (p.mems * p.unit) max_columns) _ a.1 in
      let c = and_true (leb 1 size) _ b.1 in
      let x = and_true (leb len max_row) _ f in
      let y = and_true (leb p.olds max_rows) _ x.1 in
      let z = and_true (leb p.width max_width) _ y.1 in
      record {
        rows_max = leb-true _ _ a.0;
        columns_max = leb-true _ _ b.0;
        some = leb-true 1 size c.0;
        size_is = eqb-true _ _ c.1;
        len_max = leb-true _ _ x.0;
        olds_max = leb-true _ _ y.0;
        width_max = leb-true _ _ z.0;
        pieces_max = leb-true _ _ z.1;
      }

  pub fits_tested : PortFits p len size → (sizes_fit p size ≡ true) × (rows_fit p len ≡ true)
  unfolding sizes_fit rows_fit
  fits_tested f = (
    rw (le-leb p.rows max_rows f.rows_max, le-leb (p.mems * p.unit) max_columns f.columns_max, le-leb 1 size f.some, eq-eqb size (p.rows * (p.mems * p.unit)) f.size_is),
    rw (le-leb len max_row f.len_max, le-leb p.olds max_rows f.olds_max, le-leb p.width max_width f.width_max, le-leb p.pieces max_nets f.pieces_max),
  )

module _ (p : WidePort) (len size n x : ℕ) where
  pub can_say : can_store p len size n x ≡ true → Stores p len size n x
  unfolding can_store
  can_say e =
      let a = and_true (sizes_fit p size) _ e in
      let b = and_true (rows_fit p len) _ a.1 in
      let d = and_true (eqb n (p.olds * len)) _ b.1 in
      record { port = fits_say p len size a.0 b.0; enough = eqb-true _ _ d.0; one = ltb-true _ _ d.1 }

  pub can_tested : Stores p len size n x → can_store p len size n x ≡ true
  unfolding can_store
  can_tested w =
      let t = fits_tested p len size w.port in
      rw (t.0, t.1, eq-eqb n (p.olds * len) w.enough, lt-ltb x p.pieces w.one)

-- ---- what the parts ask
pos_left : (a b : ℕ) → 0 < a * b → 0 < a
pos_left zero b h = absurd (omega (arith, zero-mul b))
pos_left (suc a) b h = omega arith

pos_right : (a b : ℕ) → 0 < a * b → 0 < b
pos_right a zero h = absurd (omega (arith, mul-zero a))
pos_right a (suc b) h = omega arith

module _ (p : WidePort) (len size : ℕ) (f : PortFits p len size) where
  whole_pos : 0 < p.rows * (p.mems * p.unit)
  whole_pos = subst (λ (n : ℕ). 0 < n) f.size_is f.some

  pub rows_pos : 0 < p.rows
  rows_pos = pos_left p.rows (p.mems * p.unit) whole_pos

  pub mems_pos : 0 < p.mems
  mems_pos = pos_left p.mems p.unit (pos_right p.rows (p.mems * p.unit) whole_pos)

  pub unit_pos : 0 < p.unit
  unit_pos = pos_right p.mems p.unit (pos_right p.rows (p.mems * p.unit) whole_pos)

  pub size_low : size ≤ 4611686018427387903
  size_low = omega (arith, f.size_is, bounded p.rows (p.mems * p.unit) 16 32768 f.rows_max f.columns_max)

  pub grid_good : Good (grid_of p len) size
  grid_good = record { mems_pos = mems_pos; rows_pos = rows_pos; unit_pos = unit_pos; size_is = f.size_is; low = size_low; hop_is = refl; back_is = refl }

  pub port_narrow : Narrow p.olds (p.mems * p.unit) len p.pieces
  port_narrow =
      let a = bounded p.olds p.pieces 16 16777216 f.olds_max f.pieces_max in
      let b : p.olds + p.olds * p.pieces ≤ 4294967296 = omega (arith, f.olds_max) in
      let c = bounded (p.olds + p.olds * p.pieces) (p.mems * p.unit + len) 4294967296 65536 b (omega (arith, f.columns_max, f.len_max)) in
      record { sum = omega arith; numbers = b }

  pub port_asks : Port (grid_of p len) p.olds p.width len size
  port_asks = record {
    good = grid_good;
    entries_are = refl;
    few = omega (arith, bounded p.olds len 16 256 f.olds_max f.len_max);
    few_olds = f.olds_max;
    low = omega (arith, bounded p.olds p.width 16 128 f.olds_max f.width_max);
  }

-- the rows of a port within the limits
pub rows_base : (p : WidePort) (len : ℕ) → rows_fit p len ≡ true → Bases p.olds p.width len max_merge
unfolding rows_fit
rows_base p len f =
    let x = and_true (leb len max_row) _ f in
    let y = and_true (leb p.olds max_rows) _ x.1 in
    let z = and_true (leb p.width max_width) _ y.1 in
    let l = leb-true len max_row x.0 in
    let o = leb-true p.olds max_rows y.0 in
    let w = leb-true p.width max_width z.0 in
    record { low = omega (arith, bounded p.olds p.width 16 128 o w); enough = omega (arith, bounded p.olds len 16 256 o l) }

pub rows_base_by : (p : WidePort) (len olds width : ℕ) → olds ≡ p.olds → width ≡ p.width → rows_fit p len ≡ true → Bases olds width len max_merge
rows_base_by p len olds width e d f = rw (e, d) (rows_base p len f)

pub len_low : (p : WidePort) (len : ℕ) → rows_fit p len ≡ true → len ≤ max_row
unfolding rows_fit
len_low p len f = leb-true len max_row (and_true (leb len max_row) _ f).0

-- ---- done or not
module _ (p : WidePort) (len x : ℕ) (v room : List ℕ) where
  pub stored_not : can_store p len (length room) (length v) x ≡ false → room ≡ stored_of p len x v room
  unfolding stored_of
  stored_not e = rw e

  pub stored_can : can_store p len (length room) (length v) x ≡ true → stored_of p len x v room ≡ spill_at p.mems p.rows p.unit len (port_starts p len x) v room
  unfolding stored_of
  stored_can e = rw e

module _ (p : WidePort) (es v out : List ℕ) where
  pub mask_not : rows_fit p (length es) ≡ false → out ≡ mask_row p es v out
  unfolding mask_row
  mask_not e = rw e

  pub mask_can : rows_fit p (length es) ≡ true → mask_row p es v out ≡ sets out 0 (repeating X (all_sources p.olds p.width es) v)
  unfolding mask_row
  mask_can e = rw e

module _ {A : Type 0} (blank : A) (p : WidePort) (es : List ℕ) (v room : List A) where
  pub columns_can : sizes_fit p (length room) ≡ true → rows_fit p (length es) ≡ true → columns_of blank p es v room ≡ port_columns blank p es v (length room)
  unfolding columns_of
  columns_can e f = rw (e, f)
