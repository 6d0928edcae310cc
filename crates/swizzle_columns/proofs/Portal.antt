-- The machine's numbers of a port are the port's.
use mathlib.Core.Path.{◌≡◌}
use Prim.Native.Nat.{ℕ}
use mathlib.Core.List.{List}
use lib.ListN.{length, replicate}
use Rattle.lists.specs.Lists.{up_from}
use Rattle.rules.specs.Swizzle.{arrange}
use Rattle.swizzle_laws.specs.Stores.{spill_each}
use Rattle.swizzle_columns.specs.declared.WidePort.{WidePort}
use Rattle.swizzle_columns.specs.declared.Grid.{Grid}
use Rattle.swizzle_columns.specs.Rows.{all_sources, starts_by}
use Rattle.swizzle_columns.specs.Jobs.{Narrow, Port}
use Rattle.swizzle_columns.specs.Wide.{PortFits, grid_of, port_columns}
use Rattle.swizzle_columns.proofs.Fits.{port_asks, port_narrow}

pub port_by_lem : (p : WidePort) (len size : ℕ) (g : Grid) → g ≡ grid_of p len → PortFits p len size → Port g p.olds p.width len size
port_by_lem p len size g e f = rw e (port_asks p len size f)

pub narrow_by : (p : WidePort) (len size : ℕ) (g : Grid) → g ≡ grid_of p len → PortFits p len size → Narrow p.olds g.columns g.entries p.pieces
narrow_by p len size g e f = rw e (port_narrow p len size f)

module _ {A : Type 0} (blank : A) (p : WidePort) (es : List ℕ) (g : Grid) (e : g ≡ grid_of p (length es)) where
  pub columns_by : (v : List A) (size : ℕ)
      → spill_each g.mems g.rows g.unit g.entries (starts_by g.chunks g.columns g.entries p.olds) (up_from 0 p.pieces) (arrange blank (all_sources p.olds p.width es) v) (replicate size blank) ≡ port_columns blank p es v size
  columns_by v size =
      λ i. spill_each (e i).mems (e i).rows (e i).unit (e i).entries (starts_by (e i).chunks (e i).columns (e i).entries p.olds) (up_from 0 p.pieces) (arrange blank (all_sources p.olds p.width es) v) (replicate size blank)
