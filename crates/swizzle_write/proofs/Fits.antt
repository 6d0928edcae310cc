-- A write port within the limits, as tests and as facts.
use mathlib.Core.Path.{◌≡◌, sym, ap, ◌∙◌}
use Prim.Native.Nat.{ℕ, ◌*◌, ◌≤◌}
use native.Mathlib.Omega.{arith}
use mathlib.Core.Bool.{true, false}
use mathlib.Core.List.{List}
use lib.ListN.{length, replicate}
use lib.Seq.{length-sets}
use borrow.Author.Tests.{le-leb, leb-true}
use Rattle.lists.proofs.Choice.{and_true}
use Rattle.lists.specs.Lists.{up_from}
use Rattle.rules.specs.Limits.{X, max_merge}
use Rattle.rules.proofs.Done.{done_value}
use Rattle.rules.specs.Log.{Trace, done}
use Rattle.rules.specs.Swizzle.{repeating}
use Rattle.swizzle_laws.specs.Stores.{spill_masks}
use Rattle.swizzle_columns.specs.declared.WidePort.{WidePort}
use Rattle.swizzle_columns.specs.Rows.{all_sources}
use Rattle.swizzle_columns.specs.Wide.{sizes_fit, rows_fit, PortFits, port_starts, mask_row}
use Rattle.swizzle_columns.proofs.Fits.{bounded, fits_say, fits_tested, mask_can}
use Rattle.swizzle_laws.specs.Rooms.{mux_room}
use Rattle.swizzle_write.specs.Wide.{can_write, Writes, port_masks, masks_of}

module _ (p : WidePort) (len short size : ℕ) where
  pub can_say : can_write p len short size ≡ true → Writes p len short size
  unfolding can_write
  can_say e =
      let a = and_true (sizes_fit p size) _ e in
      let b = and_true (rows_fit p len) _ a.1 in
      record { port = fits_say p len size a.0 b.0; few = leb-true _ _ b.1 }

  pub can_tested : Writes p len short size → can_write p len short size ≡ true
  unfolding can_write
  can_tested w =
      let t = fits_tested p len size w.port in
      rw (t.0, t.1, le-leb short mux_room w.few)

-- ---- done or not
module _ (p : WidePort) (mux es v room : List ℕ) where
  pub masks_not : can_write p (length es) (length mux) (length room) ≡ false → masks_of p mux es v room ≡ done room
  unfolding masks_of
  masks_not e = rw e

  pub masks_can : can_write p (length es) (length mux) (length room) ≡ true → masks_of p mux es v room ≡ port_masks p mux es v (length room)
  unfolding masks_of
  masks_can e = rw e

  pub masks_kept : (n : ℕ) → can_write p (length es) (length mux) (length room) ≡ false → room ≡ (masks_of p mux es v room n).value
  masks_kept n e = sym (ap (λ (t : Trace (List ℕ)). (t n).value) (masks_not e) ∙ done_value room n)

-- ---- a port's row of the mask
pub row_few : (p : WidePort) (len size o : ℕ) → o ≡ p.olds → PortFits p len size → o * len ≤ max_merge
row_few p len size o e f = omega (arith, bounded o len 16 256 (omega (arith, f.olds_max)) f.len_max)

pub row_length : (p : WidePort) (es v out : List ℕ) (size : ℕ) (out' : List ℕ) → PortFits p (length es) size → out' ≡ mask_row p es v out → length out' ≡ length out
row_length p es v out size out' f e = ap length (e ∙ mask_can p es v out (fits_tested p (length es) size f).1) ∙ length-sets out 0 (repeating X (all_sources p.olds p.width es) v)

pub masks_by : (p : WidePort) (mux es mask : List ℕ) (size : ℕ) (row room : List ℕ) (n : ℕ) → row ≡ repeating X (all_sources p.olds p.width es) mask → room ≡ replicate size 0 → n ≡ p.pieces
    → spill_masks p.mems p.rows p.unit (length es) (port_starts p (length es)) mux row (up_from 0 n) room ≡ port_masks p mux es mask size
unfolding port_masks
masks_by p mux es mask size row room n er eo en = λ i. spill_masks p.mems p.rows p.unit (length es) (port_starts p (length es)) mux (er i) (up_from 0 (en i)) (eo i)
