-- `swizzle_write::masks_in` meets its contract.
use mathlib.Core.Path.{◌≡◌, refl, sym, ap, ◌∙◌, subst}
use Prim.Native.Nat.{ℕ, ◌*◌, ◌≤◌}
use native.Mathlib.Omega.{arith}
use mathlib.Core.List.{List}
use lib.ListN.{length, take, replicate}
use lib.Seq.{length-take-le}
use native.Mathlib.Nat.{zero-add}
use Rattle.lists.proofs.Parts.{part_replicate}
use Rattle.rules.specs.Log.{Trace}
use Rattle.log_entries.specs.Emission.{run}
use Rattle.log_entries.specs.View.{lent_of}
use Rattle.swizzle_columns.specs.Wide.{PortFits}
use Rattle.swizzle_columns.proofs.Fits.{fits_tested, mask_can}
use Rattle.swizzle_columns.proofs.Ports.{mask_row_lem, blank-room}
use Rattle.swizzle_write.proofs.Merged.{merged_row}
use Rattle.swizzle_write.proofs.Fits.{row_few, row_length, masks_by}
use Rattle.swizzle_write.proofs.masks_in.Goals as goal

pub overflow_mul-n : goal.overflow_mul-n
overflow_mul-n c = omega (arith, row_few c.args.port _ _ _ refl c.requires.port)

pub slice_bounds-row-end : goal.slice_bounds-row-end
slice_bounds-row-end c =
    let v = c.args in
    omega (arith, row_few v.port _ _ _ refl c.requires.port, row_length v.port v.entries.now v.mask.now _ (length v.to.now) c.mask_row.new.out c.requires.port c.mask_row.ensures)

pub write_pieces-requires : goal.write_pieces-requires
write_pieces-requires c =
    let v = c.args in
    let m = c.mask_row in
    let n : ℕ = v.port.olds * length v.entries.now in
    let few : n ≤ 4096 = row_few v.port _ _ _ refl c.requires.port in
    let e : length (take n m.new.out) ≡ n = length-take-le n m.new.out (omega (arith, few, row_length v.port v.entries.now v.mask.now _ (length v.to.now) m.new.out c.requires.port m.ensures)) in
    let z : take n (replicate 4096 0) ≡ replicate (length (take n m.new.out)) 0 = part_replicate 0 n 4096 0 (rw zero-add few) ∙ ap (λ (k : ℕ). replicate k 0) (sym e) in
    record {
      port = subst (λ (i : ℕ). PortFits v.port (length v.entries.now) i) (sym c.fill.auto.to) c.requires.port;
      enough = e;
      kept = merged_row (take n m.new.out) (take n (replicate 4096 0)) c.merge-kept.result (omega (arith, e, few)) z c.merge-kept.ensures;
      short = c.requires.few;
      piece_len = length-take-le n (replicate 4096 0) few ∙ sym e;
    }

pub returns : goal.returns
returns c =
    let v = c.args in
    let m = c.mask_row in
    let size = length v.to.now in
    let z : List ℕ = replicate 4096 0 in
    let n : ℕ = v.port.olds * length v.entries.now in
    let few : n ≤ 4096 = row_few v.port _ _ _ refl c.requires.port in
    let row = mask_row_lem v.port.olds v.port.width (length v.entries.now) n v.entries.now v.mask.now z m.new.out refl refl few (m.ensures ∙ mask_can v.port v.entries.now v.mask.now z (fits_tested v.port (length v.entries.now) size c.requires.port).1) in
    let t = masks_by v.port v.mux.now v.entries.now v.mask.now size _ _ _ row (blank-room v.to.now c.fill.new.to 0 c.fill.ensures) refl in
    record {
      log_after = c.write_pieces.ensures.log_after ∙ ap (λ (x : Trace (List ℕ)). run x (lent_of v.log.now)) t;
      to_after = λ o. c.write_pieces.ensures.to_after o ∙ ap (λ (x : Trace (List ℕ)). (x v.log.now.state.next).value) t;
    }
