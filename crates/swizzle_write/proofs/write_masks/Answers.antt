-- `swizzle_write::write_masks` meets its contract.
use mathlib.Core.Path.{sym, ap, ◌∙◌}
use Prim.Native.Nat.{ℕ}
use mathlib.Core.List.{List}
use lib.ListN.{length}
use Rattle.rules.specs.Log.{Trace}
use Rattle.log_entries.specs.Emission.{run}
use Rattle.log_entries.specs.View.{lent_of}
use Rattle.log_entries.proofs.Emission.{run-done}
use Rattle.swizzle_write.proofs.Fits.{can_say, masks_not, masks_can, masks_kept}
use Rattle.swizzle_write.proofs.write_masks.Goals as goal

pub masks_in-requires : goal.masks_in-requires
masks_in-requires c =
    let v = c.args in
    can_say v.p (length v.entries.now) (length v.mux.now) (length v.to.now) (sym c.can_write.ensures ∙ c.if-can_write.true)

pub returns-then-can_write : goal.returns-then-can_write
returns-then-can_write c =
    let v = c.args in
    let z = c.masks_in.ensures in
    let t = masks_can v.p v.mux.now v.entries.now v.mask.now v.to.now (sym c.can_write.ensures ∙ c.if-can_write.true) in
    record {
      log_after = z.log_after ∙ sym (ap (λ (x : Trace (List ℕ)). run x (lent_of v.log.now)) t);
      to_after = λ h. z.to_after h ∙ sym (ap (λ (x : Trace (List ℕ)). (x v.log.now.state.next).value) t);
    }

pub returns-else-can_write : goal.returns-else-can_write
returns-else-can_write c =
    let v = c.args in
    let e = sym c.can_write.ensures ∙ c.if-can_write.false in
    record {
      log_after = sym (ap (λ (t : Trace (List ℕ)). run t (lent_of v.log.now)) (masks_not v.p v.mux.now v.entries.now v.mask.now v.to.now e) ∙ run-done v.to.now (lent_of v.log.now));
      to_after = λ h. masks_kept v.p v.mux.now v.entries.now v.mask.now v.to.now v.log.now.state.next e;
    }
