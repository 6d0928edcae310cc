-- `image_state::Laid::layout` meets its contract.
use mathlib.Core.Path.{◌≡◌, sym, ap, ◌∙◌}
use mathlib.Core.Bool.{Bool}
use Prim.Native.Nat.{ℕ}
use native.Mathlib.Omega.{arith}
use lib.ListN.{take}
use Rattle.lists.specs.Choice.{when◌then◌else◌}
use Rattle.image_state.specs.View.{lent_unit, lent_params}
use Rattle.image_state.proofs.Laying.{laid_lent}
use Rattle.image_state.proofs.Laid.layout.Goals as goal
use Rattle.image_state.proofs.Laid.layout.Goals.{then-row_bad, else-row_bad}

pub returns : goal.returns
returns c =
    let l = c.args.self.now in
    let unit_is : c.if-row_bad.result ≡ lent_unit c.args.self.now = elim c.if-row_bad.branch [
      | then-row_bad w ↦ w.result-is ∙ sym (ap (λ (t : Bool). when t then 0 else l.unit) (sym c.row_bad.ensures ∙ w.if-row_bad.true))
      | else-row_bad w ↦ w.result-is ∙ sym (ap (λ (t : Bool). when t then 0 else l.unit) (sym c.row_bad.ensures ∙ w.if-row_bad.false))
    ] in
    let params_are : _ ≡ lent_params l = λ i. record { depth = l.depth; width = l.width; soft_mask = l.soft_mask; hard = l.hard; unit = unit_is i } in
    record { value = laid_lent l _ c.min.result params_are (omega arith); params = params_are; entries = ap (λ (n : ℕ). take n l.entries) (omega arith) }
