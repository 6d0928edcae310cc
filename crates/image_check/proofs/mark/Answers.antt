-- `image_check::mark` meets its contract.
use Prim.Native.Nat.{ℕ, ◌-◌}
use mathlib.Core.Path.{ap, ◌∙◌}
use lib.ListN.{set}
use Rattle.image_check.proofs.Marking.{bump_low, bump_far, bump_first, bump_again}
use Rattle.image_check.proofs.mark.Goals as goal
use Rattle.image_check.proofs.mark.Goals.{then-marks-at-eq0, else-marks-at-eq0}

pub returns-then-entry-base : goal.returns-then-entry-base
returns-then-entry-base c = bump_low _ _ _ c.if-entry-base.true

pub returns-after-marks-at-eq0 : goal.returns-after-marks-at-eq0
returns-after-marks-at-eq0 c =
    let a = c.args in
    elim c.if-marks-at-eq0.branch [
      | then-marks-at-eq0 w ↦ ap (λ (n : ℕ). set a.marks.now (a.entry - a.base) n) w.marks-is ∙ bump_first _ _ _ c.if-entry-base.false c.if-at-lt-BLOCK.true w.if-marks-at-eq0.true
      | else-marks-at-eq0 w ↦ ap (λ (n : ℕ). set a.marks.now (a.entry - a.base) n) w.marks-is ∙ bump_again _ _ _ c.if-entry-base.false c.if-at-lt-BLOCK.true w.if-marks-at-eq0.false
    ]

pub returns-else-at-lt-BLOCK : goal.returns-else-at-lt-BLOCK
returns-else-at-lt-BLOCK c = bump_far _ _ _ c.if-entry-base.false c.if-at-lt-BLOCK.false
