-- `fallback_masks::left_after` meets its contract.
use mathlib.Core.Path.{◌∙◌}
use Rattle.fallback_masks.proofs.Numbers.{left_row, left_next}
use Rattle.fallback_masks.proofs.left_after.Goals as goal

pub returns-then-left-eq0 : goal.returns-then-left-eq0
returns-then-left-eq0 c = c.saturating_sub.ensures ∙ left_row c.args.width c.args.left c.if-left-eq0.true

pub returns : goal.returns
returns c = left_next c.args.width c.args.left c.if-left-eq0.false
