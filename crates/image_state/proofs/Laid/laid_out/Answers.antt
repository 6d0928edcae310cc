-- `image_state::Laid::laid_out` meets its contract.
use mathlib.Core.Path.{sym, ◌∙◌}
use Rattle.image_state.proofs.Laying.{long_none, laid_made, made_long, made_short}
use native.Mathlib.Omega.{arith}
use lib.ListN.{length}
use Rattle.rules.specs.Limits.{max_row}
use borrow.Author.Tests.{ltb-true, ltb-false}
use Rattle.image_state.proofs.Laid.laid_out.Goals as goal

pub returns-then-row_bad : goal.returns-then-row_bad
returns-then-row_bad c =
    let a = c.args in
    let l = ltb-true _ _ (sym c.row_bad.ensures ∙ c.if-row_bad.true) in
    record { value = c.unset.ensures.value ∙ made_long a.layout.params a.layout.entries.now l; result_value = c.unset.ensures.result_value ∙ sym (long_none a.layout.params a.layout.entries.now l) }

pub returns : goal.returns
returns c =
    let a = c.args in
    let h = ltb-false _ _ (sym c.row_bad.ensures ∙ c.if-row_bad.false) in
    record { value = made_short a.layout.params a.layout.entries.now _ h c.copy.ensures; result_value = laid_made a.layout.params a.layout.entries.now _ h c.copy.ensures }

pub overflow_cast-result : goal.overflow_cast-result
overflow_cast-result c = omega (arith, ltb-false max_row (length c.args.layout.entries.now) (sym c.row_bad.ensures ∙ c.if-row_bad.false))
