-- `image_check::bits_bad` meets its contract.
use Rattle.std.proofs.Common.{rules, tests, arith, ◌-◌, ◌*◌, ◌∙◌, refl, min, ℕ}
use Rattle.std.proofs.lemmas.Grind.{div_ceil_times}
use Rattle.std.proofs.lemmas.Iterator.{YieldsList-from_range}
use Rattle.std.proofs.lemmas.Iterator.Search.{any_from_yields_List}
use Rattle.lists.specs.Lists.{any, up_from}
use Rattle.rules.specs.Limits.{max_width}
use Rattle.image_check.specs.Marks.{not_once}
use Rattle.image_check.proofs.Marking.{all_blocks}
use Rattle.image_check.proofs.bits_bad.Goals as goal

pub returns : goal.returns
returns c =
    let w = c.args.width in
    let f = not_once c.args.entries.now in
    any_from_yields_List (λ (k : ℕ). any f (up_from (k * max_width) (min (w - k * max_width) max_width))) _ _ _ c.any.ensures.ran (YieldsList-from_range 0 c.div_ceil.result c.div_ceil.result refl (omega arith)) (λ x b q k. search (rules, tests))
    ∙ all_blocks f w c.div_ceil.result (omega (arith, c.div_ceil.ensures, (div_ceil_times w max_width (omega arith)).0))
