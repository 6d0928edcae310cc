-- `record_reader::HeadWords::trits` meets its contract.
use Rattle.record_reader.proofs.Heads.{words-all}
use Rattle.rules.specs.Record.{size_trits}
use mathlib.Core.Path.{ap, ◌∙◌}
use native.Mathlib.Omega.{arith}
use Rattle.record_reader.proofs.HeadWords.trits.Goals as goal

-- src/lib.rt:156:1
pub returns : goal.returns
returns c =
    let h = c.sizes in
    (words-all h.result h.ensures.1 c.trits_within.result c.trits_within.ensures ∙ ap size_trits h.ensures.0, omega (arith, c.trits_within.ensures))
