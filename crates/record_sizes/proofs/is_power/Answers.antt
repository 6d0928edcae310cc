-- `record_sizes::is_power` meets its contract.
use Rattle.std.proofs.Common.{ap, sym, ◌∙◌, ◌&&◌, leb}
use mathlib.Core.Bool.{Bool}
use Rattle.record_sizes.proofs.Powers.{power_by_ones}
use Rattle.record_sizes.proofs.is_power.Goals as goal

pub returns-then-is_power_of_two : goal.returns-then-is_power_of_two
returns-then-is_power_of_two c =
    let e = sym c.is_power_of_two.ensures ∙ c.if-is_power_of_two.true in sym (ap (λ (b : Bool). b && leb c.args.n 32768) e) ∙ power_by_ones c.args.n

pub returns-else-is_power_of_two : goal.returns-else-is_power_of_two
returns-else-is_power_of_two c =
    let e = sym c.is_power_of_two.ensures ∙ c.if-is_power_of_two.false in c.if-is_power_of_two.false ∙ sym (ap (λ (b : Bool). b && leb c.args.n 32768) e) ∙ power_by_ones c.args.n
