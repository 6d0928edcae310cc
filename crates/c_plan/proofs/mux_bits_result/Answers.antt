-- `c_plan::mux_bits_result` meets its contract.
use Rattle.std.proofs.Common.{rules}
use Rattle.c_memory.proofs.Each.{all_of}
use Rattle.c_plan.proofs.mux_bits_result.Goals as goal

pub returns : goal.returns
returns c =
    let d = c.default.ensures in
    let w = all_of _ 0 (λ x p. p) _ _ d.0 in
    let r = all_of _ 0 (λ x p. p) _ _ d.1 in
    search rules
