-- `c_memory::extracted_struct` meets its contract.
use Rattle.std.proofs.Common.{rules}
use Rattle.c_memory.specs.View.{zero_write, zero_read, zero_memory}
use Rattle.c_memory.proofs.Each.{all_of}
use Rattle.c_memory.proofs.extracted_struct.Goals as goal

pub returns : goal.returns
unfolding zero_memory
returns c =
    let d = c.default.ensures in
    let w = all_of _ zero_write (λ x p. search rules) _ _ d.1.1.1.1.1.0 in
    let r = all_of _ zero_read (λ x p. let q = all_of _ 0 (λ x p. p) _ _ p.1.1.1.1.1.1.0 in search rules) _ _ d.1.1.1.1.1.1 in
    search rules
