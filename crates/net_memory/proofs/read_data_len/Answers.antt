-- `net_memory::read_data_len` meets its contract.
use mathlib.Core.Path.{sym, ap, ◌∙◌}
use native.Mathlib.Omega.{arith}
use Rattle.rules.specs.Cell.{ReadPort}
use Rattle.net_memory.proofs.Ports.{read_of_view, reads_none, reads_at}
use Rattle.net_memory.proofs.read_data_len.Goals as goal

pub returns-then-ports_used-i : goal.returns-then-ports_used-i
returns-then-ports_used-i c =
    let v = c.args in
    record { by_index = λ nets trits. sym (ap (λ (r : ReadPort). r.data_len) (read_of_view v.m.now nets trits v.i ∙ reads_none v.m.now nets trits v.i (omega arith))); upper_bound = omega arith }

pub returns : goal.returns
returns c =
    let v = c.args in
    record { by_index = λ nets trits. c.data_size.ensures.0 ∙ sym (ap (λ (r : ReadPort). r.data_len) (read_of_view v.m.now nets trits v.i ∙ reads_at v.m.now nets trits v.i (omega arith))); upper_bound = omega arith }
