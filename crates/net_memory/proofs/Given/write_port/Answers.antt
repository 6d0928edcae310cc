-- `net_memory::Given::write_port` meets its contract.
use Rattle.std.proofs.Common.{ℕ, [], List}
use mathlib.Core.Path.{sym, ap, ◌∙◌}
use native.Mathlib.Omega.{arith}
use Rattle.lists.specs.Lists.{part}
use Rattle.net_memory.specs.View.{write_port, write_by}
use Rattle.net_memory.specs.declared.MemoryWritePort.{MemoryWritePort}
use Rattle.net_memory.proofs.Ports.{write_of_view, writes_none, writes_at, write_nets_none, write_nets_at}
use Rattle.net_memory.proofs.Given.write_port.Goals as goal

pub returns-then-ports_used-i-clause-port : goal.returns-then-ports_used-i-clause-port
returns-then-ports_used-i-clause-port c =
    let v = c.args in
    ap (λ (p : MemoryWritePort). write_by p [] []) c.default.ensures
    ∙ sym (write_of_view v.self.now.memory v.self.now.nets.now v.self.now.trits.now v.i ∙ writes_none v.self.now.memory v.self.now.nets.now v.i (omega arith))

pub returns-then-ports_used-i-clause-nets : goal.returns-then-ports_used-i-clause-nets
returns-then-ports_used-i-clause-nets c = sym (write_nets_none c.args.self.now.memory c.args.self.now.nets.now c.args.i (omega arith))

pub returns-clause-port : goal.returns-clause-port
returns-clause-port c =
    let v = c.args in
    ap (λ (l : List ℕ). write_by (write_port v.self.now.memory v.i) l [])
    (c.part.ensures.part ∙ (λ k. part (c.write_start.ensures.0 k) (c.write_size.ensures.0 k) v.self.now.nets.now))
    ∙ sym (write_of_view v.self.now.memory v.self.now.nets.now v.self.now.trits.now v.i ∙ writes_at v.self.now.memory v.self.now.nets.now v.i (omega arith))

pub returns-clause-nets : goal.returns-clause-nets
returns-clause-nets c =
    let v = c.args in
    c.part.ensures.part ∙ (λ k. part (c.write_start.ensures.0 k) (c.write_size.ensures.0 k) v.self.now.nets.now)
    ∙ sym (write_nets_at v.self.now.memory v.self.now.nets.now v.i (omega arith))
