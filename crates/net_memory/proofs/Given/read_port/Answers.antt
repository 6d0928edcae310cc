-- `net_memory::Given::read_port` meets its contract.
use Rattle.std.proofs.Common.{[]}
use mathlib.Core.Path.{◌≡◌, sym, ap, ◌∙◌}
use Prim.Native.Nat.{min}
use native.Mathlib.Omega.{arith}
use Rattle.lists.specs.Lists.{part}
use Rattle.rules.specs.Limits.{max_ports}
use Rattle.net_memory.specs.View.{read_port, read_by, trit_start}
use Rattle.net_memory.proofs.Ports.{read_of_view, reads_none, reads_at, nets_none, nets_at, trits_none, trits_at}
use Rattle.net_memory.proofs.Given.read_port.Goals as goal

pub returns-then-ports_used-i-clause-port : goal.returns-then-ports_used-i-clause-port
returns-then-ports_used-i-clause-port c =
    let v = c.args in
    let g = v.self.now in
    let d = c.default.ensures in
    rw (d.0, d.1.0, d.1.1.1.1.1.1.1) (sym (read_of_view g.memory g.nets.now g.trits.now v.i ∙ reads_none g.memory g.nets.now g.trits.now v.i (omega arith)))

pub returns-then-ports_used-i-clause-nets : goal.returns-then-ports_used-i-clause-nets
returns-then-ports_used-i-clause-nets c = (sym (nets_none c.args.self.now.memory c.args.self.now.nets.now [] c.args.i (omega arith)), omega arith)

pub returns-then-ports_used-i-clause-trits : goal.returns-then-ports_used-i-clause-trits
returns-then-ports_used-i-clause-trits c = (sym (trits_none c.args.self.now.memory [] c.args.self.now.trits.now c.args.i (omega arith)), omega arith)

pub returns-clause-port : goal.returns-clause-port
returns-clause-port c =
    let v = c.args in
    let g = v.self.now in
    let i : min v.i max_ports ≡ v.i = omega arith in
    (λ k. read_by (read_port g.memory v.i)
    ((c.part.ensures.part ∙ (λ j. part (c.read_start.ensures.0 j) (c.addr_size.ensures.0 j) g.nets.now)) k)
    ((c.part-2.ensures.part ∙ (λ j. part ((c.trit_start.ensures.0 ∙ ap (trit_start g.memory) i) j) (c.trit_size.ensures.0 j) g.trits.now)) k))
    ∙ sym (read_of_view g.memory g.nets.now g.trits.now v.i ∙ reads_at g.memory g.nets.now g.trits.now v.i (omega arith))

pub returns-clause-nets : goal.returns-clause-nets
returns-clause-nets c =
    let v = c.args in
    let g = v.self.now in (
      c.part.ensures.part ∙ (λ j. part (c.read_start.ensures.0 j) (c.addr_size.ensures.0 j) g.nets.now)
          ∙ sym (nets_at g.memory g.nets.now [] v.i (omega arith)),
      omega arith,
    )

pub returns-clause-trits : goal.returns-clause-trits
returns-clause-trits c =
    let v = c.args in
    let g = v.self.now in
    let i : min v.i max_ports ≡ v.i = omega arith in (
      c.part-2.ensures.part ∙ (λ j. part ((c.trit_start.ensures.0 ∙ ap (trit_start g.memory) i) j) (c.trit_size.ensures.0 j) g.trits.now)
          ∙ sym (trits_at g.memory [] g.trits.now v.i (omega arith)),
      omega arith,
    )
