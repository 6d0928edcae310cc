-- `port_settle::settle_relations` meets its contract.
use Rattle.std.proofs.Common.{rules, tests, ℕ, List, take, ap, ◌∙◌}
use Rattle.net_memory.specs.declared.MemoryReadPort.{MemoryReadPort}
use Rattle.port_settle.specs.Settled.{reads_before, settled_by, with_ports, settling}
use Rattle.port_settle.proofs.View.{before_are, view_settled}
use Rattle.port_settle.proofs.settle_relations.Goals as goal

pub returns : goal.returns
returns c =
    let m = c.args.m.now in
    let v = c.args.from in
    let is = reads_before (take c.ports_used.result m.read_ports) in
    let e = c.change_first.ensures (λ j. settled_by is) (λ j p r q. search (rules, tests)) in
    let z = λ (x y : List ℕ). ap (λ (ps : List MemoryReadPort). with_ports v v.write_ports ps) e ∙ (λ k. settling (λ j. before_are m x y _ c.ports_used.ensures.0 j k) (c.ports_used-count.ensures.0 k) v) in
    record { by_index = λ x x' y. view_settled m x x' y v _ (z x y); by_index_2 = z }
