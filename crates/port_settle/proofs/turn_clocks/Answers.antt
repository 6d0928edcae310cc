-- `port_settle::turn_clocks` meets its contract.
use Rattle.std.proofs.Common.{rules, tests, ℕ, List, take, ap, ◌∙◌}
use Rattle.net_memory.specs.declared.MemoryWritePort.{MemoryWritePort}
use Rattle.port_settle.specs.Settled.{reads_before, turned_port, with_ports, turning}
use Rattle.port_settle.proofs.View.{before_are, view_turned}
use Rattle.port_settle.proofs.turn_clocks.Goals as goal

pub returns : goal.returns
returns c =
    let m = c.args.m.now in
    let is = reads_before (take c.ports_used.result m.read_ports) in
    let e = c.change_first.ensures (λ j. turned_port (is j)) (λ j p r q. search (rules, tests)) in
    let z = λ (x y : List ℕ). ap (λ (ps : List MemoryWritePort). with_ports m ps m.read_ports) e ∙ (λ k. turning (λ j. before_are m x y _ c.ports_used.ensures.0 j k) (c.ports_used-count.ensures.0 k) m) in
    record { by_index = λ x x' y. view_turned m x x' y _ (z x y); by_index_2 = z }
