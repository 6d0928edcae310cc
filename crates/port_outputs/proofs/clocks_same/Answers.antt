-- `port_outputs::clocks_same` meets its contract.
use Rattle.std.proofs.Common.{◌∙◌, ◌<◌, Bool, ap, min, take, arith}
use lib.ListN.{length-take}
use Rattle.std.proofs.lemmas.List.{get_or-take}
use Rattle.lists.proofs.All.{all_alike}
use Rattle.rules.specs.Limits.{max_ports}
use Rattle.rules.specs.Value.{same_control}
use Rattle.net_value.specs.View.{control_of}
use Rattle.net_memory.specs.declared.MemoryWritePort.{MemoryWritePort}
use Rattle.net_memory.specs.View.{writes_of, write_port, no_write_port}
use Rattle.net_memory.proofs.Sized.{writes_length}
use Rattle.net_memory.proofs.Ports.{no_write_of}
use Rattle.port_outputs.proofs.Outputs.{like_first, can_by, clock_at}
use Rattle.port_outputs.proofs.clocks_same.Goals as goal

pub returns : goal.returns
returns c =
    let m = c.args.m in
    let n = c.ports_used-count.result in
    let room = length-take n m.write_ports in
    let same : MemoryWritePort → Bool = (λ (p : MemoryWritePort). same_control (control_of p.clock) (control_of (write_port m 0).clock)) in
    λ nets trits. let w = writes_length m _ c.well_formed.0 nets in
    c.clocks_are.ensures
    ∙ all_alike same (like_first m nets trits) no_write_port no_write_of (take n m.write_ports) (writes_of m nets) (omega (arith, w, room))
    (λ i h. let t : i < min max_ports m.write_count = omega (arith, room, h) in ap same (get_or-take n m.write_ports i no_write_port (omega arith)) ∙ clock_at m nets trits i t)
    ∙ can_by m nets trits
