-- `port_settle::settle_port` meets its contract.
use Rattle.std.proofs.Common.{rules, tests, ◌≡◌, min, ap, ◌∙◌}
use native.Mathlib.Omega.{arith}
use Rattle.net_memory.proofs.Sized.{relations_8}
use Rattle.port_settle.specs.Settled.{reads_before, undefined_if, with_relations}
use Rattle.port_settle.proofs.Changed.{relations_all}
use Rattle.port_settle.proofs.settle_port.Goals as goal

pub returns : goal.returns
returns c =
    let p = c.args.p in
    let is = reads_before c.args.reads.now in
    let n = c.ports_used-count.result in
    let e : n ≡ min p.relations_len 8 = omega (arith, c.ports_used-count.ensures.0) in
    ap (with_relations p) (c.change_first.ensures (λ j. undefined_if (is j)) (λ j x r q. search (rules, tests))) ∙ relations_all is p n (relations_8 p _ c.well_formed.1.0) e
