-- `port_overlay::writing` meets its contract.
use mathlib.Core.Path.{ap, ◌∙◌}
use Rattle.rules.specs.Cell.{WritePort, write_at}
use Rattle.net_memory.specs.View.{memory_of}
use Rattle.port_transparency.specs.Pairs.{writing}
use Rattle.port_overlay.proofs.Laid.{wide_by, width_is}
use Rattle.port_overlay.proofs.writing.Goals as goal

pub returns : goal.returns
unfolding memory_of write_at
returns c =
    let v = c.args in
    let m = memory_of v.given.memory v.given.nets.now in
    let e = c.write_port-w.ensures.port in
    let a = c.addr.ensures ∙ ap (λ (w : WritePort). w.addr) e in
    let b = c.bits-bits.ensures.0 ∙ ap (λ (w : WritePort). w.bits) e in
    let k = c.mask.ensures ∙ ap (λ (w : WritePort). w.mask) e in
    record {
      k_value = λ trits. wide_by (m trits) _ v.given.memory.width _ (write_at (m trits) v.j) b (width_is v.given.memory v.given.nets.now trits) c.wide_log.ensures.0;
      port = λ trits i. writing (a i) (b i) (k i);
    }
