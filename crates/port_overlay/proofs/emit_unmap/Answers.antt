-- `port_overlay::emit_unmap` meets its contract.
use native.Mathlib.Omega.{arith}
use Rattle.log_entries.specs.View.{lent_of}
use Rattle.net_memory.specs.View.{memory_of}
use Rattle.port_transparency.specs.Pairs.{read_of}
use Rattle.port_overlay.specs.Laid.{with_bits}
use Rattle.port_overlay.proofs.Laid.{if_many, if_few}
use Rattle.port_overlay.proofs.emit_unmap.Goals as goal

pub returns-then-port-gt-MAX_MERGE : goal.returns-then-port-gt-MAX_MERGE
returns-then-port-gt-MAX_MERGE c =
    let v = c.args in
    record { by_index = λ trits. if_many (memory_of v.given.memory v.given.nets.now trits) v.port.reading.k (read_of v.port.reading) v.port.reading.count v.port.relations.now (with_bits v.port.flip_flop) v.port.flip_flop.bits.now (lent_of v.log.now) c.if-port-gt-MAX_MERGE.true; last_value = λ h o. absurd (omega (arith, h, c.if-port-gt-MAX_MERGE.true)) }

pub returns : goal.returns
returns c =
    let v = c.args in
    let p = c.emit_unmapped in
    record { by_index = λ trits. if_few (memory_of v.given.memory v.given.nets.now trits) v.port.reading.k (read_of v.port.reading) v.port.reading.count v.port.relations.now (with_bits v.port.flip_flop) v.port.flip_flop.bits.now (lent_of v.log.now) (lent_of p.new.log) c.if-port-gt-MAX_MERGE.false (p.ensures.by_index trits); last_value = λ h o. p.ensures.last_value o }
