-- `port_reset_emit::emit_reset` meets its contract.
use Rattle.log_entries.specs.View.{lent_of}
use Rattle.net_memory.specs.View.{memory_of}
use Rattle.port_transparency.specs.Pairs.{read_of}
use Rattle.port_overlay.specs.Laid.{with_bits}
use Rattle.port_reset_emit.specs.Behind.{mask_of}
use Rattle.port_reset_emit.proofs.Behind.{if_many, if_few}
use Rattle.port_reset_emit.proofs.emit_reset.Goals as goal

pub returns-then-port-gt-MAX_MERGE : goal.returns-then-port-gt-MAX_MERGE
returns-then-port-gt-MAX_MERGE c =
    let v = c.args in
    λ trits. if_many (memory_of v.given.memory v.given.nets.now trits) v.port.reading.k (read_of v.port.reading) v.port.reading.count v.port.relations.now (with_bits v.port.flip_flop) (mask_of v.port.flip_flop v.port.reading.count) v.port.flip_flop.bits.now (lent_of v.log.now) v.log.now.state.next c.if-port-gt-MAX_MERGE.true

pub returns : goal.returns
returns c =
    let v = c.args in
    let p = c.emit_laid in
    λ trits. if_few (memory_of v.given.memory v.given.nets.now trits) v.port.reading.k (read_of v.port.reading) v.port.reading.count v.port.relations.now (with_bits v.port.flip_flop) (mask_of v.port.flip_flop v.port.reading.count) v.port.flip_flop.bits.now (lent_of v.log.now) (lent_of p.new.log) _ c.if-port-gt-MAX_MERGE.false (p.ensures trits)
