-- `port_reset_emit::emit_laid` meets its contract.
use lib.ListN.{take}
use Rattle.log_entries.specs.View.{lent_of}
use Rattle.net_memory.specs.View.{memory_of}
use Rattle.port_transparency.specs.Pairs.{read_of}
use Rattle.port_overlay.specs.Laid.{with_bits}
use Rattle.port_reset_emit.specs.Behind.{mask_of}
use Rattle.port_reset_emit.proofs.Behind.{laid_gave}
use Rattle.port_reset_emit.proofs.emit_laid.Goals as goal

pub returns : goal.returns
returns c =
    let v = c.args in
    let s = c.start_over in
    let a = c.emit_pairs in
    let b = c.emit_behind in
    let n = v.port.reading.count in
    λ trits. laid_gave (memory_of v.given.memory v.given.nets.now trits) v.port.reading.k (read_of v.port.reading) n v.port.relations.now (with_bits v.port.flip_flop) (mask_of v.port.flip_flop n) v.port.flip_flop.bits.now (lent_of v.log.now) (lent_of a.new.log) (lent_of b.new.log)
    (take n s.new.overlay.under) (take n s.new.mask.over) (take n a.new.overlay.under) (take n a.new.over) _ s.ensures.0 s.ensures.1 (a.ensures trits) b.ensures
