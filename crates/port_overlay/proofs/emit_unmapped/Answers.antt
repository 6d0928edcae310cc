-- `port_overlay::emit_unmapped` meets its contract.
use native.Mathlib.Omega.{arith}
use lib.ListN.{take}
use Rattle.log_entries.specs.View.{lent_of}
use Rattle.net_memory.specs.View.{memory_of}
use Rattle.port_transparency.specs.Pairs.{read_of}
use Rattle.port_overlay.specs.Laid.{with_bits}
use Rattle.port_overlay.proofs.Laid.{unmapped_ran, unmapped_last}
use Rattle.port_overlay.proofs.emit_unmapped.Goals as goal

pub returns : goal.returns
returns c =
    let v = c.args in
    let a = c.void_into in
    let b = c.emit_pairs in
    let d = c.emit_behind in
    let n = v.port.reading.count in
    let w = read_of v.port.reading in
    let f = with_bits v.port.flip_flop in
    let l = lent_of v.log.now in
    let l1 = lent_of a.new.log in
    let l2 = lent_of b.new.log in
    let l3 = lent_of d.new.log in
    let u = take n a.new.out in
    let u2 = take n b.new.overlay.under in
    record { by_index = λ trits. unmapped_ran (memory_of v.given.memory v.given.nets.now trits) v.port.reading.k w n v.port.relations.now f v.port.flip_flop.bits.now l l1 l2 l3 u u2 (a.ensures (omega arith)) (b.ensures trits) d.ensures; last_value = λ o. unmapped_last (memory_of v.given.memory v.given.nets.now v.given.trits.now) v.port.reading.k w n v.port.relations.now f v.port.flip_flop.bits.now l l1 l2 l3 u u2 (a.ensures (omega arith)) (b.ensures v.given.trits.now) d.ensures o }
