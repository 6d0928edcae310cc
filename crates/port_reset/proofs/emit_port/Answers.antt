-- `port_reset::emit_port` meets its contract.
use mathlib.Core.Path.{◌≡◌, ap, ◌∙◌}
use Prim.Native.Nat.{ℕ}
use mathlib.Core.List.{List, []}
use Rattle.lists.specs.Choice.{when◌then◌else◌}
use Rattle.log_entries.specs.View.{lent_of}
use Rattle.net_memory.specs.View.{clocked_by}
use Rattle.port_unmap.specs.Ready.{own_flip_flop}
use Rattle.port_reset.proofs.Port.{port_ran, port_output}
use Rattle.port_reset.proofs.emit_port.Goals as goal

pub returns : goal.returns
returns c =
    let v = c.args in
    let u = c.emit_reset in
    let o = c.read_port-own in
    let g = c.requires in
    let e = c.parts_of-parts.ensures.reading o.ensures.port in
    let f = clocked_by v.c o.result.port o.result.trits.now in
    let ef : f ≡ own_flip_flop v.given.memory v.given.trits.now v.i v.c = λ k. clocked_by v.c (o.ensures.own g.port.there k) (o.ensures.trits.0 k) in
    let r = c.wanted_relations.ensures ∙ ap (λ (l : List ℕ). when v.incl then l else []) c.parts_of-parts.ensures.relations in
    record { log_after = port_ran v.given.memory v.given.nets.now v.given.trits.now v.i v.c v.incl g v.output.now c.parts_of-parts.result.flip_flop _ _ _ _ _ f (lent_of v.log.now) (lent_of u.new.log) _ e.0 e.1 e.2 e.3 c.parts_of-parts.ensures.flip_flop r ef (u.ensures v.given.trits.now); output_value = port_output v.given.memory v.given.nets.now v.given.trits.now v.i v.c v.incl g v.output.now c.parts_of-parts.result.flip_flop _ _ _ _ _ f (lent_of v.log.now) (lent_of u.new.log) _ e.0 e.1 e.2 e.3 c.parts_of-parts.ensures.flip_flop r ef (u.ensures v.given.trits.now) }
