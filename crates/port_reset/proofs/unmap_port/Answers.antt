-- `port_reset::unmap_port` meets its contract.
use mathlib.Core.Path.{refl, sym, ap, ◌∙◌}
use Rattle.net_memory.specs.declared.MemoryReadPort.{MemoryReadPort}
use Rattle.net_memory.proofs.Sized.{reads_length, writes_length}
use Rattle.port_unmap.proofs.Passed.{flip_none}
use Rattle.port_reset.proofs.Passed.{is_there_lem, none_refused}
use Rattle.port_reset.proofs.unmap_port.Goals as goal

pub unmap_some-requires : goal.unmap_some-requires
unmap_some-requires c =
    let v = c.args in
    let x = reads_length v.m _ c.well_formed.1.1.1.1.0 v.nets.now v.trits.now in
    let y = writes_length v.m _ c.well_formed.1.1.1.1.0 v.nets.now in
    let h = is_there_lem v.st.next v.m v.nets.now v.trits.now v.i v.incl v.output.now c.requires x y in
    (ap (λ (q : MemoryReadPort). q.flip_flop) (sym (c.read_port.ensures.own h)) ∙ c.in-Some.is, c.requires)

pub returns-in-None : goal.returns-in-None
returns-in-None c =
    let v = c.args in
    let x = reads_length v.m _ c.well_formed.1.1.1.1.0 v.nets.now v.trits.now in
    let y = writes_length v.m _ c.well_formed.1.1.1.1.0 v.nets.now in
    let h = is_there_lem v.st.next v.m v.nets.now v.trits.now v.i v.incl v.output.now c.requires x y in
    let e = ap (λ (q : MemoryReadPort). q.flip_flop) (sym (c.read_port.ensures.own h)) ∙ c.in-None.is in
    record { log_after = none_refused v.m v.nets.now v.trits.now v.i v.incl v.output.now v.log.now v.st (flip_none v.m v.nets.now v.trits.now v.i h e); reset_struct = refl }

pub returns-in-Some : goal.returns-in-Some
returns-in-Some c = record { log_after = c.unmap_some.ensures.log_after; reset_struct = c.unmap_some.ensures.reset_struct }
