-- `port_unmap::unmap_port` meets its contract.
use mathlib.Core.Path.{sym, ap, ◌∙◌}
use lib.ListN.{length}
use Rattle.std.proofs.lemmas.Result.{err_from_is_err_and}
use Rattle.log_entries.specs.View.{state_of}
use Rattle.net_memory.specs.View.{memory_of}
use Rattle.net_memory.specs.declared.MemoryReadPort.{MemoryReadPort}
use Rattle.net_memory.proofs.Sized.{reads_length, writes_length}
use Rattle.rules.specs.Ports.{unmap_dff, unmap_read_dff}
use Rattle.port_unmap.specs.Ready.{own_flip_flop}
use Rattle.port_unmap.specs.Call.{driving}
use Rattle.port_unmap.proofs.Passed.{is_there_lem, ready, flip_none, flip_some, dff_some, driven_as, none_refused, none_done, struct_none}
use Rattle.port_unmap.proofs.unmap_port.Goals as goal

pub unmap-requires : goal.unmap-requires
unmap-requires c =
    let v = c.args in
    let x = reads_length v.given.memory _ c.well_formed.1.1.1.0.1.1.0 v.given.nets.now v.given.trits.now in
    let y = writes_length v.given.memory _ c.well_formed.1.1.1.0.1.1.0 v.given.nets.now in
    let h = is_there_lem v.st.next v.given.memory v.given.nets.now v.given.trits.now v.i v.output.now c.requires x y in
    let e = ap (λ (q : MemoryReadPort). q.flip_flop) (sym (c.read_port.ensures.own h)) ∙ c.in-Some.is in
    ready v.st.next v.given.memory v.given.nets.now v.given.trits.now v.i v.output.now c.requires x y c.in-Some.controls e

pub returns-in_err-room_refusal-in-None : goal.returns-in_err-room_refusal-in-None
returns-in_err-room_refusal-in-None c =
    let v = c.args in
    let x = reads_length v.given.memory _ c.well_formed.1.1.1.0.1.1.0 v.given.nets.now v.given.trits.now in
    let y = writes_length v.given.memory _ c.well_formed.1.1.1.0.1.1.0 v.given.nets.now in
    let h = is_there_lem v.st.next v.given.memory v.given.nets.now v.given.trits.now v.i v.output.now c.requires x y in
    let q = ap (λ (q : MemoryReadPort). q.flip_flop) (sym (c.read_port.ensures.own h)) ∙ c.in-None.is in
    let e = err_from_is_err_and c.from_residual.result c.from_residual.ensures.1 in
    rw (e.1, e.2) (record { log_after = none_refused v.given.memory v.given.nets.now v.given.trits.now v.i v.output.now v.log.now v.st (flip_none v.given.memory v.given.nets.now v.given.trits.now v.i h q) _ c.in_err-room_refusal-in-None.ensures; new_struct = tt })

pub returns-in_ok-room_refusal-in-None : goal.returns-in_ok-room_refusal-in-None
returns-in_ok-room_refusal-in-None c =
    let v = c.args in
    let x = reads_length v.given.memory _ c.well_formed.1.1.1.0.1.1.0 v.given.nets.now v.given.trits.now in
    let y = writes_length v.given.memory _ c.well_formed.1.1.1.0.1.1.0 v.given.nets.now in
    let h = is_there_lem v.st.next v.given.memory v.given.nets.now v.given.trits.now v.i v.output.now c.requires x y in
    let q = ap (λ (q : MemoryReadPort). q.flip_flop) (sym (c.read_port.ensures.own h)) ∙ c.in-None.is in
    record { log_after = none_done v.given.memory v.given.nets.now v.given.trits.now v.i v.output.now v.log.now v.st (flip_none v.given.memory v.given.nets.now v.given.trits.now v.i h q) c.in_ok-room_refusal-in-None.ensures; new_struct = struct_none v.given.memory v.i q }

pub returns-in-Some : goal.returns-in-Some
returns-in-Some c =
    let v = c.args in
    let x = reads_length v.given.memory _ c.well_formed.1.1.1.0.1.1.0 v.given.nets.now v.given.trits.now in
    let y = writes_length v.given.memory _ c.well_formed.1.1.1.0.1.1.0 v.given.nets.now in
    let h = is_there_lem v.st.next v.given.memory v.given.nets.now v.given.trits.now v.i v.output.now c.requires x y in
    let k = c.in-Some.controls in
    let e = ap (λ (q : MemoryReadPort). q.flip_flop) (sym (c.read_port.ensures.own h)) ∙ c.in-Some.is in
    let w = memory_of v.given.memory v.given.nets.now v.given.trits.now in
    let f = own_flip_flop v.given.memory v.given.trits.now v.i k in
    record { log_after = driven_as (driving v.given.memory v.given.nets.now v.given.trits.now v.output.now) v.log.now (state_of v.st) (length v.log.now) (unmap_dff w v.i v.output.now f) (unmap_read_dff w v.i v.output.now) _ (dff_some w v.i v.output.now f (flip_some v.given.memory v.given.nets.now v.given.trits.now v.i h k e)) c.unmap.ensures.log_after; new_struct = c.unmap.ensures.new_struct }
