-- `port_reset::unmap_some` meets its contract.
use mathlib.Core.Path.{refl, sym, ◌∙◌}
use Rattle.std.proofs.lemmas.Result.{err_from_is_err_and}
use Rattle.rules.specs.Ports.{is_plain}
use Rattle.net_memory.specs.View.{clocked_by}
use Rattle.net_memory.proofs.Sized.{reads_length, writes_length}
use Rattle.port_unmap.specs.Ready.{own_flip_flop}
use Rattle.port_unmap.proofs.Passed.{flip_some}
use Rattle.port_reset.proofs.Passed.{is_there_lem, ready, plain_refused, plain_done, some_done, struct_plain, struct_some}
use Rattle.port_reset.proofs.unmap_some.Goals as goal

pub returns-in_err-room_refusal : goal.returns-in_err-room_refusal
returns-in_err-room_refusal c =
    let v = c.args in
    let x = reads_length v.m _ c.well_formed.1.1.1.1.0 v.nets.now v.trits.now in
    let y = writes_length v.m _ c.well_formed.1.1.1.1.0 v.nets.now in
    let h = is_there_lem v.st.next v.m v.nets.now v.trits.now v.i v.incl v.output.now c.requires.1 x y in
    let q = sym (c.port_plain.ensures ∙ (λ k. is_plain v.incl (clocked_by v.c (c.read_port.ensures.own h k) (c.read_port.ensures.trits.0 k)))) ∙ c.if-port_plain.true in
    let f = flip_some v.m v.nets.now v.trits.now v.i h v.c c.requires.0 in
    let e = err_from_is_err_and c.from_residual.result c.from_residual.ensures.1 in
    rw (e.1, e.2) (record { log_after = plain_refused v.m v.nets.now v.trits.now v.i v.incl v.output.now v.log.now v.st (own_flip_flop v.m v.trits.now v.i v.c) f q _ c.in_err-room_refusal.ensures; reset_struct = refl })

pub returns-then-port_plain : goal.returns-then-port_plain
returns-then-port_plain c =
    let v = c.args in
    let x = reads_length v.m _ c.well_formed.1.1.1.1.0 v.nets.now v.trits.now in
    let y = writes_length v.m _ c.well_formed.1.1.1.1.0 v.nets.now in
    let h = is_there_lem v.st.next v.m v.nets.now v.trits.now v.i v.incl v.output.now c.requires.1 x y in
    let q = sym (c.port_plain.ensures ∙ (λ k. is_plain v.incl (clocked_by v.c (c.read_port.ensures.own h k) (c.read_port.ensures.trits.0 k)))) ∙ c.if-port_plain.true in
    let f = flip_some v.m v.nets.now v.trits.now v.i h v.c c.requires.0 in
    record { log_after = plain_done v.m v.nets.now v.trits.now v.i v.incl v.output.now v.log.now v.st (own_flip_flop v.m v.trits.now v.i v.c) f q c.in_ok-room_refusal.ensures; reset_struct = struct_plain v.m v.i v.incl v.trits.now v.c c.requires.0 q }

pub unmap_clocked-requires : goal.unmap_clocked-requires
unmap_clocked-requires c =
    let v = c.args in
    let x = reads_length v.m _ c.well_formed.1.1.1.1.0 v.nets.now v.trits.now in
    let y = writes_length v.m _ c.well_formed.1.1.1.1.0 v.nets.now in
    let g = ready v.st.next v.m v.nets.now v.trits.now v.i v.incl v.output.now c.requires.1 x y v.c c.requires.0 in
    g

pub shape_of-log : goal.shape_of-log
shape_of-log c = c.unmap_clocked.auto.log

pub shape_of-output : goal.shape_of-output
shape_of-output c = c.unmap_clocked.auto.output

pub shape_of-trits : goal.shape_of-trits
shape_of-trits c = c.unmap_clocked.auto.trits

pub returns : goal.returns
returns c =
    let v = c.args in
    let x = reads_length v.m _ c.well_formed.1.1.1.1.0 v.nets.now v.trits.now in
    let y = writes_length v.m _ c.well_formed.1.1.1.1.0 v.nets.now in
    let h = is_there_lem v.st.next v.m v.nets.now v.trits.now v.i v.incl v.output.now c.requires.1 x y in
    let g = ready v.st.next v.m v.nets.now v.trits.now v.i v.incl v.output.now c.requires.1 x y v.c c.requires.0 in
    let q = sym (c.port_plain.ensures ∙ (λ k. is_plain v.incl (clocked_by v.c (c.read_port.ensures.own h k) (c.read_port.ensures.trits.0 k)))) ∙ c.if-port_plain.false in
    let e = flip_some v.m v.nets.now v.trits.now v.i h v.c c.requires.0 in
    let u = c.unmap_clocked in
    record { log_after = some_done v.m v.nets.now v.trits.now v.i v.incl v.output.now v.log.now v.st v.c _ g e q u.ensures.log_after; reset_struct = struct_some v.m v.i v.incl v.trits.now v.c c.requires.0 u.result u.new.trits q u.ensures.acted }
