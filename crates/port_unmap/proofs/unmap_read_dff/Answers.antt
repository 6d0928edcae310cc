-- `port_unmap::unmap_read_dff` meets its contract.
use mathlib.Core.Path.{sym}
use Rattle.std.proofs.lemmas.Result.{err_from_is_err_and}
use Rattle.net_memory.proofs.Sized.{reads_length, writes_length}
use Rattle.port_unmap.proofs.Passed.{is_there_lem, call_refused, call_passed}
use Rattle.rules.specs.Log.{start_net}
use Rattle.log_entries.specs.View.{state_of}
use Rattle.port_unmap.proofs.Rooms.{unmap_fits}
use Rattle.port_unmap.proofs.unmap_read_dff.Goals as goal

pub returns-in_err-unmap_refusal : goal.returns-in_err-unmap_refusal
returns-in_err-unmap_refusal c =
    let v = c.args in
    let e = err_from_is_err_and c.from_residual.result c.from_residual.ensures.1 in
    rw (e.1, e.2) (record { log_after = call_refused v.given.memory v.given.nets.now v.given.trits.now v.port v.output.now v.log.now v.st _ c.in_err-unmap_refusal.ensures; new_struct = tt })

pub returns : goal.returns
returns c =
    let v = c.args in
    let z = sym c.in_ok-unmap_refusal.ensures in
    let h = is_there_lem v.st.next v.given.memory v.given.nets.now v.given.trits.now v.port v.output.now z (reads_length v.given.memory _ c.well_formed.1.1.1.0.1.1.0 v.given.nets.now v.given.trits.now) (writes_length v.given.memory _ c.well_formed.1.1.1.0.1.1.0 v.given.nets.now) in
    record { log_after = call_passed v.given.memory v.given.nets.now v.given.trits.now v.port v.output.now v.log.now v.st _ z (unmap_fits v.given.memory v.given.nets.now v.given.trits.now v.output.now v.port h (start_net (state_of v.st))) c.unmap_port.ensures.log_after; new_struct = c.unmap_port.ensures.new_struct }
