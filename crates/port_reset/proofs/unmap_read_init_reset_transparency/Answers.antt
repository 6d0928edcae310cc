-- `port_reset::unmap_read_init_reset_transparency` meets its contract.
use mathlib.Core.Path.{refl, sym}
use Rattle.std.proofs.lemmas.Result.{err_from_is_err_and}
use Rattle.port_reset.proofs.Passed.{call_refused, call_passed}
use Rattle.port_reset.proofs.unmap_read_init_reset_transparency.Goals as goal

pub returns-in_err-reset_refusal : goal.returns-in_err-reset_refusal
returns-in_err-reset_refusal c =
    let v = c.args in
    let e = err_from_is_err_and c.from_residual.result c.from_residual.ensures.1 in
    rw (e.1, e.2) (record { log_after = call_refused v.m v.nets.now v.trits.now v.port v.incl v.output.now v.log.now v.st _ c.in_err-reset_refusal.ensures; reset_struct = refl })

pub shape_of-log : goal.shape_of-log
shape_of-log c = c.unmap_port.auto.log

pub shape_of-output : goal.shape_of-output
shape_of-output c = c.unmap_port.auto.output

pub shape_of-trits : goal.shape_of-trits
shape_of-trits c = c.unmap_port.auto.trits

pub returns : goal.returns
returns c =
    let v = c.args in
    let z = sym c.in_ok-reset_refusal.ensures in
    record { log_after = call_passed v.m v.nets.now v.trits.now v.port v.incl v.output.now v.log.now v.st _ z c.unmap_port.ensures.log_after; reset_struct = c.unmap_port.ensures.reset_struct }
