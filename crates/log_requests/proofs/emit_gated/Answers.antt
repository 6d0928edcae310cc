-- `log_requests::emit_gated` meets its contract.
use mathlib.Core.Path.{◌∙◌}
use Rattle.log_entries.specs.View.{lent_of}
use Rattle.net_flip_flop.specs.View.{controls_of}
use Rattle.log_requests.proofs.Remap.{gated_run, gated_value}
use Rattle.log_requests.proofs.emit_gated.Goals as goal

pub returns : goal.returns
returns c =
    let v = c.args in
    let k = controls_of v.c in
    let p = c.emit_into_pos-reset in
    let q = c.emit_into_pos-enable in
    let r = c.emit_and in
    let l = lent_of v.log.now in
    let l1 = lent_of p.new.log in
    let l2 = lent_of q.new.log in
    let l3 = lent_of r.new.self in
    record { log_after = gated_run k l l1 l2 l3 p.result.0 q.result.0 p.ensures.log_after p.ensures.net_value q.ensures.log_after q.ensures.net_value r.ensures; controls_value = λ o. c.with_reset.ensures ∙ gated_value k l l1 l2 l3 p.result.0 q.result.0 p.ensures.log_after p.ensures.net_value q.ensures.log_after q.ensures.net_value r.ensures o }
