-- `log_requests::into_pos` meets its contract.
use Prim.Native.Nat.{◌*◌}
use mathlib.Core.List.{[], ◌∷◌}
use Rattle.log_entries.specs.View.{state_of}
use Rattle.net_value.specs.View.{control_of}
use Rattle.log_requests.proofs.Remap.{counted_into_pos}
use Rattle.log_requests.proofs.Answers.{request_refused, request_accepted}
use Rattle.log_requests.specs.Remap.{nots_of}
use Rattle.rules.specs.Log.{into_pos_of}
use Rattle.rules.specs.Refusals.{control_number, into_pos_refusal}
use Rattle.rules.specs.Answers.{into_pos_call}
use Rattle.std.proofs.lemmas.Result.{err_from_is_err_and}
use Rattle.std.proofs.Common.{rules}
use Rattle.log_entries.proofs.Emission.{unnamed, run_name}
use Rattle.log_requests.proofs.into_pos.Goals as goal

pub returns-in_err-into_pos_refusal : goal.returns-in_err-into_pos_refusal
unfolding into_pos_call into_pos_refusal
returns-in_err-into_pos_refusal c =
    let v = c.args in
    let k = control_of v.c in
    let e = err_from_is_err_and c.from_residual.result c.from_residual.ensures.1 in
    rw (e.1, e.2) (request_refused [] (into_pos_of k) (5 * nots_of k) (nots_of k) (control_number v.st.next k) (λ z. counted_into_pos k) v.log.now (state_of v.st) _ c.in_err-into_pos_refusal.ensures)

pub returns : goal.returns
unfolding into_pos_call into_pos_refusal
returns c =
    let v = c.args in
    let k = control_of v.c in
    let p = c.emit_into_pos-value in
    let n = run_name (into_pos_of k) _ _ p.ensures.log_after in
    let e = request_accepted (p.result.0 ∷ []) (into_pos_of k) (5 * nots_of k) (nots_of k) (control_number v.st.next k) (λ z. counted_into_pos k) v.log.now (state_of v.st) p.new.log.words.now p.new.log.state c.in_ok-into_pos_refusal.ensures (λ z. p.ensures.net_value) (unnamed (into_pos_of k) 0 _ _ p.ensures.log_after) in
    search rules
