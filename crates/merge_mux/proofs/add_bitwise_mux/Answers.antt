-- `merge_mux::add_bitwise_mux` meets its contract.
use Rattle.std.proofs.Common.{rules}
use mathlib.Core.Path.{refl, sym, ap, ◌∙◌}
use lib.ListN.{length}
use lib.Seq.{sets}
use Rattle.rules.specs.Value.{Value}
use Rattle.rules.specs.Log.{Trace}
use Rattle.log_entries.specs.Emission.{run}
use Rattle.log_entries.proofs.Emission.{unnamed, run_name}
use Rattle.merge_mux.specs.Runs.{bitwise_of}
use Rattle.log_entries.specs.View.{state_of, lent}
use Rattle.log_requests.proofs.Merged.{input_refused, log_refused, merge_accepted}
use Rattle.rules.specs.Answers.{add_bitwise_mux_call}
use Rattle.rules.specs.Merge.{add_bitwise_mux_of}
use Rattle.rules.specs.Refusals.{bitwise_number, result_refusal, log_refusal, add_bitwise_mux_refusal}
use Rattle.rules.proofs.Chain.{chains_bitwise_mux}
use Rattle.merge_mux.proofs.Numbers.{bitwise_all}
use Rattle.std.proofs.lemmas.Result.{err_from_is_err_and}
use Rattle.merge_mux.proofs.add_bitwise_mux.Goals as goal

pub returns-in_err-bitwise_input_refusal : goal.returns-in_err-bitwise_input_refusal
unfolding add_bitwise_mux_call add_bitwise_mux_refusal
returns-in_err-bitwise_input_refusal c =
    let v = c.args in
    let s = state_of v.st in
    let t = add_bitwise_mux_of v.s.now v.a.now v.b.now in
    let number = bitwise_number v.st.next v.s.now v.a.now v.b.now in
    let result = result_refusal (length v.out.now) v.a.now in
    let e = err_from_is_err_and c.from_residual.result c.from_residual.ensures.1 in
    rw (e.1, e.2) (input_refused (t v.st.next).value v.log.now v.out.now s t number result _ c.in_err-bitwise_input_refusal.ensures)

pub returns-in_err-bitwise_log_refusal : goal.returns-in_err-bitwise_log_refusal
unfolding add_bitwise_mux_call add_bitwise_mux_refusal
returns-in_err-bitwise_log_refusal c =
    let v = c.args in
    let s = state_of v.st in
    let t = add_bitwise_mux_of v.s.now v.a.now v.b.now in
    let number = bitwise_number v.st.next v.s.now v.a.now v.b.now in
    let result = result_refusal (length v.out.now) v.a.now in
    let z = c.in_ok-bitwise_input_refusal.ensures in
    let a = bitwise_all v.st.next (length v.out.now) v.s.now v.a.now v.b.now (sym z) in
    let e = c.in_err-bitwise_log_refusal.ensures ∙ ap (λ (u : Trace Value). log_refusal (length v.log.now) s u) a in
    let r = err_from_is_err_and c.from_residual-in_err-bitwise_log_refusal.result c.from_residual-in_err-bitwise_log_refusal.ensures.1 in
    rw (r.1, r.2) (log_refused (t v.st.next).value v.log.now v.out.now s t number result z _ e)

pub returns : goal.returns
unfolding add_bitwise_mux_call add_bitwise_mux_refusal
returns c =
    let v = c.args in
    let s = state_of v.st in
    let t = add_bitwise_mux_of v.s.now v.a.now v.b.now in
    let number = bitwise_number v.st.next v.s.now v.a.now v.b.now in
    let result = result_refusal (length v.out.now) v.a.now in
    let z = c.in_ok-bitwise_input_refusal.ensures in
    let a = bitwise_all v.st.next (length v.out.now) v.s.now v.a.now v.b.now (sym z) in
    let e = c.in_ok-bitwise_log_refusal.ensures ∙ ap (λ (u : Trace Value). log_refusal (length v.log.now) s u) a in
    let p = c.emit_bitwise_nets in
    let e0 = unnamed (bitwise_of v.s.now v.a.now v.b.now) 0 _ _ p.ensures.log_after in
    let n = run_name (bitwise_of v.s.now v.a.now v.b.now) _ _ p.ensures.log_after in
    let w = merge_accepted (t v.st.next).value v.log.now v.out.now s t number result z p.new.log.words.now _ p.new.log.state (chains_bitwise_mux v.s.now v.a.now v.b.now) e refl
    (e0 ∙ ap (λ (u : Trace Value). run u (lent v.st v.log.now)) a)
    (λ o. p.ensures.nets_after o ∙ ap (λ (u : Trace Value). sets v.out.now 0 (u v.st.next).value) a) in
    search rules
