-- `log_requests::add_not` meets its contract.
use Prim.Native.Nat.{◌+◌}
use lib.ListN.{length}
use Rattle.log_entries.specs.View.{state_of}
use Rattle.log_requests.proofs.Answers.{request_refused, request_accepted, value_not}
use Rattle.rules.specs.Refusals.{value_number, add_not_refusal}
use Rattle.rules.specs.Answers.{add_not_call}
use Rattle.rules.proofs.Counted.{counted_not}
use Rattle.rules.specs.Log.{add_not_of}
use Rattle.lists.specs.Lists.{up_from}
use Rattle.std.proofs.lemmas.Result.{err_from_is_err_and}
use Rattle.std.proofs.Common.{rules}
use Rattle.log_entries.proofs.Emission.{unnamed, run_name}
use Rattle.log_requests.proofs.add_not.Goals as goal

pub returns-in_err-value_refusal : goal.returns-in_err-value_refusal
unfolding add_not_call add_not_refusal
returns-in_err-value_refusal c =
    let v = c.args in
    let e = err_from_is_err_and c.from_residual.result c.from_residual.ensures.1 in
    rw (e.1, e.2) (request_refused (up_from v.st.next (length v.a.now)) (add_not_of v.a.now) (4 + length v.a.now) (length v.a.now) (value_number v.st.next v.a.now) (λ z. counted_not v.a.now) v.log.now (state_of v.st) _ c.in_err-value_refusal.ensures)

pub returns : goal.returns
unfolding add_not_call add_not_refusal
returns c =
    let v = c.args in
    let p = c.emit_not in
    let n = run_name (add_not_of v.a.now) _ _ p.ensures in
    let e = request_accepted (up_from v.st.next (length v.a.now)) (add_not_of v.a.now) (4 + length v.a.now) (length v.a.now) (value_number v.st.next v.a.now) (λ z. counted_not v.a.now) v.log.now (state_of v.st) p.new.self.words.now p.new.self.state c.in_ok-value_refusal.ensures (λ z. value_not v.a.now v.st.next) (unnamed (add_not_of v.a.now) 0 _ _ p.ensures) in
    search rules
