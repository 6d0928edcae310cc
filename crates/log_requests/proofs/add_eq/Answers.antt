-- `log_requests::add_eq` meets its contract.
use Prim.Native.Nat.{◌+◌}
use lib.ListN.{length}
use Rattle.log_entries.specs.View.{state_of}
use Rattle.log_requests.proofs.Answers.{request_refused, request_accepted, value_eq}
use Rattle.rules.specs.Refusals.{pair_number, add_pair_refusal}
use Rattle.rules.specs.Answers.{add_pair_call}
use Rattle.rules.proofs.Counted.{counted_eq}
use Rattle.rules.specs.Log.{add_eq_of}
use Rattle.std.proofs.lemmas.Result.{err_from_is_err_and}
use Rattle.std.proofs.Common.{rules}
use Rattle.log_entries.proofs.Emission.{unnamed, run_name}
use Rattle.log_requests.proofs.add_eq.Goals as goal

pub returns-in_err-pair_refusal : goal.returns-in_err-pair_refusal
unfolding add_pair_call add_pair_refusal
returns-in_err-pair_refusal c =
    let v = c.args in
    let e = err_from_is_err_and c.from_residual.result c.from_residual.ensures.1 in
    rw (e.1, e.2) (request_refused (v.st.next) (add_eq_of v.a.now v.b.now) (4 + (length v.a.now + length v.b.now)) (1) (pair_number v.st.next v.a.now v.b.now) (λ z. counted_eq v.a.now v.b.now) v.log.now (state_of v.st) _ c.in_err-pair_refusal.ensures)

pub returns : goal.returns
unfolding add_pair_call add_pair_refusal
returns c =
    let v = c.args in
    let p = c.emit_eq in
    let n = run_name (add_eq_of v.a.now v.b.now) _ _ p.ensures in
    let e = request_accepted (v.st.next) (add_eq_of v.a.now v.b.now) (4 + (length v.a.now + length v.b.now)) (1) (pair_number v.st.next v.a.now v.b.now) (λ z. counted_eq v.a.now v.b.now) v.log.now (state_of v.st) p.new.self.words.now p.new.self.state c.in_ok-pair_refusal.ensures (λ z. value_eq v.a.now v.b.now v.st.next) (unnamed (add_eq_of v.a.now v.b.now) 0 _ _ p.ensures) in
    search rules
