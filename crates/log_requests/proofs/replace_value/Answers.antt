-- `log_requests::replace_value` meets its contract.
use Prim.Native.Nat.{◌+◌}
use mathlib.Core.List.{[]}
use lib.ListN.{length}
use Rattle.log_entries.specs.View.{state_of}
use Rattle.log_requests.proofs.Answers.{request_refused, request_accepted, value_replace}
use Rattle.rules.specs.Refusals.{pair_number, add_pair_refusal}
use Rattle.rules.specs.Answers.{add_pair_call}
use Rattle.rules.proofs.Counted.{counted_replace}
use Rattle.rules.specs.Log.{replace_value_of}
use Rattle.std.proofs.lemmas.Result.{err_from_is_err_and}
use Rattle.std.proofs.Common.{rules}
use Rattle.log_entries.proofs.Emission.{unnamed, run_name}
use Rattle.log_requests.proofs.replace_value.Goals as goal

pub returns-in_err-pair_refusal : goal.returns-in_err-pair_refusal
unfolding add_pair_call add_pair_refusal
returns-in_err-pair_refusal c =
    let v = c.args in
    let e = err_from_is_err_and c.from_residual.result c.from_residual.ensures.1 in
    rw (e.1, e.2) (request_refused ([]) (replace_value_of v.from.now v.to.now) (4 + (length v.from.now + length v.to.now)) (0) (pair_number v.st.next v.from.now v.to.now) (λ z. counted_replace v.from.now v.to.now) v.log.now (state_of v.st) _ c.in_err-pair_refusal.ensures)

pub returns : goal.returns
unfolding add_pair_call add_pair_refusal
returns c =
    let v = c.args in
    let p = c.emit_replace in
    let n = run_name (replace_value_of v.from.now v.to.now) _ _ p.ensures in
    let e = request_accepted ([]) (replace_value_of v.from.now v.to.now) (4 + (length v.from.now + length v.to.now)) (0) (pair_number v.st.next v.from.now v.to.now) (λ z. counted_replace v.from.now v.to.now) v.log.now (state_of v.st) p.new.self.words.now p.new.self.state c.in_ok-pair_refusal.ensures (λ z. value_replace v.from.now v.to.now v.st.next) (unnamed (replace_value_of v.from.now v.to.now) 0 _ _ p.ensures) in
    search rules
