-- `log_requests::add_mux` meets its contract.
use mathlib.Core.Path.{sym}
use Prim.Native.Nat.{◌+◌}
use lib.ListN.{length}
use Rattle.log_entries.specs.View.{state_of}
use Rattle.net_value.specs.View.{control_of}
use Rattle.log_requests.proofs.Answers.{request_refused, request_accepted}
use Rattle.rules.specs.Refusals.{mux_number, add_mux_refusal}
use Rattle.rules.specs.Answers.{add_mux_call}
use Rattle.rules.proofs.Counted.{counted_mux}
use Rattle.rules.specs.Log.{add_mux_of}
use Rattle.lists.specs.Lists.{up_from}
use Rattle.rules.proofs.Entries.{value_mux}
use Rattle.log_requests.proofs.Numbers.{mux_lens}
use Rattle.std.proofs.lemmas.Result.{err_from_is_err_and}
use Rattle.std.proofs.Common.{rules}
use Rattle.log_entries.proofs.Emission.{unnamed, run_name}
use Rattle.log_requests.proofs.add_mux.Goals as goal

pub returns-in_err-mux_refusal : goal.returns-in_err-mux_refusal
unfolding add_mux_call add_mux_refusal
returns-in_err-mux_refusal c =
    let v = c.args in
    let e = err_from_is_err_and c.from_residual.result c.from_residual.ensures.1 in
    rw (e.1, e.2) (request_refused (up_from v.st.next (length v.a.now)) (add_mux_of (control_of v.select) v.a.now v.b.now) (5 + (length v.a.now + length v.b.now)) (length v.a.now) (mux_number v.st.next (control_of v.select) v.a.now v.b.now) (λ z. counted_mux (control_of v.select) v.a.now v.b.now (mux_lens v.st.next (control_of v.select) v.a.now v.b.now z).0) v.log.now (state_of v.st) _ c.in_err-mux_refusal.ensures)

pub returns : goal.returns
unfolding add_mux_call add_mux_refusal
returns c =
    let v = c.args in
    let p = c.emit_mux in
    let n = run_name (add_mux_of (control_of v.select) v.a.now v.b.now) _ _ p.ensures in
    let e = request_accepted (up_from v.st.next (length v.a.now)) (add_mux_of (control_of v.select) v.a.now v.b.now) (5 + (length v.a.now + length v.b.now)) (length v.a.now) (mux_number v.st.next (control_of v.select) v.a.now v.b.now) (λ z. counted_mux (control_of v.select) v.a.now v.b.now (mux_lens v.st.next (control_of v.select) v.a.now v.b.now z).0) v.log.now (state_of v.st) p.new.self.words.now p.new.self.state c.in_ok-mux_refusal.ensures (λ z. sym (value_mux (control_of v.select) v.a.now v.b.now v.st.next (mux_lens v.st.next (control_of v.select) v.a.now v.b.now z).0)) (unnamed (add_mux_of (control_of v.select) v.a.now v.b.now) 0 _ _ p.ensures) in
    search rules
