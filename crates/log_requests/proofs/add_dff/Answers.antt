-- `log_requests::add_dff` meets its contract.
use mathlib.Core.Path.{sym}
use Prim.Native.Nat.{◌+◌, ◌*◌}
use lib.ListN.{length}
use Rattle.log_requests.proofs.Numbers.{counted_dff_4}
use Rattle.net_flip_flop.specs.View.{flip_flop_of}
use Rattle.log_entries.specs.View.{state_of}
use Rattle.log_requests.proofs.Answers.{request_refused, request_accepted}
use Rattle.rules.specs.Refusals.{add_dff_refusal, dff_number}
use Rattle.rules.specs.Answers.{add_dff_call}
use Rattle.rules.specs.Log.{add_dff_of}
use Rattle.lists.specs.Lists.{up_from}
use Rattle.rules.proofs.Entries.{value_dff}
use Rattle.std.proofs.lemmas.Result.{err_from_is_err_and}
use Rattle.std.proofs.Common.{rules}
use Rattle.log_entries.proofs.Emission.{unnamed, run_name}
use Rattle.log_requests.proofs.add_dff.Goals as goal

pub returns-in_err-dff_refusal : goal.returns-in_err-dff_refusal
unfolding add_dff_call add_dff_refusal
returns-in_err-dff_refusal c =
    let v = c.args in
    let f = flip_flop_of v.f in
    let e = err_from_is_err_and c.from_residual.result c.from_residual.ensures.1 in
    rw (e.1, e.2) (request_refused (up_from v.st.next (length v.f.bits.now)) (add_dff_of f) (13 + 4 * length v.f.bits.now) (length v.f.bits.now) (dff_number v.st.next f) (counted_dff_4 v.st.next f) v.log.now (state_of v.st) _ c.in_err-dff_refusal.ensures)

pub returns : goal.returns
unfolding add_dff_call add_dff_refusal
returns c =
    let v = c.args in
    let f = flip_flop_of v.f in
    let p = c.emit_dff in
    let n = run_name (add_dff_of f) _ _ p.ensures in
    let e = request_accepted (up_from v.st.next (length v.f.bits.now)) (add_dff_of f) (13 + 4 * length v.f.bits.now) (length v.f.bits.now) (dff_number v.st.next f) (counted_dff_4 v.st.next f) v.log.now (state_of v.st) p.new.self.words.now p.new.self.state c.in_ok-dff_refusal.ensures (λ z. sym (value_dff f v.st.next)) (unnamed (add_dff_of f) 0 _ _ p.ensures) in
    search rules
