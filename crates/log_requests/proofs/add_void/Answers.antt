-- `log_requests::add_void` meets its contract.
use mathlib.Core.Path.{sym}
use Rattle.log_entries.specs.View.{state_of}
use Rattle.log_requests.proofs.Answers.{request_refused, request_accepted}
use Rattle.lists.specs.Choice.{◌or_else◌}
use Rattle.rules.specs.Refusals.{add_void_refusal}
use Rattle.rules.specs.Answers.{add_void_call}
use Rattle.rules.proofs.Counted.{counted_void}
use Rattle.rules.specs.Log.{add_void_of}
use Rattle.lists.specs.Lists.{up_from}
use Rattle.rules.proofs.Entries.{value_void}
use Rattle.std.proofs.lemmas.Result.{err_from_is_err_and}
use Rattle.std.proofs.Common.{rules}
use Rattle.log_entries.proofs.Emission.{unnamed, run_name}
use Rattle.log_requests.proofs.add_void.Goals as goal

pub returns-in_err-room_refusal : goal.returns-in_err-room_refusal
unfolding add_void_call add_void_refusal ◌or_else◌
returns-in_err-room_refusal c =
    let v = c.args in
    let e = err_from_is_err_and c.from_residual.result c.from_residual.ensures.1 in
    rw (e.1, e.2) (request_refused (up_from v.st.next v.width) (add_void_of v.width) 4 v.width 0 (λ z. counted_void v.width) v.log.now (state_of v.st) _ c.in_err-room_refusal.ensures)

pub returns : goal.returns
unfolding add_void_call add_void_refusal ◌or_else◌
returns c =
    let v = c.args in
    let p = c.emit_void in
    let n = run_name (add_void_of v.width) _ _ p.ensures in
    let e = request_accepted (up_from v.st.next v.width) (add_void_of v.width) 4 v.width 0 (λ z. counted_void v.width) v.log.now (state_of v.st) p.new.self.words.now p.new.self.state c.in_ok-room_refusal.ensures (λ z. sym (value_void v.width v.st.next)) (unnamed (add_void_of v.width) 0 _ _ p.ensures) in
    search rules
