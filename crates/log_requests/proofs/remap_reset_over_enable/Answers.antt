-- `log_requests::remap_reset_over_enable` meets its contract.
use lib.ListN.{length}
use Rattle.log_entries.specs.View.{state_of}
use Rattle.net_flip_flop.specs.View.{controls_of}
use Rattle.log_requests.proofs.Answers.{refused, dry_refused, dry_accepted}
use Rattle.rules.specs.Log.{remap_reset_over_enable_of}
use Rattle.rules.specs.Refusals.{remap_number, remap_reset_over_enable_refusal}
use Rattle.rules.specs.Answers.{remap_call}
use Rattle.rules.proofs.Chain.{chains_remap}
use Rattle.log_entries.proofs.Emission.{dry_called, unnamed, run_name}
use Rattle.log_requests.proofs.Remap.{remap_below}
use Rattle.std.proofs.lemmas.Result.{err_from_is_err_and}
use Rattle.rules.proofs.Answers.{else_err}
use Rattle.std.proofs.Common.{rules}
use Rattle.log_requests.proofs.remap_reset_over_enable.Goals as goal

pub returns-in_err-remap_input_refusal : goal.returns-in_err-remap_input_refusal
unfolding remap_call remap_reset_over_enable_refusal
returns-in_err-remap_input_refusal c =
    let v = c.args in
    let k = controls_of v.c in
    let e = err_from_is_err_and c.from_residual.result c.from_residual.ensures.1 in
    rw (e.1, e.2) (refused k _ v.log.now (state_of v.st) (remap_reset_over_enable_of k) _ (else_err _ _ _ c.in_err-remap_input_refusal.ensures))

pub returns-in_err-dry_refusal : goal.returns-in_err-dry_refusal
unfolding remap_call remap_reset_over_enable_refusal
returns-in_err-dry_refusal c =
    let v = c.args in
    let k = controls_of v.c in
    let s = state_of v.st in
    let d = c.emit_remap in
    let n = dry_called (remap_reset_over_enable_of k) (length v.log.now) s _ (chains_remap k) (remap_below k s) d.new.log.words.now _ (state_of d.new.log.state) _ c.dry_start.ensures (unnamed (remap_reset_over_enable_of k) 0 _ _ d.ensures.log_after) c.in_err-dry_refusal.ensures in
    let e = err_from_is_err_and c.from_residual-in_err-dry_refusal.result c.from_residual-in_err-dry_refusal.ensures.1 in
    rw (e.1, e.2) (dry_refused k (remap_reset_over_enable_of k) (chains_remap k) (remap_number v.st.next k) c.in_ok-remap_input_refusal.ensures v.log.now s _ n)

pub returns : goal.returns
unfolding remap_call remap_reset_over_enable_refusal
returns c =
    let v = c.args in
    let k = controls_of v.c in
    let s = state_of v.st in
    let d = c.emit_remap in
    let n = dry_called (remap_reset_over_enable_of k) (length v.log.now) s _ (chains_remap k) (remap_below k s) d.new.log.words.now _ (state_of d.new.log.state) _ c.dry_start.ensures (unnamed (remap_reset_over_enable_of k) 0 _ _ d.ensures.log_after) c.in_ok-dry_refusal.ensures in
    let p = c.emit_remap-value in
    let m = run_name (remap_reset_over_enable_of k) _ _ p.ensures.log_after in
    let e = dry_accepted (controls_of p.result) (remap_reset_over_enable_of k) (chains_remap k) (remap_number v.st.next k) c.in_ok-remap_input_refusal.ensures v.log.now s p.new.log.words.now p.new.log.state n p.ensures.controls_value (unnamed (remap_reset_over_enable_of k) 0 _ _ p.ensures.log_after) in
    search rules
