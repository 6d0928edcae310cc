-- `merge_dff::add_dedup_dff` meets its contract.
use Rattle.std.proofs.Common.{rules}
use mathlib.Core.Path.{refl, sym, ap, ◌∙◌}
use mathlib.Core.List.{List}
use Prim.Native.Nat.{ℕ}
use lib.ListN.{length}
use lib.Seq.{sets}
use Rattle.rules.specs.Merge.{add_dedup_dff_of}
use Rattle.rules.specs.Refusals.{log_refusal, result_refusal, merge_dff_number, add_dedup_dff_refusal}
use Rattle.rules.specs.Answers.{add_dedup_dff_call}
use Rattle.rules.proofs.Chain.{chains_dedup_dff}
use Rattle.log_entries.specs.Emission.{run}
use Rattle.log_entries.proofs.Emission.{unnamed, run_name}
use Rattle.merge_dff.specs.Packs.{limited_dff}
use Rattle.log_entries.specs.View.{state_of, lent}
use Rattle.net_flip_flop.specs.View.{controls_of, flip_flop, flip_flop_of}
use Rattle.log_requests.proofs.Merged.{input_refused, log_refused, merge_accepted}
use Rattle.merge_mux.proofs.Spread.{results_are}
use Rattle.merge_dff.proofs.Call.{all_bits}
use Rattle.std.proofs.lemmas.Result.{err_from_is_err_and}
use Rattle.merge_dff.proofs.add_dedup_dff.Goals as goal

pub returns-in_err-input_refusal : goal.returns-in_err-input_refusal
unfolding add_dedup_dff_call add_dedup_dff_refusal
returns-in_err-input_refusal c =
    let v = c.args in
    let s = state_of v.st in
    let f = flip_flop_of v.f in
    let number = merge_dff_number v.st.next f in
    let result = result_refusal (length v.out.now) v.f.bits.now in
    let e = err_from_is_err_and c.from_residual.result c.from_residual.ensures.1 in
    rw (e.1, e.2) (input_refused (add_dedup_dff_of f v.st.next).value v.log.now v.out.now s (add_dedup_dff_of f) number result _ c.in_err-input_refusal.ensures)

pub returns-in_err-log_refusal : goal.returns-in_err-log_refusal
unfolding add_dedup_dff_call add_dedup_dff_refusal
returns-in_err-log_refusal c =
    let v = c.args in
    let s = state_of v.st in
    let f = flip_flop_of v.f in
    let number = merge_dff_number v.st.next f in
    let result = result_refusal (length v.out.now) v.f.bits.now in
    let z = c.in_ok-input_refusal.ensures in
    let a = all_bits v.st.next (length v.out.now) (controls_of v.f.controls) v.f.bits.now v.f.clear.now v.f.reset.now v.f.init.now (sym z) in
    let e = c.in_err-log_refusal.ensures ∙ ap (λ (b : List ℕ). log_refusal (length v.log.now) s (add_dedup_dff_of (flip_flop (controls_of v.f.controls) b v.f.clear.now v.f.reset.now v.f.init.now))) a in
    let r = err_from_is_err_and c.from_residual-in_err-log_refusal.result c.from_residual-in_err-log_refusal.ensures.1 in
    rw (r.1, r.2) (log_refused (add_dedup_dff_of f v.st.next).value v.log.now v.out.now s (add_dedup_dff_of f) number result z _ e)

pub returns : goal.returns
unfolding add_dedup_dff_call add_dedup_dff_refusal
returns c =
    let v = c.args in
    let s = state_of v.st in
    let f = flip_flop_of v.f in
    let number = merge_dff_number v.st.next f in
    let result = result_refusal (length v.out.now) v.f.bits.now in
    let z = c.in_ok-input_refusal.ensures in
    let a = all_bits v.st.next (length v.out.now) (controls_of v.f.controls) v.f.bits.now v.f.clear.now v.f.reset.now v.f.init.now (sym z) in
    let e = c.in_ok-log_refusal.ensures ∙ ap (λ (b : List ℕ). log_refusal (length v.log.now) s (add_dedup_dff_of (flip_flop (controls_of v.f.controls) b v.f.clear.now v.f.reset.now v.f.init.now))) a in
    let p = c.emit_dedup_dff in
    let n = run_name (add_dedup_dff_of (limited_dff v.f)) _ _ p.ensures.log_after in
    let e0 = unnamed (add_dedup_dff_of (limited_dff v.f)) 0 _ _ p.ensures.log_after in
    let w = merge_accepted (add_dedup_dff_of f v.st.next).value v.log.now v.out.now s (add_dedup_dff_of f) number result z p.new.log.words.now _ p.new.log.state (chains_dedup_dff f) e refl
    (e0 ∙ ap (λ (b : List ℕ). run (add_dedup_dff_of (flip_flop (controls_of v.f.controls) b v.f.clear.now v.f.reset.now v.f.init.now)) (lent v.st v.log.now)) a)
    (λ o. p.ensures.out_after ∙ results_are _ v.out.now 0 _ o ∙ ap (λ (b : List ℕ). sets v.out.now 0 (add_dedup_dff_of (flip_flop (controls_of v.f.controls) b v.f.clear.now v.f.reset.now v.f.init.now) v.st.next).value) a) in
    search rules
