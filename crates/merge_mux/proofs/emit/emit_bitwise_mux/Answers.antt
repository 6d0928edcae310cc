-- `merge_mux::emit::emit_bitwise_mux` meets its contract.
use mathlib.Core.Path.{sym, ap, ◌∙◌}
use native.Mathlib.Omega.{arith}
use lib.Seq.{sets}
use Rattle.rules.specs.Log.{Trace}
use Rattle.rules.specs.Value.{Value}
use Rattle.log_entries.specs.Emission.{run}
use Rattle.log_entries.specs.View.{lent_of}
use Rattle.merge_mux.proofs.Bitwise.{cut_value, cut_is}
use Rattle.merge_mux.proofs.Spread.{results_none, results_some}
use Rattle.merge_mux.proofs.emit.emit_bitwise_mux.Goals as goal

pub returns-then-is_over : goal.returns-then-is_over
returns-then-is_over c =
    let v = c.args in
    let q = c.bits_of-n in
    let p = c.mux_runs in
    let e = cut_is v.s.now v.a.now v.b.now q.result q.ensures.within q.ensures.value in
    record { log_after = p.ensures.log_after ∙ ap (λ (t : Trace Value). run t (lent_of v.log.now)) e; out_after = results_none _ _ _ _ (sym c.is_over.ensures ∙ c.if-is_over.true) }

pub returns : goal.returns
returns c =
    let v = c.args in
    let q = c.bits_of-n in
    let p = c.mux_runs in
    let e = cut_is v.s.now v.a.now v.b.now q.result q.ensures.within q.ensures.value in
    let o = sym c.is_over.ensures ∙ c.if-is_over.false in
    let w = cut_value v.s.now v.a.now v.b.now q.result q.ensures.within _ _ v.log.now.state.next (omega arith) (p.ensures.nets_after o) in
    record { log_after = p.ensures.log_after ∙ ap (λ (t : Trace Value). run t (lent_of v.log.now)) e; out_after = results_some _ _ _ _ _ o (c.copy.ensures ∙ ap (sets v.out.now 0) (w ∙ ap (λ (t : Trace Value). (t v.log.now.state.next).value) e)) }
