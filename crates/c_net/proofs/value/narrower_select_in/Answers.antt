-- `c_net::value::narrower_select_in` meets its contract.
use Rattle.std.proofs.Common.{◌∙◌, ap, sym}
use Rattle.rules.specs.Ports.{narrower_select}
use Rattle.rules.specs.Answers.{Listed, narrower_select_call}
use Rattle.net_logic.specs.View.{given_part}
use Rattle.rules.proofs.Answers.{answer_accepted, left_err, else_err}
use Rattle.c_net.specs.Calls.{narrower_select_in}
use Rattle.c_net.proofs.Listed.{listed_rest}
use Rattle.c_net.proofs.value.narrower_select_in.Goals as goal

pub returns : goal.returns
unfolding narrower_select_in narrower_select_call
returns c =
    let v = c.args in
    let z = sym c.in_ok-narrower_select_refusal.ensures in
    let s = c.store_list.ensures in
    let q = listed_rest _ v.out.now (narrower_select v.kw v.kr v.waddr.now v.raddr.now) _ z (c.narrower_select.ensures ∙ ap given_part (answer_accepted _ _ z)) in
    record { value = s.value ∙ ap (λ (x : Listed). x.answer) q; out_after = s.out_after ∙ ap (λ (x : Listed). x.out) q }

pub returns-in_err-narrower_select_refusal-clause-out_after : goal.returns-in_err-narrower_select_refusal-clause-out_after
unfolding narrower_select_in
returns-in_err-narrower_select_refusal-clause-out_after c = left_err _ _ _ _ (else_err _ _ _ c.in_err-narrower_select_refusal.ensures)
