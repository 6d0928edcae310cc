-- `port_mux::Asked::any` meets its contract.
use Rattle.std.proofs.Common.{◌∙◌, sym}
use Rattle.port_mux.proofs.Numbers.{some_so, any_first, any_rest}
use Rattle.port_mux.proofs.Asked.any.Goals as goal

pub returns-then-test : goal.returns-then-test
returns-then-test g c =
    λ f e.
    c.if-test.true ∙ any_first f c.args.self (sym (e _ _ c.test.ensures) ∙ c.if-test.true)

pub returns-else-test : goal.returns-else-test
returns-else-test g c =
    λ f e.
    some_so f c.args.self.mask _ _ c.is_some_and.ensures (λ v q. e v _ q) ∙ any_rest f c.args.self (sym (e _ _ c.test.ensures) ∙ c.if-test.false)
