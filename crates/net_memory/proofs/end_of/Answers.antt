-- `net_memory::end_of` meets its contract.
use mathlib.Core.Path.{◌≡◌, ap, ◌∙◌}
use Prim.Native.Nat.{◌+◌}
use native.Mathlib.Omega.{arith}
use lib.ListN.{length}
use lib.Seq.{take_all}
use Rattle.lists.specs.Lists.{sum_by}
use Rattle.net_memory.proofs.Sums.{sum_more}
use Rattle.net_memory.proofs.end_of.Goals as goal

pub overflow_add-at : goal.overflow_add-at
overflow_add-at g c =
    omega (arith, c.loop-port.invariant.bound 0x300000000 (λ p n h. omega (arith, c.requires.small p n h)), c.requires.few, c.loop-port-test.true, c.requires.small _ _ c.size-at.ensures)

pub loop-port-preserved : goal.loop-port-preserved
loop-port-preserved g c =
    let l = c.loop-port in
    let i = c.loop-port-test.true in
    record {
      value = λ f e. omega (arith, sum_more f c.args.ports.now l.port-index c.port-item.result i, l.invariant.value f e, e _ _ c.size-at.ensures, ap f c.port-item.is);
      bound = λ most e. omega (arith, l.invariant.bound most e, e _ _ c.size-at.ensures);
    }

pub returns-clause-value : goal.returns-clause-value
returns-clause-value g c f e =
    let l = c.loop-port in
    l.invariant.value f e ∙ ap (λ ps. c.args.start + sum_by f ps) (take_all l.port-index c.args.ports.now (omega arith))

pub returns-clause-bound : goal.returns-clause-bound
returns-clause-bound g c most e =
    let l = c.loop-port in
    let k : l.port-index ≡ length c.args.ports.now = omega arith in
    rw k at l.invariant.bound most e
