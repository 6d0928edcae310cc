-- `merge_dff::pack_trits` meets its contract.
use Rattle.std.proofs.Common.{arith, ◌∙◌}
use mathlib.Core.Logic.{inl, inr, ⊎_elim}
use mathlib.Core.Path.{ap}
use lib.Seq.{sets}
use Rattle.lists.proofs.Store.{copy_done}
use Rattle.merge_dff.specs.Packs.{packs}
use Rattle.merge_dff.proofs.Packing.{packs_size, packs_none, packs_take, pack_turn}
use Rattle.merge_dff.proofs.pack_trits.Goals as goal

pub loop-i-preserved : goal.loop-i-preserved
loop-i-preserved c =
    let s = c.in-Some.ensures.steps in
    let e = rw s.1 at c.put.ensures in
    (c.put.auto.to ∙ c.loop-i.invariant.0, pack_turn _ _ _ c.loop-i.to c.loop-i.i-iterator.count s.0.0 s.0.1.0 s.0.1.1 c.pack.ensures s.2 e ∙ c.loop-i.invariant.1)

pub returns : goal.returns
returns c =
    let v = c.args in
    let n = c.min-n.result in
    let i = c.loop-i.invariant in
    let size = packs_size v.reset.now v.clear.now v.init.now in
    let left = packs_none _ _ _
    (⊎_elim (λ h. inl h.1.0) (λ h. inr (⊎_elim (λ g. inl g.1.0) (λ g. inr g.1.0) h.1)) c.in-None.ensures.steps.0)
    c.loop-i.to c.loop-i.i-iterator.count in
    record {
      value = omega (arith, size, c.min-n.ensures, c.min-2.ensures, c.min.ensures);
      to_after = copy_done v.to.now c.loop-i.to 0 n (packs v.reset.now v.clear.now v.init.now) (left ∙ i.1 ∙ ap (sets v.to.now 0) (packs_take v.reset.now v.clear.now v.init.now n)) (omega (arith, size, c.min-n.ensures, c.min-2.ensures, c.min.ensures));
      bytes = record { resets = λ k. omega (arith, c.type_inv.reset k); clears = λ k. omega (arith, c.type_inv.clear k); inits = λ k. omega (arith, c.type_inv.init k) };
    }
