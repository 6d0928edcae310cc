-- `swizzle_sizes::bits_of` meets its contract.
use Rattle.std.proofs.Common.{length, arith, ap, ◌∙◌}
use mathlib.Core.Logic.{⊎_elim}
use Rattle.swizzle_sizes.proofs.Turns.{left_turn, left_none, left_over, rest_small}
use Rattle.swizzle_sizes.proofs.bits_of.Goals as goal

pub loop-i-preserved : goal.loop-i-preserved
loop-i-preserved g c =
    let l = c.loop-i in
    let s = c.in-Some.ensures.steps in
    let p = s.0.0 in
    let q = s.0.1 in
    let n = s.2 in (
      l.invariant.0,
      omega (arith, n, ap length p, l.invariant.1),
      rest_small _ _ _ q l.invariant.2,
      λ f is.
          left_turn c.args.base f l.bits l.i-iterator.iter.a.rest.now c.next.new.self.iter.a.rest.now l.i-iterator.iter.b.rest.now c.next.new.self.iter.b.rest.now l.i-iterator.count c.in-Some.i c.next.new.self.count c.in-Some.port.now c.in-Some.new.now c.old.result c.saturating_sub.result s.1 n p q (is c.in-Some.port.now c.old.result c.old.ensures) c.saturating_sub.ensures
          ∙ l.invariant.3 f is,
    )

pub returns : goal.returns
returns g c f is =
    let l = c.loop-i in
    let i = l.i-iterator in
    ⊎_elim (λ h. left_none c.args.base f l.bits i.iter.a.rest.now i.iter.b.rest.now i.count h.1.0) (λ h. left_over c.args.base f l.bits i.iter.a.rest.now i.iter.b.rest.now i.count h.1.0) c.in-None.ensures.steps.0 ∙ l.invariant.3 f is
