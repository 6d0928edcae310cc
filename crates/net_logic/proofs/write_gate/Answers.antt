-- `net_logic::write_gate` meets its contract.
use Rattle.std.proofs.Common.{◌≡◌, [], length, ap, ◌∙◌, arith}
use native.Mathlib.Numerals.{add-one}
use mathlib.Core.Logic.{⊎_elim}
use Rattle.std.proofs.lemmas.List.{nil_from_length}
use Rattle.rules.specs.Logic.{tritwise}
use Rattle.net_logic.proofs.write_gate.Goals as goal

pub loop-i-preserved : goal.loop-i-preserved
unfolding tritwise
loop-i-preserved g c =
    let l = c.loop-i in
    let s = c.in-Some.ensures.steps in
    let d = rw (s.0.0, s.0.1) at l.invariant.done in
    record {
      same = omega (arith, l.invariant.same, ap length s.0.0, ap length s.0.1);
      room = omega (arith, l.invariant.room, ap length s.0.0, s.2);
      done = rw (s.1, s.2, c.code.ensures, add-one) d;
    }

pub returns : goal.returns
unfolding tritwise
returns g c =
    let l = c.loop-i in
    let i = l.i-iterator in
    let none : length i.iter.a.rest.now ≡ 0 = ⊎_elim (λ h. h.1.0) (λ h. l.invariant.same ∙ h.1.0) c.in-None.ensures.steps.0 in
    let e : i.iter.a.rest.now ≡ [] = nil_from_length _ none in
    rw e at l.invariant.done
