-- `image_geometry::Walk::moved` meets its contract.
use mathlib.Core.Path.{sym, ap}
use mathlib.Core.Bool.{Bool}
use native.Mathlib.Omega.{arith}
use Rattle.rules.proofs.Walks.{hard_row}
use Rattle.image_geometry.specs.Steps.{moved}
use Rattle.image_geometry.proofs.Walking.{goes_up}
use Rattle.image_geometry.proofs.Walk.moved.Goals as goal

pub returns-then-mask-eq1 : goal.returns-then-mask-eq1
returns-then-mask-eq1 c =
    let a = c.args in
    ap (λ (t : Bool). moved t a.chunk a.row a.self) (sym (goes_up a.mask a.self.hard c.then-mask-eq1.either))

pub returns : goal.returns
returns c =
    let a = c.args in
    ap (λ (t : Bool). moved t a.chunk a.row a.self) (sym (hard_row a.mask a.self.hard (omega (arith, c.if-mask-eq1.false)) (omega (arith, c.if-self-eq0.false))))
