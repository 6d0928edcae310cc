-- `merge_dff::unpack_part` meets its contract.
use mathlib.Core.Path.{ap, ◌∙◌}
use Prim.Native.Nat.{ℕ}
use native.Mathlib.Omega.{arith}
use lib.ListN.{length-take, set}
use lib.Seq.{get_or-take}
use Rattle.merge_dff.specs.Packs.{packed_byte}
use Rattle.merge_dff.proofs.Packing.{part_turn, part-done}
use Rattle.merge_dff.proofs.unpack_part.Goals as goal

pub loop-i-preserved : goal.loop-i-preserved
loop-i-preserved c =
    let v = c.args in
    let l = c.loop-i in
    let room = length-take c.min-n.result v.ps.now in
    ap (λ (p : ℕ). set l.to l.i (packed_byte v.by p)) (get_or-take c.min-n.result v.ps.now l.i 0 (omega (arith, room))) ∙ part_turn v.ps.now v.by v.to.now l.to l.i l.invariant (omega (arith, room))

pub returns : goal.returns
returns c =
    let v = c.args in
    part-done v.ps.now v.by v.to.now c.loop-i.to c.loop-i.i c.loop-i.invariant (omega (arith, length-take c.min-n.result v.ps.now))
