-- `swizzle_tree::pair_up` meets its contract.
use Prim.Native.Nat.{◌+◌, ◌-◌, ◌≤◌, ◌*◌, ◌%◌}
use native.Mathlib.Omega.{arith}
use Rattle.log_entries.specs.View.{lent_of}
use Rattle.swizzle_tree.proofs.Pairing.{going_starts, going_room, going_last, turn_down, paired}
use Rattle.swizzle_tree.proofs.pair_up.Goals as goal

pub loop-init : goal.loop-init
loop-init c =
    let v = c.args in
    going_starts v.bit v.width v.count _ v.pieces.now (lent_of v.log.now) (omega arith)

-- at least two pieces are left in the loop, and they stand within the scratch
room : (c : goal.After-pair_at-arg-in-loop-1) → c.loop.from + (c.args.width + c.args.width) ≤ c.args.count * c.args.width
room c =
    let v = c.args in
    going_room v.bit v.width v.count v.pieces.now c.loop.pieces (lent_of v.log.now) (lent_of c.loop.log) (v.count - (c.loop.counter + c.loop.counter)) c.loop.from c.loop.to c.loop.invariant (omega (arith, c.loop-test.true))

pub pair_at-requires : goal.pair_at-requires
pair_at-requires c = omega (arith, room c, c.loop.auto.pieces, c.requires)

pub loop-preserved : goal.loop-preserved
loop-preserved c =
    let v = c.args in
    let l = c.loop in
    turn_down v.bit v.width v.count v.pieces.now l.pieces (lent_of v.log.now) (lent_of l.log) _ l.from l.to l.invariant _ (lent_of c.pair_at.new.log) _ (omega arith) l.auto.pieces c.requires c.pair_at.ensures.log_after c.pair_at.ensures.pieces_after

pub last_alone-requires : goal.last_alone-requires
last_alone-requires c =
    let v = c.args in
    let l = c.loop in
    let g = going_last v.bit v.width v.count v.pieces.now l.pieces (lent_of v.log.now) (lent_of l.log) _ l.from l.to l.invariant (v.count % 2) (omega arith) in
    (omega arith, omega (arith, g.twice), omega (arith, g.place, l.auto.pieces, c.requires))

pub returns : goal.returns
returns c =
    let v = c.args in
    let l = c.loop in
    let g = going_last v.bit v.width v.count v.pieces.now l.pieces (lent_of v.log.now) (lent_of l.log) _ l.from l.to l.invariant (v.count % 2) (omega arith) in
    paired v.bit v.width v.count v.pieces.now l.pieces _ (lent_of v.log.now) (lent_of l.log) (v.count % 2) l.from l.to g (omega arith) l.auto.pieces c.requires c.last_alone.ensures
