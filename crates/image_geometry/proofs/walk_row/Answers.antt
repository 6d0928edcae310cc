-- `image_geometry::walk_row` meets its contract.
use mathlib.Core.Path.{ap, ◌∙◌}
use Prim.Native.Nat.{ℕ, ◌/◌, ◌^◌}
use native.Mathlib.Nat.{div-one, sub-zero}
use Rattle.rules.specs.Geometry.{to_chunk}
use Rattle.rules.proofs.Walks.{tops_le}
use Rattle.image_geometry.specs.Steps.{stepped}
use Rattle.image_geometry.proofs.Walking.{starts, roomy, turn, halved, chunk_word, row_word, ends, spots}
use native.Mathlib.Omega.{arith}
use Rattle.image_geometry.proofs.walk_row.Goals as goal

pub loop-i-init : goal.loop-i-init
loop-i-init c =
    let a = c.args in
    starts a.mask a.hard a.row _ _ _ _ (omega (arith, c.ranges.row)) c.from-w.ensures (div-one a.mask) (div-one a.row) (sub-zero _ ∙ c.top_bits-i-end.ensures)

pub overflow_shr-mask : goal.overflow_shr-mask
overflow_shr-mask c = omega (arith, c.top_bits-i-end.ensures, tops_le 32 c.args.row, c.loop-i-test.true)

pub overflow_shr-row : goal.overflow_shr-row
overflow_shr-row c = omega (arith, c.top_bits-i-end.ensures, tops_le 32 c.args.row, c.loop-i-test.true)

pub step-w-requires : goal.step-w-requires
step-w-requires c = roomy _ _ _ _ _ _ _ c.loop-i.invariant _ (omega (arith, c.from.ensures))

pub loop-i-preserved : goal.loop-i-preserved
loop-i-preserved c =
    let l = c.loop-i in
    turn _ _ _ _ _ _ _ l.invariant _ _ _ _ (omega (arith, c.loop-i-test.true)) (c.step-w.ensures ∙ ap (λ (b : ℕ). stepped (to_chunk (c.args.mask / 2 ^ l.i) l.w.hard) b l.w) c.from.ensures)
    (halved c.args.mask l.i) (halved c.args.row l.i) (omega arith)

pub returns : goal.returns
returns c =
    let i = c.loop-i.invariant in
    spots c.loop-i.w _ _ c.spot.ensures.chunk c.spot.ensures.row (chunk_word _ _ _ _ _ _ _ i) (row_word _ _ _ _ _ _ _ i) ∙ ends _ _ _ _ _ _ _ i (omega (arith, c.loop-i-test.false))
