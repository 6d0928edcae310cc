-- `image_geometry::next_row` meets its contract.
use Prim.Native.Nat.{◌+◌, ◌-◌}
use mathlib.Core.Path.{◌≡◌, ◌∙◌}
use native.Mathlib.Nat.{div-one, sub-zero}
use native.Mathlib.Omega.{arith}
use lib.Count.{count_trailing_zeros}
use Rattle.rules.specs.Geometry.{to_chunk}
use Rattle.image_geometry.proofs.Fields.{chunk_word, row_word}
use Rattle.image_geometry.proofs.Walking.{halved}
use Rattle.image_geometry.proofs.Carrying.{held, whole, told, carry_starts, carry_turn, carry_ends, small_turn, small_starts, words-held, next_words, ones_start, ones_turn, ones_end}
use Rattle.image_geometry.proofs.next_row.Goals as goal

pub loop-init : goal.loop-init
loop-init c =
    let a = c.args in
    let t : c.trailing_ones-end.result - 0 ≡ count_trailing_zeros 32 (4294967295 - a.row) = sub-zero _ ∙ c.trailing_ones-end.ensures in
    rw (div-one a.row, t) (
      ones_start a.row (omega (arith, c.ranges.row)),
      small_starts _ _ a.hard a.row _ (omega (arith, c.from.ensures, chunk_word a.spot _ c.well_formed.1.1.1.0)) (omega (arith, c.from-2.ensures, row_word a.spot _ c.well_formed.1.1.1.0)) (omega (arith, c.ranges.row)) c.from-w.ensures,
      λ h e. carry_starts a.mask a.hard a.row _ (held c.from-w.result) h e (whole c.from-w.result _ _ _ c.from-w.ensures),
    )

pub loop-preserved : goal.loop-preserved
loop-preserved c =
    let l = c.loop in
    let o = ones_turn _ _ l.invariant.0 (omega (arith, c.loop-test.true)) in
    let k : c.trailing_ones-end.result - (l.counter + 1) ≡ c.trailing_ones-end.result - l.counter - 1 = omega arith in
    rw (halved c.args.row l.counter, k) (
      o.1,
      small_turn (to_chunk l.soft l.w.hard) _ _ _ o.0 c.pass-w.ensures l.invariant.1,
      λ h e. carry_turn _ _ _ _ _ _ (l.invariant.2 h e) _ o.0 c.pass-w.ensures,
    )

pub returns : goal.returns
returns c =
    let a = c.args in
    let l = c.loop in
    λ h e.
    let k = next_words a.mask a.hard a.row h in
    words-held _ _ c.step.result _ (carry_ends _ _ _ _ _ _ (l.invariant.2 h (told _ _ _ _ c.from-w.ensures c.from.ensures c.from-2.ensures ∙ e)) _ (ones_end _ _ l.invariant.0 (omega (arith, c.loop-test.false))) c.step.ensures) k.0 k.1 c.spot.ensures.chunk c.spot.ensures.row
