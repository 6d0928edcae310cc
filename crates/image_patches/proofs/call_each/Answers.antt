-- `image_patches::call_each` meets its contract.
use Prim.Native.Nat.{ℕ, ◌/◌}
use mathlib.Core.Path.{sym, ap, ◌∙◌}
use native.Mathlib.Nat.{sub-zero}
use lib.ListN.{length, set}
use lib.Seq.{sets}
use Rattle.rules.specs.Beside.Shape.{handed_on}
use Rattle.rules.specs.Patch.{patched}
use Rattle.rules.specs.Answers.{patch_numbers}
use Rattle.image_geometry.specs.View.{layout_of}
use Rattle.image_patches.specs.Calls.{calls_from_of, calls_of}
use Rattle.image_patches.proofs.Calling.{calls_again, calls_end, numbers_again, numbers_end}
use Rattle.image_patches.proofs.call_each.Goals as goal

pub loop-i-init : goal.loop-i-init
loop-i-init c =
    let a = c.args in
    let l = handed_on (layout_of a.layout) in
    let z = sub-zero (length a.calls.words.now / 4) in (
      ap (λ (m : ℕ). sets a.numbers.now 0 (patch_numbers l (length a.buffer.now) (calls_from_of a.calls.words.now a.calls.trits.now 0 m))) z,
      ap (λ (m : ℕ). patched l (calls_from_of a.calls.words.now a.calls.trits.now 0 m) a.buffer.now) z,
    )

pub loop-i-preserved : goal.loop-i-preserved
loop-i-preserved c =
    let a = c.args in
    let l = c.loop-i in
    let q = handed_on (layout_of a.layout) in
    let n = length a.calls.words.now / 4 in (
      numbers_again q a.calls.words.now a.calls.trits.now l.i n (length a.buffer.now) l.buffer _ l.numbers _ _ _ c.loop-i-test.true l.auto.buffer c.call_at.ensures (c.put.ensures ∙ ap (set l.numbers l.i) c.number_of-number.ensures) l.invariant.0,
      calls_again q a.calls.words.now a.calls.trits.now l.i n l.buffer _ _ _ c.loop-i-test.true c.call_at.ensures l.invariant.1,
    )

pub returns : goal.returns
unfolding calls_of
returns c =
    let a = c.args in
    let l = c.loop-i in
    let q = handed_on (layout_of a.layout) in
    let n = length a.calls.words.now / 4 in
    record { numbers_after = sym (numbers_end q a.calls.words.now a.calls.trits.now l.i n (length a.buffer.now) l.numbers c.loop-i-test.false) ∙ l.invariant.0; buffer_after = sym (calls_end q a.calls.words.now a.calls.trits.now l.i n l.buffer c.loop-i-test.false) ∙ l.invariant.1 }
