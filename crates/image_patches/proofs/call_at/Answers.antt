-- `image_patches::call_at` meets its contract.
use Prim.Native.Nat.{◌+◌, ◌*◌}
use mathlib.Core.Path.{◌∙◌}
use lib.ListN.{get_or}
use Rattle.rules.specs.Beside.Shape.{handed_on}
use Rattle.rules.specs.Answers.{call_on}
use Rattle.image_geometry.specs.View.{layout_of}
use Rattle.image_patches.specs.Calls.{call_at}
use Rattle.image_patches.proofs.call_at.Goals as goal

pub returns : goal.returns
unfolding call_at
returns c =
    let a = c.args in
    let w = a.calls.words.now in
    let l = handed_on (layout_of a.layout) in
    c.call_one.ensures ∙ (λ k. call_on l (record { row = get_or w (4 * a.i) 0; trits = c.part-trits.ensures.part k; room = get_or w (4 * a.i + 3) 0 }) a.buffer.now)
