-- The invariants of `image_patches::call_each`.
use Prim.Native.Nat.{◌-◌}
use mathlib.Core.Path.{◌≡◌}
use lib.ListN.{length}
use lib.Seq.{sets}
use Rattle.rules.specs.Beside.Shape.{handed_on}
use Rattle.rules.specs.Patch.{patched}
use Rattle.rules.specs.Answers.{patch_numbers}
use Rattle.image_geometry.specs.View.{layout_of}
use Rattle.image_patches.specs.Calls.{calls_from_of}
use Rattle.image_patches.proofs.call_each.Given as goal

abbrev pub invariant-loop-i : goal.invariant-loop-i
invariant-loop-i l =
    let q = handed_on (layout_of l.layout) in
    let size = length l.initial.buffer in
    let calls = calls_from_of l.calls.words.now l.calls.trits.now in
    (sets l.numbers l.i (patch_numbers q size (calls l.i (l.i-end - l.i))) ≡ sets l.initial.numbers 0 (patch_numbers q size (calls 0 l.i-end)))
    × (patched q (calls l.i (l.i-end - l.i)) l.buffer ≡ patched q (calls 0 l.i-end) l.initial.buffer)
