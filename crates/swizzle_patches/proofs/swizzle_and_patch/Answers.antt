-- `swizzle_patches::swizzle_and_patch` meets its contract.
use mathlib.Core.Path.{◌≡◌, refl, ap, ◌∙◌}
use Rattle.std.proofs.Common.{rules}
use Rattle.std.specs.Prelude.{Ok, Err}
use Rattle.rules.specs.Image as images
use Rattle.rules.specs.Refusal.{number_of}
use Rattle.rules.specs.Answers.{patches_call}
use Rattle.image_state.specs.View.{laid_of}
use Rattle.image_patches.specs.Calls.{calls_of, patched_to}
use Rattle.swizzle_call.specs.Told.{told}
use Rattle.swizzle_patches.specs.Joined.{told_patches}
use Rattle.swizzle_patches.proofs.Demanded.{demand, joined_err}
use Rattle.swizzle_patches.proofs.swizzle_and_patch.Goals as goal

pub returns-in_err-swizzled-clause-joined : goal.returns-in_err-swizzled-clause-joined
returns-in_err-swizzled-clause-joined c =
    let st = c.args.st in
    let e : told_patches st c.from_residual.result ≡ told_patches st (Err c.in_err-swizzled.field-0.0) = search rules in
    joined_err _ _ st _ _ _ _ _ _ _ _ _ _ _ _ e c.in_err-swizzled.ensures.scratch_after

pub returns-clause-joined : goal.returns-clause-joined
returns-clause-joined c =
    let v = c.args in
    let x = c.in_ok-swizzled.swizzled in
    let called : patched_to (number_of c.patch_each-patches.result) c.patch_each-patches.new.numbers c.patch_each-patches.new.buffer ≡ patches_call v.numbers.now (laid_of x.laid) (calls_of v.calls.words.now v.calls.trits.now) c.swizzle.new.image =
    c.patch_each-patches.ensures ∙ ap (λ (l : images.Laid). patches_call v.numbers.now l (calls_of v.calls.words.now v.calls.trits.now) c.swizzle.new.image) c.layout.ensures.value in
    record {
      left = c.swizzle.new.image;
      swizzled = c.in_ok-swizzled.ensures.scratch_after;
      refused = λ h. absurd (h refl);
      patched = λ z. called;
      demanded = λ z k. demand _ _ _ _ _ _ (told v.st (Ok x)) _ _ _ _ _ c.in_ok-swizzled.ensures.scratch_after refl _ _ _ _ _ called k;
    }
