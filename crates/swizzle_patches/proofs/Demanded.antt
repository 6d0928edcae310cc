-- Demand 3 of a swizzle that is not refused, and of calls that are made on its image.
use mathlib.Core.Path.{◌≡◌, refl, sym, ap, ◌∙◌, subst}
use Prim.Native.Nat.{ℕ}
use mathlib.Core.List.{List}
use lib.ListN.{length}
use Rattle.lists.proofs.Choice.{leaves_accepted}
use Rattle.rules.specs.Cell.{Plan, Given}
use Rattle.rules.specs.Value.{Value}
use Rattle.rules.specs.Log as rules
use Rattle.rules.specs.Geometry.{layout_of}
use Rattle.rules.specs.Image.{Laid, Patch}
use Rattle.rules.specs.Patch.{patched, Demand}
use Rattle.rules.specs.Swizzle.{swizzle_scratch}
use Rattle.rules.specs.Refusals.{lent_refusal}
use Rattle.rules.specs.Answers as answers
use Rattle.rules.specs.Answers.{Accepted, SwizzleLent, swizzle_call, patched_with, patches_call}
use Rattle.std.specs.Prelude.{Err}
use Rattle.rules.specs.declared.numbers.Refusal.{Refusal}
use Rattle.rules.proofs.Answers.{answer_accepted, number_nonzero}
use Rattle.rules.proofs.Accepts.{swizzle_then_patches}
use Rattle.log_entries.specs.declared.LogState.{LogState}
use Rattle.log_entries.specs.View.{state_of}
use Rattle.image_state.specs.View.{laid_of}
use Rattle.image_patches.specs.Calls.{patched_to}
use Rattle.swizzle_call.specs.Told.{Told, told}
use Rattle.swizzle_patches.specs.Joined.{Joined, ToldPatches, told_patches}
use Rattle.swizzle_call.specs.Answer.{swizzled_of}

-- the image after calls that are made
made_image : (numbers : List ℕ) (laid : Laid) (cs : List Patch) (left : List ℕ) (n : ℕ) (numbers' image' : List ℕ)
    → patched_to n numbers' image' ≡ patches_call numbers laid cs left → n ≡ 0 → image' ≡ patched laid cs left
unfolding patches_call patched_with
made_image numbers laid cs left n numbers' image' e z =
    ap (λ (r : answers.Patched). r.image) e
    ∙ leaves_accepted (lent_refusal (length numbers) (length cs)) left (patched laid cs left) (sym (ap (λ (r : answers.Patched). r.number) e) ∙ z)

module _ (l : SwizzleLent) (log : List ℕ) (s : rules.LogState) (g : Given) (output : Value) (p : Plan) (x : Told) (log' left nets' trits' scratch' : List ℕ)
    (e : swizzled_of x (swizzle_scratch g.mem p) log' left nets' trits' scratch' ≡ swizzle_call l log s g output p) (z : x.refusal ≡ 0) where
  laid_is : (swizzle_call l log s g output p).laid ≡ Accepted (laid_of x.laid)
  laid_is = sym (ap (λ (r : answers.Swizzled). r.laid) e) ∙ answer_accepted x.refusal (laid_of x.laid) z

  image_is : left ≡ (swizzle_call l log s g output p).image
  image_is = ap (λ (r : answers.Swizzled). r.image) e

  pub demand : (numbers : List ℕ) (cs : List Patch) (n : ℕ) (numbers' image' : List ℕ) → patched_to n numbers' image' ≡ patches_call numbers (laid_of x.laid) cs left → n ≡ 0
      → Demand (layout_of g.mem p) g.mem.init l.image cs image'
  demand numbers cs n numbers' image' c k =
      subst (λ (i : List ℕ). Demand (layout_of g.mem p) g.mem.init l.image cs i)
      (sym (made_image numbers (laid_of x.laid) cs left n numbers' image' c k ∙ ap (patched (laid_of x.laid) cs) image_is))
      (swizzle_then_patches l log s g output p (laid_of x.laid) laid_is cs)

-- where the swizzle is refused no call is made
pub joined_err : (l : SwizzleLent) (log : List ℕ) (st : LogState) (g : Given) (output : Value) (p : Plan) (numbers : List ℕ) (cs : List Patch) (e : Refusal) (x : ToldPatches) (log' image' nets' trits' scratch' : List ℕ)
    → x ≡ told_patches st (Err e) → swizzled_of (told st (Err e)) (swizzle_scratch g.mem p) log' image' nets' trits' scratch' ≡ swizzle_call l log (state_of st) g output p
    → Joined l log (state_of st) g output p numbers cs x log' image' nets' trits' scratch' numbers
joined_err l log st g output p numbers cs e x log' image' nets' trits' scratch' k h =
    subst (λ (y : ToldPatches). Joined l log (state_of st) g output p numbers cs y log' image' nets' trits' scratch' numbers) (sym k)
    (record {
      left = image';
      swizzled = h;
      refused = λ n. (refl, refl, refl);
      patched = λ z. absurd (number_nonzero e z);
      demanded = λ z d. absurd (number_nonzero e z);
    })
