-- The struct of an answer to a swizzle says what the library's answer says.
use mathlib.Core.Path.{◌≡◌, sym, ap, subst, ◌∙◌}
use mathlib.Core.List.{List}
use Prim.Native.Nat.{ℕ}
use Rattle.rules.specs.Image.{Patch}
use Rattle.rules.specs.Swizzle.{swizzle_scratch}
use Rattle.rules.specs.Answers.{SwizzleLent, swizzle_call}
use Rattle.log_entries.specs.declared.LogState.{LogState}
use Rattle.log_entries.specs.View.{state_of}
use Rattle.net_memory.specs.declared.Memory.{Memory as MachineMemory}
use Rattle.net_memory.specs.View.{memory_of}
use Rattle.net_memory.specs.Given.{given_of}
use Rattle.swizzle_plan.specs.declared.MemorySwizzle.{MemorySwizzle}
use Rattle.swizzle_plan.specs.Calls.{plan_of}
use Rattle.swizzle_call.specs.Told.{Told}
use Rattle.swizzle_call.specs.Answer.{swizzled_of}
use Rattle.swizzle_call.specs.Whole.{Swizzles}
use Rattle.swizzle_patches.specs.Joined.{Joined, Kept, ToldPatches}
use Rattle.c_memory.specs.declared.Memory.{Memory}
use Rattle.c_memory.specs.View.{given_memory}
use Rattle.c_swizzle.specs.declared.Swizzled.{Swizzled}
use Rattle.c_swizzle.specs.declared.SwizzledPatches.{SwizzledPatches}
use Rattle.c_swizzle.specs.Calls.{swizzled_struct, given_swizzled, patches_struct, given_patches}
use Rattle.c_swizzle.proofs.Back.{swizzled_back}

-- g is the memory that m is, and the arrays before and after the call
module _ (m : Memory) (g : MachineMemory) (same : g ≡ given_memory m) (nets trits output : List ℕ) (s : MemorySwizzle) (es ws rs : List ℕ) (st : LogState)
    (log image to kinds scratch log' image' to' kinds' scratch' : List ℕ) where
  abbrev lent : SwizzleLent
  lent = record { image = image; nets = to; trits = kinds; scratch = scratch }

  abbrev Call : MachineMemory → Told → Type 0
  Call w y =
      swizzled_of y (swizzle_scratch (memory_of w nets trits) (plan_of s es ws rs)) log' image' to' kinds' scratch'
      ≡ swizzle_call lent log (state_of st) (given_of w nets trits) output (plan_of s es ws rs)

  abbrev Fields : MachineMemory → Told → Type 0
  Fields w y = Swizzles w nets trits output s es ws rs st log image to kinds scratch y log' image' to' kinds' scratch'

  module _ (x : Told) (r : Swizzled) (made : r ≡ swizzled_struct x) (h : Call g x) where
    back : given_swizzled r ≡ x
    back = ap given_swizzled made ∙ swizzled_back lent log (state_of st) (given_of g nets trits) output (plan_of s es ws rs) x log' image' to' kinds' scratch' h

    pub told_call : Call (given_memory m) (given_swizzled r)
    told_call = subst (λ (w : MachineMemory). Call w (given_swizzled r)) same (subst (λ (y : Told). Call g y) (sym back) h)

    pub told_fields : Fields g x → Fields (given_memory m) (given_swizzled r)
    told_fields f = subst (λ (w : MachineMemory). Fields w (given_swizzled r)) same (subst (λ (y : Told). Fields g y) (sym back) f)

    pub told_struct : r ≡ swizzled_struct (given_swizzled r)
    told_struct = made ∙ ap swizzled_struct (sym back)

  -- with the calls of a list
  module _ (numbers numbers' : List ℕ) (cs : List Patch) (x : ToldPatches) (r : SwizzledPatches) (made : r ≡ patches_struct x) where
    abbrev Both : MachineMemory → ToldPatches → Type 0
    Both w y = Joined lent log (state_of st) (given_of w nets trits) output (plan_of s es ws rs) numbers cs y log' image' to' kinds' scratch' numbers'

    abbrev Left : ToldPatches → Type 0
    Left y = Kept st log image to kinds scratch y log' image' to' kinds' scratch'

    module _ (j : Both g x) where
      both_back : given_patches r ≡ x
      both_back =
          ap given_patches made
          ∙ ap (λ (y : Told). record { swizzled = y; patches = x.patches })
          (swizzled_back lent log (state_of st) (given_of g nets trits) output (plan_of s es ws rs) x.swizzled log' j.left to' kinds' scratch' j.swizzled)

      pub told_both : Both (given_memory m) (given_patches r)
      told_both = subst (λ (w : MachineMemory). Both w (given_patches r)) same (subst (λ (y : ToldPatches). Both g y) (sym both_back) j)

      pub told_kept : Left x → Left (given_patches r)
      told_kept u = subst (λ (y : ToldPatches). Left y) (sym both_back) u

      pub told_patches : r ≡ patches_struct (given_patches r)
      told_patches = made ∙ ap patches_struct (sym both_back)
