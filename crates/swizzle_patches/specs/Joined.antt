-- A swizzle, and then the calls of a list on its image.
use Rattle.std.specs.Prelude.{◌≡◌, ◌≢◌, ℕ, List, Result, Ok, Err}
use Rattle.rules.specs.Cell.{Plan, Given}
use Rattle.rules.specs.Value.{Value}
use Rattle.rules.specs.Log as rules
use Rattle.rules.specs.Geometry.{layout_of}
use Rattle.rules.specs.Image.{Patch}
use Rattle.rules.specs.Patch.{Demand}
use Rattle.rules.specs.Swizzle.{swizzle_scratch}
use Rattle.rules.specs.Refusal.{number, number_of}
use Rattle.rules.specs.declared.numbers.Refusal.{Refusal}
use Rattle.rules.specs.Answers.{SwizzleLent, swizzle_call, patches_call}
use Rattle.image_state.specs.View.{laid_of}
use Rattle.image_patches.specs.Calls.{patched_to}
use Rattle.swizzle_call.specs.Told.{Told, told}
use Rattle.swizzle_call.specs.Answer.{swizzled_of}
use Rattle.swizzle_call.specs.Whole.{Unchanged}
use Rattle.log_entries.specs.declared.LogState.{LogState}
use Rattle.swizzle_patches.specs.declared.SwizzledPatches.{SwizzledPatches}

-- what both tell: the number of the list of calls is the swizzle's where that is refused
pub record ToldPatches : Type 0 where
  pub swizzled : Told
  pub patches : ℕ

-- the answer of a call that began with this state of the log
abbrev pub told_patches : LogState → Result SwizzledPatches Refusal → ToldPatches
told_patches st (Ok x) = record { swizzled = told st (Ok x.swizzled); patches = number_of x.patches }
told_patches st (Err e) = record { swizzled = told st (Err e); patches = number e }

-- the swizzle's whole answer, with the image that it leaves; log, nets, trits and scratch are those after the calls too. Where it is refused no call is
-- made; else the calls' whole answer on that image, and demand 3
pub record Joined (l : SwizzleLent) (log : List ℕ) (s : rules.LogState) (g : Given) (output : Value) (p : Plan) (numbers : List ℕ) (cs : List Patch) (x : ToldPatches) (log' image' nets' trits' scratch' numbers' : List ℕ) : Type 0 where
  pub left : List ℕ
  pub swizzled : swizzled_of x.swizzled (swizzle_scratch g.mem p) log' left nets' trits' scratch' ≡ swizzle_call l log s g output p
  pub refused : x.swizzled.refusal ≢ 0 → (x.patches ≡ x.swizzled.refusal) × (numbers' ≡ numbers) × (image' ≡ left)
  pub patched : x.swizzled.refusal ≡ 0 → patched_to x.patches numbers' image' ≡ patches_call numbers (laid_of x.swizzled.laid) cs left
  pub demanded : x.swizzled.refusal ≡ 0 → x.patches ≡ 0 → Demand (layout_of g.mem p) g.mem.init l.image cs image'

-- where the swizzle is refused: the struct itself, with the state, and every lent word as it was
abbrev pub Kept : LogState → List ℕ → List ℕ → List ℕ → List ℕ → List ℕ → ToldPatches → List ℕ → List ℕ → List ℕ → List ℕ → List ℕ → Type 0
Kept st log image nets trits scratch x log' image' nets' trits' scratch' =
    x.swizzled.refusal ≢ 0 → Unchanged st log image nets trits scratch x.swizzled log' image' nets' trits' scratch'
