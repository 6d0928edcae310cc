-- What the call `swizzle` gives and leaves, field by field, in terms of the rules.
use Rattle.std.specs.Prelude.{◌≡◌, ◌≢◌, ℕ, List, length, take, drop}
use Rattle.std.proofs.Math.Option.{some}
use Rattle.rules.specs.Cell.{Mem, Plan}
use Rattle.rules.specs.Log.{log_after, state_after}
use Rattle.rules.specs.Geometry.{layout_of}
use Rattle.rules.specs.Swizzle.{swizzle, swizzle_scratch}
use Rattle.rules.specs.Image.{image_size}
use Rattle.rules.specs.Patch.{laid_out}
use Rattle.rules.specs.Record.{sizes_of}
use Rattle.rules.specs.Answers.{Refused, Accepted}
use Rattle.rules.specs.Refusals.{swizzle_refusal}
use Rattle.log_entries.specs.declared.LogState.{LogState}
use Rattle.log_entries.specs.View.{state_of}
use Rattle.net_memory.specs.declared.Memory.{Memory}
use Rattle.net_memory.specs.View.{memory_of}
use Rattle.net_memory.specs.Given.{given_of}
use Rattle.image_state.specs.View.{laid_of, unset_laid}
use Rattle.swizzle_plan.specs.declared.MemorySwizzle.{MemorySwizzle}
use Rattle.swizzle_plan.specs.Calls.{plan_of}
use Rattle.swizzle_result.specs.View.{results_of}
use Rattle.swizzle_call.specs.Told.{Told}
use Rattle.swizzle_call.specs.Acted.{Acted, HoldsPorts}
use Rattle.swizzle_call.specs.Made.{made_of, none_yet_of}

-- refused: every lent word as it was, no memories, and no state for patches
pub record Unchanged (st : LogState) (log image to kinds scratch : List ℕ) (x : Told) (log' image' to' kinds' scratch' : List ℕ) : Type 0 where
  pub made_is : made_of x.made log' to' kinds' ≡ made_of (none_yet_of st) log to kinds
  pub image_is : image' ≡ image
  pub scratch_is : scratch' ≡ scratch
  pub laid_is : x.laid ≡ unset_laid
  pub sizes_are : x.sizes ≡ Refused x.refusal

-- accepted, for this memory and plan
pub record Changed (m : Mem) (output : List ℕ) (p : Plan) (st : LogState) (log image to kinds scratch : List ℕ) (x : Told) (log' image' to' kinds' scratch' : List ℕ) : Type 0 where
  pub acted : Acted m (layout_of m p) (swizzle m output p) (made_of (none_yet_of st) log to kinds) (made_of x.made log' to' kinds')
  pub log_is : log' ≡ log_after log (state_of st) (swizzle m output p st.next)
  pub state_is : state_of x.made.state ≡ state_after (state_of st) (swizzle m output p st.next)
  pub image_is : image' ≡ laid_out (layout_of m p) m.init image
  -- the memories, as struct and arrays hold them
  pub results-held : results_of x.made.memory (take x.made.nets_at to') (take x.made.trits_at kinds') (take (image_size (layout_of m p)) image') ≡ (swizzle m output p st.next).value
  pub ports_held : HoldsPorts m output p st.next x.made.memory
  pub scratch_kept : drop (swizzle_scratch m p) scratch' ≡ drop (swizzle_scratch m p) scratch
  pub laid_is : laid_of x.laid ≡ some (layout_of m p)
  pub sizes_are : x.sizes ≡ Accepted (sizes_of (layout_of m p))

-- the number, and the one or the other
pub record Swizzles (m : Memory) (nets trits output : List ℕ) (s : MemorySwizzle) (es ws rs : List ℕ) (st : LogState) (log image to kinds scratch : List ℕ) (x : Told) (log' image' to' kinds' scratch' : List ℕ) : Type 0 where
  pub number : x.refusal ≡ swizzle_refusal (record { image = length image; nets = length to; trits = length kinds; scratch = length scratch }) (length log) (state_of st) (given_of m nets trits) output (plan_of s es ws rs)
  pub refused : x.refusal ≢ 0 → Unchanged st log image to kinds scratch x log' image' to' kinds' scratch'
  pub accepted : x.refusal ≡ 0 → Changed (memory_of m nets trits) output (plan_of s es ws rs) st log image to kinds scratch x log' image' to' kinds' scratch'
