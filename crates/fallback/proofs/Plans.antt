-- The split's arguments are the plan of a fallback, and what the swizzle leaves of them.
use mathlib.Core.Path.{◌≡◌, refl, sym, ap, ◌∙◌, subst}
use Prim.Native.Nat.{ℕ}
use native.Mathlib.Omega.{arith}
use mathlib.Core.List.{List, [], ◌∷◌}
use lib.ListN.{length, take, length-take}
use lib.Seq.{length-sets}
use Rattle.rules.specs.Limits.{max_bits}
use Rattle.rules.specs.Cell.{Mem, Plan}
use Rattle.rules.specs.Geometry.{layout_of}
use Rattle.rules.specs.Image.{image_size}
use Rattle.rules.specs.Swizzle.{swizzle, shared_trits}
use Rattle.rules.specs.Refusals.{swizzle_refusal}
use Rattle.rules.specs.Fallback.{fallback_plan}
use Rattle.log_entries.specs.declared.LogState.{LogState}
use Rattle.log_entries.specs.View.{state_of}
use Rattle.net_memory.specs.declared.Memory.{Memory}
use Rattle.net_memory.specs.View.{memory_of}
use Rattle.net_memory.specs.Given.{given_of}
use Rattle.swizzle_plan.specs.declared.MemorySwizzle.{MemorySwizzle}
use Rattle.swizzle_plan.specs.Calls.{plan_of}
use Rattle.swizzle_result.specs.View.{results_of}
use Rattle.swizzle_call.specs.Told.{Told}
use Rattle.swizzle_call.specs.Whole.{Changed, Swizzles}
use Rattle.fallback.specs.Split.{Passes, SplitDone}

-- ---- what the swizzle leaves
none_left : (l : List ℕ) → length l ≡ 0 → l ≡ []
none_left [] e = refl
none_left (a ∷ l) e = absurd (omega (arith, e))

take_none : (n : ℕ) (l : List ℕ) → length l ≡ 0 → take n l ≡ []
take_none n l e = none_left (take n l) (omega (arith, length-take n l, e))

module _ (b : Memory) (nets trits outs : List ℕ) (s : MemorySwizzle) (es ws rs : List ℕ) (st : LogState) (log image tables kinds pieces : List ℕ) (x : Told)
    (log' image' tables' kinds' pieces' : List ℕ) (si : length image ≡ max_bits) (sk : length kinds ≡ 0) (sp : length pieces ≡ max_bits) where
  abbrev B : Mem
  B = memory_of b nets trits

  abbrev P : Plan
  P = plan_of s es ws rs

  abbrev Done : Plan → Type 0
  Done p = SplitDone B outs p st log tables x log' tables' image'

  number_0 : P ≡ fallback_plan B → Passes b nets trits outs st log tables
      → swizzle_refusal (record { image = length image; nets = length tables; trits = length kinds; scratch = length pieces }) (length log) (state_of st) (given_of b nets trits) outs P ≡ 0
  number_0 e z =
      (λ i. swizzle_refusal (record { image = si i; nets = length tables; trits = sk i; scratch = sp i }) (length log) (state_of st) (given_of b nets trits) outs (e i)) ∙ z

  done_by : x.refusal ≡ 0 → Changed B outs P st log image tables kinds pieces x log' image' tables' kinds' pieces' → Done P
  done_by z c = record {
    passed = z;
    log_is = c.acted.log_is;
    tables_are = c.acted.nets_are;
    results_are =
        ap (λ (l : List ℕ). results_of x.made.memory (take x.made.nets_at tables') l (take (image_size (layout_of B P)) image'))
        (sym (take_none x.made.trits_at kinds' (ap length c.acted.trits_are ∙ length-sets kinds 0 (shared_trits B (swizzle B outs P st.next).value) ∙ sk)))
        ∙ c.results-held;
    ports_held = c.ports_held;
  }

  -- of the split by the plan of a fallback, which no number refuses
  pub split_done : P ≡ fallback_plan B → Passes b nets trits outs st log tables
      → Swizzles b nets trits outs s es ws rs st log image tables kinds pieces x log' image' tables' kinds' pieces' → Done (fallback_plan B)
  split_done e z h = subst Done e (done_by (h.number ∙ number_0 e z) (h.accepted (h.number ∙ number_0 e z)))
