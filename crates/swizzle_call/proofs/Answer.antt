-- What a swizzle gives and leaves, field by field, is its whole answer in the rules.
use mathlib.Core.Path.{◌≡◌, refl, sym, ap, ◌∙◌}
use mathlib.Core.Logic.{◌≢◌}
use Prim.Native.Nat.{ℕ, zero, suc}
use native.Mathlib.Omega.{arith}
use mathlib.Core.Option.{Option, some}
use mathlib.Core.List.{List}
use lib.ListN.{length, take, drop}
use lib.Seq.{sets}
use Rattle.lists.specs.Choice.{leaves}
use Rattle.lists.proofs.Choice.{leaves_refused, leaves_accepted}
use Rattle.rules.specs.Cell.{Mem, Plan}
use Rattle.rules.specs.Log.{Trace, log_after, state_after}
use Rattle.rules.specs.Ports.{Driving}
use Rattle.rules.specs.Geometry.{Layout, layout_of}
use Rattle.rules.specs.Patch.{laid_out}
use Rattle.rules.specs.Record.{sizes_of}
use Rattle.rules.specs.Swizzle.{swizzle, swizzle_laid, swizzle_scratch, shared_nets, shared_trits}
use Rattle.rules.specs.Refusals.{swizzle_refusal}
use Rattle.rules.specs.Answers.{Answer, Refused, Accepted, answer_of, After, Logged, after, logged, SwizzleLent, rooms_of, swizzle_call}
use Rattle.rules.specs.Answers as answers
use Rattle.std.specs.Prelude.{Err}
use Rattle.rules.specs.Refusal.{number}
use Rattle.rules.specs.declared.numbers.Refusal.{Refusal}
use Rattle.rules.proofs.Answers.{answer_refused, answer_accepted, number_nonzero}
use Rattle.log_entries.specs.declared.LogState.{LogState}
use Rattle.log_entries.specs.View.{state_of}
use Rattle.net_memory.specs.declared.Memory.{Memory}
use Rattle.net_memory.specs.View.{memory_of}
use Rattle.net_memory.specs.Given.{given_of}
use Rattle.image_state.specs.View.{laid_of}
use Rattle.swizzle_plan.specs.declared.MemorySwizzle.{MemorySwizzle}
use Rattle.swizzle_plan.specs.Calls.{plan_of}
use Rattle.swizzle_result.specs.View.{results_of}
use Rattle.swizzle_reads.specs.Going.{Going}
use Rattle.swizzle_call.specs.Told.{Told, told}
use Rattle.swizzle_call.specs.Whole.{Unchanged, Changed, Swizzles}
use Rattle.swizzle_call.specs.Answer as view
use Rattle.swizzle_call.specs.Answer.{held_by_of, swizzled_of}

by_number : {P : Type 0} (n : ℕ) → (n ≡ 0 → P) → (n ≢ 0 → P) → P
by_number zero f g = f refl
by_number (suc n) f g = g (λ e. omega arith)

module _ (m : Memory) (nets trits output : List ℕ) (s : MemorySwizzle) (es ws rs : List ℕ) (st : LogState) (log image to kinds scratch : List ℕ) (x : Told) (log' image' to' kinds' scratch' : List ℕ) where
  abbrev M : Mem
  M = memory_of m nets trits

  abbrev P : Plan
  P = plan_of s es ws rs

  abbrev t : Trace (List Driving)
  t = swizzle M output P

  abbrev given : SwizzleLent
  given = record { image = image; nets = to; trits = kinds; scratch = scratch }

  abbrev N : ℕ
  N = swizzle_refusal (record { image = length image; nets = length to; trits = length kinds; scratch = length scratch }) (length log) (state_of st) (given_of m nets trits) output P

  -- the rules' answer with its number out of the way
  abbrev answer : ℕ → answers.Swizzled
  answer n = record {
    logged = record { answer = answer_of n (record { value = (t st.next).value; state = state_after (state_of st) (t st.next) }); log = leaves n log (log_after log (state_of st) (t st.next)) };
    image = leaves n image (laid_out (layout_of M P) M.init image);
    nets = leaves n to (sets to 0 (shared_nets M (t st.next).value));
    trits = leaves n kinds (sets kinds 0 (shared_trits M (t st.next).value));
    scratch_kept_of = leaves n scratch (drop (swizzle_scratch M P) scratch);
    laid = answer_of n (some (layout_of M P));
    sizes = answer_of n (sizes_of (layout_of M P));
  }

  call_is : swizzle_call given log (state_of st) (given_of m nets trits) output P ≡ answer N
  unfolding swizzle_call logged after swizzle_laid rooms_of
  call_is = refl

  module _ (n : ℕ) (e : x.refusal ≡ n) where
    module _ (z : n ≡ 0) (c : Changed M output P st log image to kinds scratch x log' image' to' kinds' scratch') where
      value_is : held_by_of x to' kinds' image' ≡ (t st.next).value
      value_is =
          ap (λ (o : Option Layout). results_of x.made.memory (take x.made.nets_at to') (take x.made.trits_at kinds') (take (view.trits o) image')) c.laid_is
          ∙ c.results-held

      accepted_is : swizzled_of x (swizzle_scratch M P) log' image' to' kinds' scratch' ≡ answer n
      accepted_is = λ i. record {
        logged = record { answer = answer_of (e i) (record { value = value_is i; state = c.state_is i }); log = (c.log_is ∙ sym (leaves_accepted n log _ z)) i };
        image = (c.image_is ∙ sym (leaves_accepted n image _ z)) i;
        nets = (c.acted.nets_are ∙ sym (leaves_accepted n to _ z)) i;
        trits = (c.acted.trits_are ∙ sym (leaves_accepted n kinds _ z)) i;
        scratch_kept_of = (leaves_accepted x.refusal scratch' _ (e ∙ z) ∙ c.scratch_kept ∙ sym (leaves_accepted n scratch _ z)) i;
        laid = answer_of (e i) (c.laid_is i);
        sizes = (c.sizes_are ∙ sym (answer_accepted n _ z)) i;
      }

    module _ (r : x.refusal ≢ 0) (z : n ≢ 0) (u : Unchanged st log image to kinds scratch x log' image' to' kinds' scratch') where
      refused_same : {A : Type 0} (a b : A) → answer_of x.refusal a ≡ answer_of n b
      refused_same a b = answer_refused x.refusal a r ∙ ap Refused e ∙ sym (answer_refused n b z)

      refused_is : swizzled_of x (swizzle_scratch M P) log' image' to' kinds' scratch' ≡ answer n
      refused_is = λ i. record {
        logged = record { answer = refused_same (record { value = held_by_of x to' kinds' image'; state = state_of x.made.state }) (record { value = (t st.next).value; state = state_after (state_of st) (t st.next) }) i; log = (ap (λ (g : Going). g.lent.log) u.made_is ∙ sym (leaves_refused n log (log_after log (state_of st) (t st.next)) z)) i };
        image = (u.image_is ∙ sym (leaves_refused n image (laid_out (layout_of M P) M.init image) z)) i;
        nets = (ap (λ (g : Going). g.nets) u.made_is ∙ sym (leaves_refused n to (sets to 0 (shared_nets M (t st.next).value)) z)) i;
        trits = (ap (λ (g : Going). g.trits) u.made_is ∙ sym (leaves_refused n kinds (sets kinds 0 (shared_trits M (t st.next).value)) z)) i;
        scratch_kept_of = (leaves_refused x.refusal scratch' (drop (swizzle_scratch M P) scratch') r ∙ u.scratch_is ∙ sym (leaves_refused n scratch (drop (swizzle_scratch M P) scratch) z)) i;
        laid = refused_same (laid_of x.laid) (some (layout_of M P)) i;
        sizes = (u.sizes_are ∙ ap Refused e ∙ sym (answer_refused n (sizes_of (layout_of M P)) z)) i;
      }

  -- the one equation
  pub whole_answer : Swizzles m nets trits output s es ws rs st log image to kinds scratch x log' image' to' kinds' scratch'
      → swizzled_of x (swizzle_scratch M P) log' image' to' kinds' scratch' ≡ swizzle_call given log (state_of st) (given_of m nets trits) output P
  whole_answer h =
      by_number x.refusal
      (λ z. accepted_is N h.number (sym h.number ∙ z) (h.accepted z))
      (λ r. refused_is N h.number r (λ z. r (h.number ∙ z)) (h.refused r))
      ∙ sym call_is

-- both promises of the call
pub promises : {m : Memory} {nets trits output : List ℕ} {s : MemorySwizzle} {es ws rs : List ℕ} {st : LogState} {log image to kinds scratch : List ℕ} {x : Told} {log' image' to' kinds' scratch' : List ℕ}
    → Swizzles m nets trits output s es ws rs st log image to kinds scratch x log' image' to' kinds' scratch'
    → (swizzled_of x (swizzle_scratch (memory_of m nets trits) (plan_of s es ws rs)) log' image' to' kinds' scratch'
    ≡ swizzle_call (record { image = image; nets = to; trits = kinds; scratch = scratch }) log (state_of st) (given_of m nets trits) output (plan_of s es ws rs))
    × Swizzles m nets trits output s es ws rs st log image to kinds scratch x log' image' to' kinds' scratch'
promises {m} {nets} {trits} {output} {s} {es} {ws} {rs} {st} {log} {image} {to} {kinds} {scratch} {x} {log'} {image'} {to'} {kinds'} {scratch'} h =
    (whole_answer m nets trits output s es ws rs st log image to kinds scratch x log' image' to' kinds' scratch' h, h)

-- a call that is refused, with everything as it was
module _ (m : Memory) (nets trits output : List ℕ) (s : MemorySwizzle) (es ws rs : List ℕ) (st : LogState) (log image to kinds scratch : List ℕ) (e : Refusal)
    (h : number e ≡ swizzle_refusal (record { image = length image; nets = length to; trits = length kinds; scratch = length scratch }) (length log) (state_of st) (given_of m nets trits) output (plan_of s es ws rs)) where
  refused_swizzles : Swizzles m nets trits output s es ws rs st log image to kinds scratch (told st (Err e)) log image to kinds scratch
  refused_swizzles = record {
    number = h;
    refused = λ z. record { made_is = refl; image_is = refl; scratch_is = refl; laid_is = refl; sizes_are = refl };
    accepted = λ z. absurd (number_nonzero e z);
  }

  pub refused_answer : swizzled_of (told st (Err e)) (swizzle_scratch (memory_of m nets trits) (plan_of s es ws rs)) log image to kinds scratch
      ≡ swizzle_call (record { image = image; nets = to; trits = kinds; scratch = scratch }) log (state_of st) (given_of m nets trits) output (plan_of s es ws rs)
  refused_answer = (promises refused_swizzles).0
