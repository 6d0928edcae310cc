-- The memory and the outputs that a fallback splits: what all unmappings leave, where no number refused the fallback.
use mathlib.Core.Path.{◌≡◌, sym, ap, ◌∙◌}
use Prim.Native.Nat.{ℕ, ◌≤◌}
use native.Mathlib.Nat.{le_refl}
use native.Mathlib.Omega.{arith}
use mathlib.Core.Bool.{true, false}
use mathlib.Core.List.{List}
use lib.ListN.{length}
use borrow.Author.Tests.{eqb-true, not-false}
use Rattle.rules.specs.Limits.{max_nets}
use Rattle.rules.specs.Value.{Value, good_value}
use Rattle.rules.specs.Cell.{Mem, output_len}
use Rattle.rules.specs.Ports.{unmap_all}
use Rattle.rules.specs.Conditions.{bad_output_len, bad_value}
use Rattle.rules.specs.Refusals.{lower_fallback_number}
use Rattle.net_memory.specs.declared.Memory.{Memory}
use Rattle.net_memory.specs.View.{memory_of}
use Rattle.net_memory.specs.Given.{given_of}
use Rattle.port_unmap_all.specs.All.{unmapped_all, all_bare, AllReady}
use Rattle.port_unmap_all.proofs.Fold.{Like}
use Rattle.port_unmap_all.proofs.Rules.{rules_like, all_ready}
use Rattle.fallback_bare.specs.Bare.{bare_of}
use Rattle.fallback_pass.proofs.Growth.{value_grows}
use Rattle.fallback_pass.proofs.Number.{driven, long_pairs, good, bare_is}
use Rattle.fallback_pass.proofs.Kept.{Kept, kept-all}

output_long : (m : Mem) (output : Value) → bad_output_len m output ≡ false → length output ≡ output_len m
unfolding bad_output_len
output_long m output e = eqb-true _ _ (not-false _ e)

value_good : (next : ℕ) (v : Value) → bad_value next v ≡ false → good_value next v ≡ true
unfolding bad_value
value_good next v e = not-false _ e

module _ (next : ℕ) (m : Memory) (nets trits output : List ℕ) (z : lower_fallback_number next (given_of m nets trits) output ≡ 0) where
  abbrev M : Mem
  M = memory_of m nets trits

  pub ready : AllReady M
  ready = all_ready false next m nets trits output (driven next m nets trits output z) (long_pairs next m nets trits output z)

  pub given_long : length output ≡ output_len M
  given_long = output_long M output (good next m nets trits output z).two_not

  pub given_good : good_value next output ≡ true
  given_good = value_good next output (good next m nets trits output z).four_not

  like : (k : ℕ) → Like (all_bare M) (unmap_all M output k) (unmapped_all M output output k)
  like k = rules_like M ready output k

  kept : (k : ℕ) → Kept k output (unmapped_all M output output k)
  kept k = kept-all M output output k

  pub unmapped-memory : (k : ℕ) → (unmap_all M output k).value.memory ≡ memory_of (bare_of m) nets trits
  unmapped-memory k = (like k).memory_is ∙ sym (bare_is next m nets trits output z)

  pub unmapped_next : (k : ℕ) → k ≤ (unmap_all M output k).next
  unmapped_next k = omega (arith, (like k).next_is, (kept k).grows)

  pub unmapped_long : (k : ℕ) → length (unmap_all M output k).value.output ≡ output_len M
  unmapped_long k = ap length (like k).output_is ∙ (kept k).long ∙ given_long

  -- below the limit of nets, which the log keeps
  pub unmapped_good : (k : ℕ) → next ≤ k → (unmap_all M output k).next ≤ max_nets → good_value (unmap_all M output k).next (unmap_all M output k).value.output ≡ true
  unmapped_good k h g =
      let x = unmapped_all M output output k in
      let low : x.next ≤ max_nets = omega (arith, (like k).next_is, g) in
      let up : next ≤ x.next = omega (arith, (kept k).grows, h) in
      (λ i. good_value ((like k).next_is i) ((like k).output_is i)) ∙ (kept k).good x.next (le_refl x.next) low (value_grows next x.next up output given_good)
