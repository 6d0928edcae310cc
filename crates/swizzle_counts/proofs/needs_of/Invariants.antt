-- The invariants of `swizzle_counts::needs_of`.
use Rattle.std.proofs.Common.{ℕ, ◌≡◌, ◌-◌, ◌*◌, length, get_or, map}
use Rattle.lists.specs.Lists.{up_from}
use Rattle.swizzle_counts.specs.declared.Needs.{Needs}
use Rattle.swizzle_counts.specs.Needs.{plus_needs, all_needs, Most, port_most}
use Rattle.swizzle_counts.proofs.needs_of.Given as goal

abbrev pub invariant-loop-i : goal.invariant-loop-i
invariant-loop-i g l = record {
  most : Most (l.i * port_most) l.total;
  sum : (f : ℕ → ℕ → Needs) → ((i new : ℕ) (r : Needs) → goal.F-post g l.fn.needs i new r → r ≡ f i new)
      → plus_needs l.total (all_needs (map (λ j. f j (get_or l.wides j 0)) (up_from l.i (length l.wides - l.i)))) ≡ all_needs (map (λ j. f j (get_or l.wides j 0)) (up_from 0 (length l.wides)));
}
