-- A struct without flip-flops: as many ports as before, in arrays of the same lengths.
use mathlib.Core.Path.{◌≡◌, refl, ap, ◌∙◌}
use Prim.Native.Nat.{ℕ, zero, suc, ◌+◌, min}
use mathlib.Core.Bool.{false, not}
use mathlib.Core.List.{List, [], ◌∷◌, map}
use lib.ListN.{take}
use lib.Dec.{eqb}
use Rattle.lists.specs.Lists.{any, sum_by}
use Rattle.lists.proofs.Choice.{or_false, or_both}
use Rattle.rules.specs.Limits.{max_ports}
use Rattle.net_memory.specs.declared.MemoryReadPort.{MemoryReadPort}
use Rattle.net_memory.specs.declared.Memory.{Memory}
use Rattle.net_memory.specs.View.{addr_size, trit_size, reads_start, nets_total, trits_total}
use Rattle.net_memory.specs.Given.{too_many_ports, long_relations, bad_lens}
use Rattle.port_unmap.specs.Call.{without}
use Rattle.fallback_bare.specs.Bare.{bare_of}

sum_bare : (f : MemoryReadPort → ℕ) → ((p : MemoryReadPort) → f (without p) ≡ f p) → (n : ℕ) (ps : List MemoryReadPort) → sum_by f (take n (map without ps)) ≡ sum_by f (take n ps)
sum_bare f h zero ps = refl
sum_bare f h (suc n) [] = refl
sum_bare f h (suc n) (p ∷ ps) = λ i. h p i + sum_bare f h n ps i

no_relations : (p : MemoryReadPort) → long_relations (without p) ≡ false
unfolding long_relations
no_relations p = refl

none_long : (n : ℕ) (ps : List MemoryReadPort) → any long_relations (take n (map without ps)) ≡ false
none_long zero ps = refl
none_long (suc n) [] = refl
none_long (suc n) (p ∷ ps) = or_both (no_relations p) (none_long n ps)

module _ (m : Memory) where
  pub many-bare : too_many_ports (bare_of m) ≡ too_many_ports m
  unfolding too_many_ports
  many-bare = refl

  nets_bare : nets_total (bare_of m) ≡ nets_total m
  unfolding nets_total
  nets_bare = ap (λ (n : ℕ). reads_start m + n) (sum_bare addr_size (λ p. refl) (min max_ports m.read_count) m.read_ports)

  trits-bare : trits_total (bare_of m) ≡ trits_total m
  unfolding trits_total
  trits-bare = ap (λ (n : ℕ). m.init_len + n) (sum_bare trit_size (λ p. refl) (min max_ports m.read_count) m.read_ports)

  pub lens_bare : (nets trits : ℕ) → bad_lens m nets trits ≡ false → bad_lens (bare_of m) nets trits ≡ false
  unfolding bad_lens
  lens_bare nets trits e =
      let a = or_false (not (eqb nets (nets_total m))) _ e in
      let b = or_false (not (eqb trits (trits_total m))) _ a.1 in
      or_both (ap (λ (n : ℕ). not (eqb nets n)) nets_bare ∙ a.0)
      (or_both (ap (λ (n : ℕ). not (eqb trits n)) trits-bare ∙ b.0) (none_long (min max_ports m.read_count) m.read_ports))
