-- The numbers in their order.
use mathlib.Core.Path.{◌≡◌, sym, ap, ◌∙◌}
use Prim.Native.Nat.{ℕ, ◌<◌, ◌≤◌, min}
use mathlib.Core.Bool.{Bool, true, false, ◌&&◌}
use mathlib.Core.List.{List}
use lib.ListN.{length}
use Rattle.lists.proofs.Choice.{else_rest, hit, miss}
use Rattle.rules.specs.Limits.{max_ports}
use Rattle.rules.specs.Cell.{read_at_of}
use Rattle.rules.specs.Conditions.{short_port}
use Rattle.rules.specs.Refusals.{driving_number, unmap_reset_number}
use Rattle.net_memory.specs.declared.Memory.{Memory}
use Rattle.net_memory.specs.View.{memory_of, reads_of}
use Rattle.net_memory.specs.Given.{given_of}
use Rattle.port_unmap.proofs.Short.{port_15, port_0}

pub short_not : (incl b : Bool) → incl ≡ false → false ≡ (incl && b)
short_not incl b e = sym (ap (λ (x : Bool). x && b) e)

pub short_is : (incl b x : Bool) → incl ≡ true → x ≡ b → x ≡ (incl && b)
short_is incl b x e q = q ∙ sym (ap (λ (y : Bool). y && b) e)

module _ (next : ℕ) (m : Memory) (nets trits : List ℕ) (i : ℕ) (incl : Bool) (output : List ℕ) where
  abbrev D : ℕ
  D = driving_number false next (given_of m nets trits) output

  abbrev S : Bool
  S = incl && short_port (memory_of m nets trits) (read_at_of (memory_of m nets trits) i)

  module _ (z : D ≡ 0) where
    pub num_14 : S ≡ true → 14 ≡ unmap_reset_number next (given_of m nets trits) i incl output
    unfolding unmap_reset_number
    num_14 e = hit 14 _ e ∙ sym (else_rest D _ z)

    module _ (e : S ≡ false) (k : length (reads_of m nets trits) ≡ min max_ports m.read_count) where
      pub num_15 : min max_ports m.read_count ≤ i → 15 ≡ unmap_reset_number next (given_of m nets trits) i incl output
      unfolding unmap_reset_number
      num_15 h = miss 14 _ 15 e (sym (port_15 m nets trits i k h)) ∙ sym (else_rest D _ z)

      pub num_0 : i < min max_ports m.read_count → 0 ≡ unmap_reset_number next (given_of m nets trits) i incl output
      unfolding unmap_reset_number
      num_0 h = miss 14 _ 0 e (sym (port_0 m nets trits i k h)) ∙ sym (else_rest D _ z)
