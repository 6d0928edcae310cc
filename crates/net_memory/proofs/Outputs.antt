-- Where the outputs of a port start, by the structs.
use mathlib.Core.Path.{◌≡◌, refl, ap, ◌∙◌}
use Prim.Native.Nat.{ℕ, zero, suc, ◌+◌, min}
use native.Mathlib.Omega.{arith}
use mathlib.Core.List.{List, [], ◌∷◌}
use lib.ListN.{take, drop, length-take}
use lib.Seq.{take-take, take_all}
use Rattle.lists.specs.Lists.{sum_by}
use Rattle.lists.specs.Views.{views}
use Rattle.lists.proofs.Choice.{cases_le}
use Rattle.rules.specs.Limits.{max_ports}
use Rattle.rules.specs.Cell.{output_start, output_len}
use Rattle.net_memory.specs.View.{addr_size, trit_size, read_by, read_ports_of, reads_start, memory_of}
use Rattle.net_memory.specs.declared.MemoryReadPort.{MemoryReadPort}
use Rattle.net_memory.specs.declared.Memory.{Memory}

abbrev pub data_size : MemoryReadPort → ℕ
data_size p = p.data_len

-- a number of each view that its thing alone decides
module _ {P A B R : Type 0} (s t : P → ℕ) (read : P → List A → List B → R) (f : R → ℕ) (g : P → ℕ) (e : (p : P) (x : List A) (y : List B) → f (read p x y) ≡ g p) where
  pub sum_views : (i : ℕ) (ps : List P) (l : List A) (m : List B) → sum_by f (take i (views s t read ps l m)) ≡ sum_by g (take i ps)
  sum_views zero ps l m = refl
  sum_views (suc i) [] l m = refl
  sum_views (suc i) (p ∷ ps) l m =
      (λ k. e p (take (s p) l) (take (t p) m) k + sum_views i ps (drop (s p) l) (drop (t p) m) k)

  pub sum_all : (ps : List P) (l : List A) (m : List B) → sum_by f (views s t read ps l m) ≡ sum_by g ps
  sum_all [] l m = refl
  sum_all (p ∷ ps) l m = λ k. e p (take (s p) l) (take (t p) m) k + sum_all ps (drop (s p) l) (drop (t p) m) k

module _ {A : Type 0} where
  -- the first of the first
  pub take_min : (i n : ℕ) (l : List A) → take i (take n l) ≡ take (min i n) l
  take_min i n l =
      cases_le i n
      (λ h. let e : min i n ≡ i = omega arith in rw e (take-take i n l h))
      (λ h. let e : min i n ≡ n = omega arith in rw e (take_all i (take n l) (omega (arith, length-take n l))))

module _ (m : Memory) (nets trits : List ℕ) where
  pub output_start_lem : (i : ℕ) → output_start (memory_of m nets trits) i ≡ sum_by data_size (take (min i (min max_ports m.read_count)) m.read_ports)
  unfolding output_start memory_of
  output_start_lem i =
      sum_views addr_size trit_size read_by (λ p. p.data_len) data_size (λ p x y. refl) i (read_ports_of m) (drop (reads_start m) nets) (drop m.init_len trits)
      ∙ ap (sum_by data_size) (take_min i (min max_ports m.read_count) m.read_ports)

  pub output_len_lem : output_len (memory_of m nets trits) ≡ sum_by data_size (take (min max_ports m.read_count) m.read_ports)
  unfolding output_len memory_of
  output_len_lem = sum_all addr_size trit_size read_by (λ p. p.data_len) data_size (λ p x y. refl) (read_ports_of m) (drop (reads_start m) nets) (drop m.init_len trits)
