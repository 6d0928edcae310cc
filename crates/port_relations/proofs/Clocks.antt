-- What the structs of the read ports say is what the rules ask of their flip-flops, and the numbers by it.
use mathlib.Core.Path.{◌≡◌, refl, sym, ap, ◌∙◌}
use mathlib.Core.Logic.{◌≢◌}
use Prim.Native.Nat.{ℕ, zero, suc, min}
use native.Mathlib.Omega.{arith}
use native.Mathlib.Numerals.{add-one}
use mathlib.Core.Bool.{Bool, true, false, not, ◌&&◌, ◌||◌}
use mathlib.Core.List.{List, [], ◌∷◌, ◌++◌}
use lib.ListN.{length, take, drop, get_or}
use lib.Dec.{eqb}
use Rattle.lists.specs.Choice.{when◌then◌else◌, ◌or_else◌}
use Rattle.lists.specs.Lists.{any, part, up_from}
use Rattle.lists.proofs.Choice.{else_first, else_rest, hit, miss}
use Rattle.rules.specs.Limits.{max_ports}
use Rattle.rules.specs.Value.{Control}
use Rattle.rules.specs.Cell.{ReadFlipFlop, ReadPort, Mem, flip_flops, held, is_some, is_transparent, is_read_before_write, ReadBeforeWrite, Transparent}
use Rattle.rules.specs.Ports.{relates_to}
use Rattle.rules.specs.Conditions.{clocks_differ, read_clocks_differ, mixed_relations, unclocked}
use Rattle.rules.specs.declared.numbers.Refusal.{Refusal}
use Rattle.rules.specs.Refusal.{number}
use Rattle.rules.specs.Refusals.{mem_number, emulate_number}
use Rattle.rules.proofs.Answers.{refused_by}
use Rattle.net_value.specs.View.{control_of}
use Rattle.net_memory.specs.FlipFlop.{MemoryReadFlipFlop}
use Rattle.std.specs.Prelude.{None, Some}
use Rattle.net_memory.specs.declared.MemoryReadPort.{MemoryReadPort}
use Rattle.net_memory.specs.declared.Memory.{Memory}
use Rattle.net_memory.specs.Given.{clocked, given_of}
use Rattle.std.specs.List.{range_with_len}
use Rattle.lists.specs.Views.{views}
use Rattle.net_memory.specs.View.{read_by, flip_flop_by, writes_of, addr_size, trit_size, read_ports_of, memory_of}
use Rattle.port_relations.specs.Clocked.{other_clock, differs, port_differs, first_differs, clocks_differ_of, has_relation, port_relates, mixed_ports, flip_flops_from}

any_append : {A : Type 0} (f : A → Bool) (a b : List A) → any f (a ++ b) ≡ (any f a || any f b)
any_append f [] b = refl
any_append f (x ∷ a) b = or_assoc (f x) (any f a) (any f b) (any f (a ++ b)) (any_append f a b)
  where
    or_assoc : (x y z w : Bool) → w ≡ (y || z) → (x || w) ≡ ((x || y) || z)
    or_assoc true y z w e = refl
    or_assoc false y z w e = e

or_none : (a : Bool) → (a || false) ≡ a
or_none true = refl
or_none false = refl

-- a port's own flip-flop, by the struct
pub differs_by : (k : Control) (p : MemoryReadPort) (y : List ℕ) (f : MemoryReadFlipFlop) → any (other_clock k) (held (flip_flop_by f p y)) ≡ differs k f
unfolding held
differs_by k p y None = refl
differs_by k p y (Some c) = or_none _

pub relates_by : (code j : ℕ) (p : MemoryReadPort) (y : List ℕ) (f : MemoryReadFlipFlop) → any (has_relation code j) (held (flip_flop_by f p y)) ≡ (clocked f && eqb (get_or (part 0 p.relations_len p.relations) j 0) code)
unfolding held
relates_by code j p y None = refl
relates_by code j p y (Some c) = or_none _

pub some_by : (p : MemoryReadPort) (y : List ℕ) (f : MemoryReadFlipFlop) → is_some (flip_flop_by f p y) ≡ clocked f
unfolding is_some
some_by p y None = refl
some_by p y (Some c) = refl

-- the numbers of a range
up_from_is : (a n : ℕ) → range_with_len a n ≡ up_from a n
up_from_is a zero = refl
up_from_is a (suc n) = rw add-one (ap (λ (l : List ℕ). a ∷ l) (up_from_is (suc a) n))

-- ---- the structs of the ports, and the ports as the rules have them
module _ (nets : List ℕ) where
  abbrev views_of : List MemoryReadPort → List ℕ → List ℕ → List ReadPort
  views_of = views addr_size trit_size read_by

  -- a test of each flip-flop
  any_views : (f : ReadFlipFlop → Bool) (g : MemoryReadPort → Bool) → ((p : MemoryReadPort) (y : List ℕ) → any f (held (flip_flop_by p.flip_flop p y)) ≡ g p)
      → (ps : List MemoryReadPort) (x y : List ℕ) → any g ps ≡ any f (flip_flops (views_of ps x y))
  unfolding flip_flops
  any_views f g e [] x y = refl
  any_views f g e (p ∷ ps) x y =
      (λ i. sym (e p (take (trit_size p) y)) i || any_views f g e ps (drop (addr_size p) x) (drop (trit_size p) y) i)
      ∙ sym (any_append f (held (flip_flop_by p.flip_flop p (take (trit_size p) y))) (flip_flops (views_of ps (drop (addr_size p) x) (drop (trit_size p) y))))

  clock_by : (f : MemoryReadFlipFlop) (p : MemoryReadPort) (z : List ℕ) (ps : List MemoryReadPort) (rest : List ReadFlipFlop)
      → ((k : Control) → any (port_differs k) ps ≡ any (other_clock k) rest) → clocks_differ_of ps ≡ clocks_differ rest
      → first_differs f ps (clocks_differ_of ps) ≡ clocks_differ (held (flip_flop_by f p z) ++ rest)
  unfolding held clocks_differ
  clock_by None p z ps rest a b = b
  clock_by (Some c) p z ps rest a b = a (control_of c.clock)

  clocks_views : (ps : List MemoryReadPort) (x y : List ℕ) → clocks_differ_of ps ≡ clocks_differ (flip_flops (views_of ps x y))
  unfolding flip_flops clocks_differ
  clocks_views [] x y = refl
  clocks_views (p ∷ ps) x y =
      clock_by p.flip_flop p (take (trit_size p) y) ps _ (λ k. any_views (other_clock k) (port_differs k) (λ q z. differs_by k q z q.flip_flop) ps _ _) (clocks_views ps _ _)

  open_views : (ps : List MemoryReadPort) (x y : List ℕ) → any (λ (p : MemoryReadPort). not (clocked p.flip_flop)) ps ≡ any unclocked (views_of ps x y)
  unfolding unclocked
  open_views [] x y = refl
  open_views (p ∷ ps) x y = λ i. not (sym (some_by p (take (trit_size p) y) p.flip_flop) i) || open_views ps (drop (addr_size p) x) (drop (trit_size p) y) i

-- ---- as the rules name them
module _ (m : Memory) (nets trits : List ℕ) where
  pub relates_are : (code j : ℕ) → any (port_relates code j) (read_ports_of m) ≡ any (has_relation code j) (flip_flops_from m nets trits 0)
  relates_are code j = any_views nets (has_relation code j) (port_relates code j) (λ p y. relates_by code j p y p.flip_flop) (read_ports_of m) _ _

  pub clocks_are : clocks_differ_of (read_ports_of m) ≡ read_clocks_differ (memory_of m nets trits)
  unfolding read_clocks_differ memory_of
  clocks_are = clocks_views nets (read_ports_of m) _ _

  pub open_are : any (λ (p : MemoryReadPort). not (clocked p.flip_flop)) (read_ports_of m) ≡ any unclocked (memory_of m nets trits).reads
  unfolding memory_of
  open_are = open_views nets (read_ports_of m) _ _

  pub before_is : (j : ℕ) → any (has_relation ReadBeforeWrite j) (flip_flops_from m nets trits 0) ≡ relates_to is_read_before_write (memory_of m nets trits) j
  unfolding relates_to is_read_before_write memory_of
  before_is j = refl

  pub mixed_are : length (writes_of m nets) ≡ min max_ports m.write_count → any (mixed_ports (read_ports_of m)) (range_with_len 0 (min max_ports m.write_count)) ≡ mixed_relations (memory_of m nets trits)
  unfolding mixed_relations relates_to is_read_before_write is_transparent memory_of
  mixed_are n = ap (any (mixed_ports (read_ports_of m))) (up_from_is 0 (min max_ports m.write_count)) ∙ (λ i. any (λ (j : ℕ). relates_are ReadBeforeWrite j i && relates_are Transparent j i) (up_from 0 (sym n i)))

-- ---- the numbers in their order
module _ (next : ℕ) (m : Memory) (nets trits : List ℕ) where
  abbrev N : ℕ
  N = mem_number false false false next (given_of m nets trits)

  abbrev M : Mem
  M = memory_of m nets trits

  abbrev pub input_number : ℕ
  input_number = emulate_number next (given_of m nets trits) or_else (when any unclocked M.reads then 22 else 0)

  emulate_first : N ≢ 0 → emulate_number next (given_of m nets trits) ≡ N
  unfolding emulate_number
  emulate_first h = else_first N _ h

  emulate_rest : N ≡ 0 → emulate_number next (given_of m nets trits) ≡ (when read_clocks_differ M then 12 else when mixed_relations M then 13 else 0)
  unfolding emulate_number
  emulate_rest e = else_rest N _ e

  before_22 : (n k : ℕ) → emulate_number next (given_of m nets trits) ≡ k → n ≡ k → k ≢ 0 → n ≡ input_number
  before_22 n k e q h = q ∙ sym (else_first (emulate_number next (given_of m nets trits)) _ (λ z. h (sym e ∙ z)) ∙ e)

  pub num_err : (e : Refusal) → number e ≡ N → number e ≡ input_number
  num_err e h = before_22 (number e) N (emulate_first (refused_by e N h)) h (refused_by e N h)

  module _ (z : N ≡ 0) where
    pub num_12 : read_clocks_differ M ≡ true → 12 ≡ input_number
    num_12 e = before_22 12 12 (emulate_rest z ∙ sym (hit 12 _ e)) refl (λ q. omega (arith, q))

    pub num_13 : read_clocks_differ M ≡ false → mixed_relations M ≡ true → 13 ≡ input_number
    num_13 e f = before_22 13 13 (emulate_rest z ∙ sym (miss 12 _ 13 e (hit 13 _ f))) refl (λ q. omega (arith, q))

    pub num_last : (x : ℕ) → read_clocks_differ M ≡ false → mixed_relations M ≡ false → x ≡ (when any unclocked M.reads then 22 else 0) → x ≡ input_number
    num_last x e f q = q ∙ sym (else_rest (emulate_number next (given_of m nets trits)) _ (emulate_rest z ∙ sym (miss 12 _ 0 e (miss 13 _ 0 f refl))))
