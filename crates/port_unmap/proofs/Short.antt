-- 14 of a port, and the numbers in their order.
use mathlib.Core.Path.{◌≡◌, refl, sym, ap, ◌∙◌}
use Prim.Native.Nat.{ℕ, suc, ◌<◌, ◌≤◌, min}
use native.Mathlib.Numerals.{add-one}
use mathlib.Core.Bool.{Bool, true, false, ◌&&◌, ◌||◌}
use mathlib.Core.List.{List, [], ◌∷◌}
use lib.ListN.{length}
use lib.Dec.{leb}
use borrow.Author.Tests.{le-leb, lt-leb}
use Rattle.lists.specs.Choice.{when◌then◌else◌}
use Rattle.lists.specs.Lists.{any, part}
use Rattle.lists.proofs.Choice.{cases_le, else_rest, hit, miss}
use Rattle.rules.specs.Limits.{max_ports}
use Rattle.rules.specs.Value.{Value}
use Rattle.rules.specs.Cell.{ReadPort, ReadFlipFlop, Mem, write_wide_log2, read_wide_log2, write_at, read_at_of, is_transparent, transparent_from, transparent_ports, held}
use Rattle.rules.specs.Conditions.{too_few_bits, short_pair, short_port, bad_port, not_below}
use Rattle.rules.specs.Refusals.{narrower_select_refusal, port_number, driving_number, unmap_read_dff_number}
use Rattle.net_memory.specs.declared.Memory.{Memory}
use Rattle.net_memory.specs.declared.MemoryReadPort.{MemoryReadPort}
use Rattle.std.specs.Prelude.{None, Some, is_some, Result, Ok, Err}
use Rattle.std.specs.Result.{is_err}
use Rattle.rules.specs.Refusal.{number_of}
use Rattle.rules.specs.declared.numbers.Refusal.{Refusal}
use Rattle.rules.proofs.Answers.{number_nonzero}
use native.Mathlib.Omega.{arith}
use Rattle.net_memory.specs.FlipFlop.{MemoryReadFlipFlop}
use Rattle.net_memory.specs.View.{no_read_port, memory_of, reads_of, read_port, read_by, flip_flop_by}
use Rattle.net_memory.proofs.Ports.{read_of_view, reads_none, reads_at}
use Rattle.net_memory.specs.Given.{given_of}
use Rattle.std.specs.List.{enumerate_from}

-- a refusal by a test that is none where the test fails
refused_is : (t : Bool) (n : Result Unit Refusal) → number_of n ≡ (when t then 14 else 0) → is_err n ≡ t
refused_is true (Ok x) e = absurd (omega (arith, e))
refused_is false (Ok x) e = refl
refused_is true (Err x) e = refl
refused_is false (Err x) e = absurd (number_nonzero x e)

pub short_is : (m : Mem) (r : ReadPort) (kw kr j : ℕ) (n : Result Unit Refusal) (waddr raddr : Value) → number_of n ≡ narrower_select_refusal kw kr waddr raddr → kw ≡ write_wide_log2 m (write_at m j)
    → waddr ≡ (write_at m j).addr → kr ≡ read_wide_log2 m r → raddr ≡ r.addr → is_err n ≡ short_pair m r j
unfolding narrower_select_refusal short_pair
short_is m r kw kr j n waddr raddr en ek ea er eq =
    refused_is (too_few_bits kw kr waddr raddr) n en ∙ (λ i. too_few_bits (ek i) (er i) (ea i) (eq i))

-- no trit plays a part
module _ (m : Memory) (nets x y : List ℕ) where
  wide_any : (r : ReadPort) → read_wide_log2 (memory_of m nets x) r ≡ read_wide_log2 (memory_of m nets y) r
  unfolding memory_of read_wide_log2
  wide_any r = refl

  pair_any : (r : ReadPort) (j : ℕ) → short_pair (memory_of m nets x) r j ≡ short_pair (memory_of m nets y) r j
  unfolding memory_of short_pair write_at read_wide_log2 write_wide_log2
  pair_any r j = refl

  pub pair_like : (r : ReadPort) (kr j : ℕ) (b : Bool) → kr ≡ read_wide_log2 (memory_of m nets x) r → (kr ≡ read_wide_log2 (memory_of m nets y) r → b ≡ short_pair (memory_of m nets y) r j) → b ≡ short_pair (memory_of m nets x) r j
  pair_like r kr j b e f = f (e ∙ wide_any r) ∙ sym (pair_any r j)

  pair_by : (p : MemoryReadPort) (a b c : List ℕ) (j : ℕ) → short_pair (memory_of m nets x) (read_by p a b) j ≡ short_pair (memory_of m nets y) (read_by p a c) j
  unfolding memory_of short_pair write_at read_wide_log2 write_wide_log2
  pair_by p a b c j = refl

  ports_by : (f : MemoryReadFlipFlop) (s t : ℕ → Bool) (p : MemoryReadPort) (b c : List ℕ) → ((j : ℕ) → s j ≡ t j)
      → any (λ (g : ReadFlipFlop). any s (transparent_ports g)) (held (flip_flop_by f p b)) ≡ any (λ (g : ReadFlipFlop). any t (transparent_ports g)) (held (flip_flop_by f p c))
  unfolding held transparent_ports
  ports_by None s t p b c e = refl
  ports_by (Some g) s t p b c e = λ k. any (λ j. e j k) (transparent_from 0 (part 0 p.relations_len p.relations)) || false

  port_by : (p : MemoryReadPort) (a b c : List ℕ) → short_port (memory_of m nets x) (read_by p a b) ≡ short_port (memory_of m nets y) (read_by p a c)
  unfolding short_port
  port_by p a b c = ports_by p.flip_flop _ _ p b c (pair_by p a b c)

  pub port_any : (i : ℕ) → short_port (memory_of m nets x) (read_at_of (memory_of m nets x) i) ≡ short_port (memory_of m nets y) (read_at_of (memory_of m nets y) i)
  port_any i =
      cases_le (min max_ports m.read_count) i
      (λ h. (λ k. short_port (memory_of m nets x) ((read_of_view m nets x i ∙ reads_none m nets x i h) k)) ∙ port_by no_read_port [] [] [] ∙ sym (λ k. short_port (memory_of m nets y) ((read_of_view m nets y i ∙ reads_none m nets y i h) k)))
      (λ h. (λ k. short_port (memory_of m nets x) ((read_of_view m nets x i ∙ reads_at m nets x i (omega arith)) k)) ∙ port_by (read_port m i) _ _ _ ∙ sym (λ k. short_port (memory_of m nets y) ((read_of_view m nets y i ∙ reads_at m nets y i (omega arith)) k)))

-- ---- the pairs
pub pairs_are : (f : ℕ → Bool) (rels : List ℕ) (n : ℕ) → any (λ (p : ℕ × ℕ). is_transparent p.1 && f p.0) (enumerate_from n rels) ≡ any f (transparent_from n rels)
unfolding transparent_from
pairs_are f [] n = refl
pairs_are f (x ∷ rels) n = rw add-one (ap (λ (t : Bool). (is_transparent x && f n) || t) (pairs_are f rels (suc n)) ∙ by_test (is_transparent x))
  where
    by_test : (t : Bool) → ((t && f n) || any f (transparent_from (suc n) rels)) ≡ any f (when t then n ∷ transparent_from (suc n) rels else transparent_from (suc n) rels)
    by_test true = refl
    by_test false = refl

-- ---- a port, by its struct
or_none : (a : Bool) → a ≡ (a || false)
or_none true = refl
or_none false = refl

flip_flop_at : (p : MemoryReadPort) (y : List ℕ) (s : ℕ → Bool) (f : MemoryReadFlipFlop)
    → any (λ (g : ReadFlipFlop). any s (transparent_ports g)) (held (flip_flop_by f p y)) ≡ (is_some f && any s (transparent_from 0 (part 0 p.relations_len p.relations)))
unfolding held transparent_ports
flip_flop_at p y s None = refl
flip_flop_at p y s (Some c) = sym (or_none _)

module _ (m : Mem) (r : ReadPort) (p : MemoryReadPort) (x y rels : List ℕ) (e : read_by p x y ≡ r) (er : rels ≡ part 0 p.relations_len p.relations) where
  port_at : (is_some p.flip_flop && any (short_pair m r) (transparent_from 0 rels)) ≡ short_port m r
  unfolding short_port
  port_at =
      (λ k. is_some p.flip_flop && any (short_pair m r) (transparent_from 0 (er k)))
      ∙ sym (flip_flop_at p y (short_pair m r) p.flip_flop)
      ∙ (λ k. any (λ (g : ReadFlipFlop). any (short_pair m r) (transparent_ports g)) (held (e k).flip_flop))

  pub at_none : is_some p.flip_flop ≡ false → false ≡ short_port m r
  at_none q = sym (λ k. q k && any (short_pair m r) (transparent_from 0 rels)) ∙ port_at

  pub at_some : (b : Bool) → is_some p.flip_flop ≡ true → b ≡ any (short_pair m r) (transparent_from 0 rels) → b ≡ short_port m r
  at_some b q h = h ∙ sym (λ k. q k && any (short_pair m r) (transparent_from 0 rels)) ∙ port_at

-- ---- the numbers
pub port_15 : (m : Memory) (nets trits : List ℕ) (i : ℕ) → length (reads_of m nets trits) ≡ min max_ports m.read_count → min max_ports m.read_count ≤ i → port_number (memory_of m nets trits) i ≡ 15
unfolding port_number bad_port not_below memory_of
port_15 m nets trits i k h = ap (λ (t : Bool). when t then 15 else 0) (ap (λ (n : ℕ). leb n i) k ∙ le-leb _ _ h)

pub port_0 : (m : Memory) (nets trits : List ℕ) (i : ℕ) → length (reads_of m nets trits) ≡ min max_ports m.read_count → i < min max_ports m.read_count → port_number (memory_of m nets trits) i ≡ 0
unfolding port_number bad_port not_below memory_of
port_0 m nets trits i k h = ap (λ (t : Bool). when t then 15 else 0) (ap (λ (n : ℕ). leb n i) k ∙ lt-leb _ _ h)

module _ (next : ℕ) (m : Memory) (nets trits : List ℕ) (i : ℕ) (output : List ℕ) where
  abbrev D : ℕ
  D = driving_number false next (given_of m nets trits) output

  abbrev S : Bool
  S = short_port (memory_of m nets trits) (read_at_of (memory_of m nets trits) i)

  module _ (z : D ≡ 0) where
    pub num_14 : S ≡ true → 14 ≡ unmap_read_dff_number next (given_of m nets trits) i output
    unfolding unmap_read_dff_number
    num_14 e = hit 14 _ e ∙ sym (else_rest D _ z)

    pub num_15 : S ≡ false → length (reads_of m nets trits) ≡ min max_ports m.read_count → min max_ports m.read_count ≤ i → 15 ≡ unmap_read_dff_number next (given_of m nets trits) i output
    unfolding unmap_read_dff_number
    num_15 e k h = miss 14 _ 15 e (sym (port_15 m nets trits i k h)) ∙ sym (else_rest D _ z)

    pub num_0 : S ≡ false → length (reads_of m nets trits) ≡ min max_ports m.read_count → i < min max_ports m.read_count → 0 ≡ unmap_read_dff_number next (given_of m nets trits) i output
    unfolding unmap_read_dff_number
    num_0 e k h = miss 14 _ 0 e (sym (port_0 m nets trits i k h)) ∙ sym (else_rest D _ z)
