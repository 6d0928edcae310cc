-- The largest wide log, and the plan by it.
use mathlib.Core.Path.{◌≡◌, refl, sym, ap, ◌∙◌}
use Prim.Native.Nat.{ℕ, ◌+◌, ◌-◌, ◌/◌, ◌^◌, ◌<◌, ◌≤◌, min, max}
use native.Mathlib.Numerals.{add-one}
use native.Mathlib.Omega.{arith}
use mathlib.Core.List.{List, [], ◌∷◌, map}
use lib.ListN.{length, get_or, drop, replicate, length-map, get_or-map, drop_of_length-le}
use lib.Seq.{drop-cons}
use Rattle.lists.specs.Lists.{up_from}
use Rattle.lists.proofs.Parts.{get_d_any}
use Rattle.rules.specs.Limits.{addr_bits, max_ports}
use Rattle.rules.specs.Numbers.{largest}
use Rattle.rules.specs.Cell.{ReadPort, WritePort, Mem, wide_log2, write_wide_log2, read_wide_log2, write_at, read_at_of}
use Rattle.rules.specs.Fallback.{max_wide_log2, fallback_plan}
use Rattle.rules.proofs.Walks.{tops_le}
use Rattle.net_memory.specs.declared.Memory.{Memory}
use Rattle.net_memory.specs.View.{memory_of, writes_of, reads_of}
use Rattle.swizzle_plan.specs.declared.MemorySwizzle.{MemorySwizzle}
use Rattle.swizzle_plan.specs.Calls.{plan_of}
use Rattle.swizzle_plan.specs.Numbers.{write_logs}

-- the trits say nothing of a write port
pub write_log_any : (m : Memory) (nets s t : List ℕ) (j : ℕ) → write_wide_log2 (memory_of m nets s) (write_at (memory_of m nets s) j) ≡ write_wide_log2 (memory_of m nets t) (write_at (memory_of m nets t) j)
unfolding memory_of write_at write_wide_log2
write_log_any m nets s t j = refl

-- ---- the loop: what is left from i on gives the whole
module _ (L : List ℕ) where
  abbrev pub Most : ℕ → ℕ → Type 0
  Most i most = max most (largest (drop i L)) ≡ largest L

  left_cons : (i : ℕ) → i < length L → largest (drop i L) ≡ max (get_or L i 0) (largest (drop (i + 1) L))
  unfolding largest
  left_cons i h = ap largest (drop-cons L i 0 h) ∙ ap (λ (k : ℕ). max (get_or L i 0) (largest (drop k L))) (sym (add-one i))

  pub most_turn : (i most most' k : ℕ) → i < length L → Most i most → k ≡ get_or L i 0 → most' ≡ max most k → Most (i + 1) most'
  most_turn i most most' k h e f g = omega (arith, e, f, g, left_cons i h)

  left_nil : (i : ℕ) → length L ≤ i → largest (drop i L) ≡ 0
  unfolding largest
  left_nil i h = ap largest (drop_of_length-le L h)

  pub most_end : (i most : ℕ) → length L ≤ i → Most i most → most ≡ largest L
  most_end i most h e = omega (arith, e, left_nil i h)

-- ---- the logs of the read ports
module _ (m : Memory) (nets trits : List ℕ) where
  abbrev pub M : Mem
  M = memory_of m nets trits

  abbrev pub read_logs : List ℕ
  read_logs = map (read_wide_log2 M) M.reads

  pub read_log_lem : (i k : ℕ) → i < length M.reads → k ≡ read_wide_log2 M (read_at_of M i) → k ≡ get_or read_logs i 0
  unfolding read_at_of
  read_log_lem i k h e = e ∙ sym (get_or-map (read_wide_log2 M) M.reads i _) ∙ get_d_any read_logs i _ 0 (omega (arith, h, length-map M.reads (read_wide_log2 M)))

  reads_are : M.reads ≡ reads_of m nets trits
  unfolding memory_of
  reads_are = refl

  pub reads_long : length (reads_of m nets trits) ≡ min max_ports m.read_count → length M.reads ≡ min max_ports m.read_count
  reads_long e = ap length reads_are ∙ e

  pub logs_long : length (reads_of m nets trits) ≡ min max_ports m.read_count → length read_logs ≡ min max_ports m.read_count
  logs_long e = length-map M.reads (read_wide_log2 M) ∙ reads_long e

  writes_are : M.writes ≡ writes_of m nets
  unfolding memory_of
  writes_are = refl

  pub writes_long : length (writes_of m nets) ≡ min max_ports m.write_count → length M.writes ≡ min max_ports m.write_count
  writes_long e = ap length writes_are ∙ e

  pub most_is : (a b k : ℕ) → a ≡ largest (write_logs M) → b ≡ largest read_logs → k ≡ max a b → k ≡ max_wide_log2 M
  unfolding max_wide_log2
  most_is a b k e f h = omega (arith, e, f, h)

  -- ---- the plan
  wide_low : (w s : ℕ) → wide_log2 w s ≤ 31
  unfolding wide_log2
  wide_low w s = omega (arith, tops_le addr_bits (s / w))

  largest_low : {A : Type 0} (f : A → ℕ) (l : List A) → ((a : A) → f a ≤ 31) → largest (map f l) ≤ 31
  unfolding largest
  largest_low f [] h = omega arith
  largest_low f (a ∷ l) h = omega (arith, h a, largest_low f l h)

  write_low : (p : WritePort) → write_wide_log2 M p ≤ 31
  unfolding write_wide_log2
  write_low p = wide_low M.width (length p.bits)

  read_low : (p : ReadPort) → read_wide_log2 M p ≤ 31
  unfolding read_wide_log2
  read_low p = wide_low M.width p.data_len

  pub most_low : max_wide_log2 M ≤ 31
  unfolding max_wide_log2
  most_low = omega (arith, largest_low (write_wide_log2 M) M.writes write_low, largest_low (read_wide_log2 M) M.reads read_low)

  zeros : {A : Type 0} (l : List A) → map {B = ℕ} (λ (a : A). 0) l ≡ replicate (length l) 0
  zeros [] = refl
  zeros (a ∷ l) = ap (λ (x : List ℕ). 0 ∷ x) (zeros l)

  width_is : m.width ≡ M.width
  unfolding memory_of
  width_is = refl

  pub plan_is : (s : MemorySwizzle) (k rows : ℕ) → k ≡ max_wide_log2 M → rows ≡ 2 ^ min k 32 → s.soft_addr_bits_mask ≡ rows - 1 → s.hard_addr_bits ≡ 0 → s.data_width_unit ≡ m.width
      → length (writes_of m nets) ≡ min max_ports m.write_count → length (reads_of m nets trits) ≡ min max_ports m.read_count
      → plan_of s (up_from 0 m.width) (replicate (min max_ports m.write_count) 0) (replicate (min max_ports m.read_count) 0) ≡ fallback_plan M
  unfolding fallback_plan
  plan_is s k rows ek er em eh eu wl rl =
      let low : min k 32 ≡ max_wide_log2 M = omega (arith, ek, most_low) in
      λ i. record {
        entries = up_from 0 (width_is i);
        soft_mask = (em ∙ ap (λ (x : ℕ). x - 1) (er ∙ ap (λ (x : ℕ). 2 ^ x) low)) i;
        write_wide = (ap (λ (x : ℕ). replicate x 0) (sym (writes_long wl)) ∙ sym (zeros M.writes)) i;
        read_wide_of = (ap (λ (x : ℕ). replicate x 0) (sym (reads_long rl)) ∙ sym (zeros M.reads)) i;
        hard = eh i;
        unit = (eu ∙ width_is) i;
      }
