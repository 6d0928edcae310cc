-- A memory's part of a port's nets or trits, as a part of the whole lent array.
use mathlib.Core.Path.{◌≡◌, refl, sym, ap, ◌∙◌}
use Prim.Native.Nat.{ℕ, ◌+◌, ◌*◌, ◌<◌, ◌≤◌}
use native.Mathlib.Nat.{add-zero, add-mul, mul-le-mul_right}
use native.Mathlib.Omega.{arith}
use mathlib.Core.Bool.{true}
use mathlib.Core.List.{List}
use lib.ListN.{length}
use Rattle.lists.specs.Lists.{part}
use Rattle.lists.proofs.Parts.{part-part}
use Rattle.rules.specs.Limits.{max_ports}
use Rattle.rules.specs.Cell.{WritePort, ReadPort, write_at, read_at_of}
use Rattle.net_flip_flop.specs.declared.Controls.{Controls}
use Rattle.net_memory.specs.FlipFlop.{MemoryReadFlipFlop}
use Rattle.std.specs.Prelude.{None, Some}
use Rattle.std.specs.Option.{is_some}
use Rattle.swizzle_result.specs.declared.WideMemory.{WideMemory}
use Rattle.swizzle_parts.specs.declared.Bits.{Bits}
use Rattle.swizzle_parts.specs.declared.Bits.TheVariants.{Data, Mask}
use Rattle.swizzle_parts.specs.declared.Kind.{Kind}
use Rattle.swizzle_parts.specs.declared.Kind.TheVariants.{Clear, Reset, Init}
use Rattle.swizzle_result.specs.View.{own, whole, write_size, addr_size, trits_if}
use Rattle.swizzle_parts.specs.Parts.{write_port, read_port, has_write, has_read, memory_at, clear_at, reset_at, init_at, bits_before, bits_at, kind_before, kind_at, write_start, read_start, trit_start}
use Rattle.swizzle_parts.proofs.Found.{write_known, read_known, write_at_lem, read_at, clear_is, reset_is, init_is}

-- a flip-flop that is there
controls_of : (x : MemoryReadFlipFlop) → is_some x ≡ true → (f : Controls) × (x ≡ Some f)
controls_of None h = cc
controls_of (Some f) h = (f, refl)

module _ (g : WideMemory) (n w : ℕ) (h : n < g.mems) where
  own_within : n * own g w + own g w ≤ whole g w
  own_within =
      let a : (n + 1) * own g w ≤ g.mems * own g w = mul-le-mul_right (own g w) (omega arith) in
      omega (arith, add-mul n 1 (own g w))

module _ (g : WideMemory) (n j : ℕ) (nets trits image : List ℕ) (e : has_write g n j ≡ true) (z : length g.write_ports ≡ max_ports) where
  abbrev P : ℕ
  P = (write_port g j).addr_len

  abbrev O : ℕ
  O = own g (write_port g j).wide

  abbrev W : ℕ
  W = whole g (write_port g j).wide

  pub addr_cut : part (write_start g j) P nets ≡ (write_at (memory_at g nets trits image n).memory j).addr
  addr_cut =
      sym (ap (λ (w : WritePort). w.addr) (write_at_lem g n j nets trits image e z)
      ∙ part-part 0 P (write_start g j) (write_size g (write_port g j)) nets (omega arith)
      ∙ ap (λ (s : ℕ). part s P nets) (add-zero (write_start g j)))

  -- after so many times the columns of all memories
  pub data_cut : part (write_start g j + (P + 0 * W + n * O)) O nets ≡ (write_at (memory_at g nets trits image n).memory j).bits
  data_cut =
      let e′ : P + 0 * W + n * O ≡ P + n * O = omega arith in
      ap (λ (k : ℕ). part (write_start g j + k) O nets) e′
      ∙ sym (ap (λ (w : WritePort). w.bits) (write_at_lem g n j nets trits image e z)
      ∙ part-part (P + n * O) O (write_start g j) (write_size g (write_port g j)) nets (omega (arith, own_within g n (write_port g j).wide (write_known g n j e).0.below)))

  pub mask_cut : part (write_start g j + (P + 1 * W + n * O)) O nets ≡ (write_at (memory_at g nets trits image n).memory j).mask
  mask_cut =
      let e′ : P + 1 * W + n * O ≡ P + W + n * O = omega arith in
      ap (λ (k : ℕ). part (write_start g j + k) O nets) e′
      ∙ sym (ap (λ (w : WritePort). w.mask) (write_at_lem g n j nets trits image e z)
      ∙ part-part (P + W + n * O) O (write_start g j) (write_size g (write_port g j)) nets (omega (arith, own_within g n (write_port g j).wide (write_known g n j e).0.below)))

module _ (g : WideMemory) (n i : ℕ) (nets trits image : List ℕ) (e : has_read g n i ≡ true) (z : length g.read_ports ≡ max_ports) where
  pub read_addr_cut : part (read_start g i) (read_port g i).addr_len nets ≡ (read_at_of (memory_at g nets trits image n).memory i).addr
  read_addr_cut =
      sym (ap (λ (r : ReadPort). r.addr) (read_at g n i nets trits image e z)
      ∙ part-part 0 (read_port g i).addr_len (read_start g i) (addr_size (read_port g i)) nets (omega arith)
      ∙ ap (λ (s : ℕ). part s (read_port g i).addr_len nets) (add-zero (read_start g i)))

  module _ (h : is_some (read_port g i).flip_flop ≡ true) where
    abbrev F : (f : Controls) × ((read_port g i).flip_flop ≡ Some f)
    F = controls_of (read_port g i).flip_flop h

    abbrev R : ℕ
    R = own g (read_port g i).wide

    abbrev A : ℕ
    A = whole g (read_port g i).wide

    -- the port has three times as many trits as all memories have columns in its rows
    inside : (k : ℕ) → k + R ≤ A + (A + A) → part k R (part (trit_start g i) (trits_if (read_port g i).flip_flop A) trits) ≡ part (trit_start g i + k) R trits
    inside k l =
        ap (λ (x : MemoryReadFlipFlop). part k R (part (trit_start g i) (trits_if x A) trits)) F.1
        ∙ part-part k R (trit_start g i) (A + (A + A)) trits l

    -- after so many times the columns of all memories
    at_cut : (k k′ : ℕ) → k ≡ k′ → part (trit_start g i + k) R trits ≡ part (trit_start g i + k′) R trits
    at_cut k k′ q = ap (λ (s : ℕ). part (trit_start g i + s) R trits) q

    pub clear_cut : part (trit_start g i + (0 * A + n * R)) R trits ≡ clear_at (memory_at g nets trits image n).memory i
    clear_cut =
        at_cut (0 * A + n * R) (n * R) (omega arith)
        ∙ sym (clear_is g n i nets trits image e z F.0 F.1 ∙ inside (n * R) (omega (arith, own_within g n (read_port g i).wide (read_known g n i e).0.below)))

    pub reset_cut : part (trit_start g i + (1 * A + n * R)) R trits ≡ reset_at (memory_at g nets trits image n).memory i
    reset_cut =
        at_cut (1 * A + n * R) (A + n * R) (omega arith)
        ∙ sym (reset_is g n i nets trits image e z F.0 F.1 ∙ inside (A + n * R) (omega (arith, own_within g n (read_port g i).wide (read_known g n i e).0.below)))

    pub init_cut : part (trit_start g i + (2 * A + n * R)) R trits ≡ init_at (memory_at g nets trits image n).memory i
    init_cut =
        at_cut (2 * A + n * R) (A + A + n * R) (omega arith)
        ∙ sym (init_is g n i nets trits image e z F.0 F.1 ∙ inside (A + A + n * R) (omega (arith, own_within g n (read_port g i).wide (read_known g n i e).0.below)))

-- ---- whichever part of a port
module _ (g : WideMemory) (n j : ℕ) (nets trits image : List ℕ) where
  pub bits_cut : (b : Bits) → has_write g n j ≡ true → length g.write_ports ≡ max_ports
      → part (write_start g j + ((write_port g j).addr_len + bits_before b * whole g (write_port g j).wide + n * own g (write_port g j).wide)) (own g (write_port g j).wide) nets
      ≡ bits_at b (write_at (memory_at g nets trits image n).memory j)
  bits_cut Data e z = data_cut g n j nets trits image e z
  bits_cut Mask e z = mask_cut g n j nets trits image e z

  pub kind_cut : (k : Kind) → has_read g n j ≡ true → length g.read_ports ≡ max_ports → is_some (read_port g j).flip_flop ≡ true
      → part (trit_start g j + (kind_before k * whole g (read_port g j).wide + n * own g (read_port g j).wide)) (own g (read_port g j).wide) trits ≡ kind_at k (memory_at g nets trits image n).memory j
  kind_cut Clear e z h = clear_cut g n j nets trits image e z h
  kind_cut Reset e z h = reset_cut g n j nets trits image e z h
  kind_cut Init e z h = init_cut g n j nets trits image e z h
