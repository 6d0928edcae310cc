-- The struct and the trits after an unmapping, as the rules see them.
use mathlib.Core.Path.{◌≡◌, refl, sym, ap, ◌∙◌}
use Prim.Native.Nat.{ℕ, ◌+◌, ◌<◌, ◌≤◌, min}
use native.Mathlib.Nat.{le_refl}
use native.Mathlib.Omega.{arith}
use mathlib.Core.Bool.{Bool, false}
use mathlib.Core.Option.{some}
use mathlib.Core.List.{List}
use lib.ListN.{length, replicate, length-replicate, get_or-eq_default}
use lib.Seq.{sets, take-take, get_or-take, length-sets}
use borrow.Author.Tests.{eqb-true, not-false}
use Rattle.lists.specs.Lists.{sum_by, part}
use Rattle.lists.proofs.Choice.{or_false}
use Rattle.lists.proofs.Parts.{length_part, part_replicate}
use Rattle.lists.proofs.Store.{take_sets, drop_sets, part_sets}
use Rattle.lists.proofs.Sum.{sum_part}
use Rattle.rules.specs.Limits.{max_ports, trit_x}
use Rattle.rules.specs.Logic.{undef}
use Rattle.rules.specs.Cell.{ReadFlipFlop, ReadPort, Mem, read_at_of, with_reads, with_flip_flop}
use Rattle.rules.specs.Conditions.{bad_trit_lens, bad_flip_flop_shape}
use Rattle.rules.specs.Ports.{unmapped_reset}
use Rattle.net_flip_flop.specs.declared.Controls.{Controls}
use Rattle.net_memory.specs.declared.MemoryReadPort.{MemoryReadPort}
use Rattle.net_memory.specs.declared.Memory.{Memory}
use Rattle.net_memory.specs.View.{no_read_port, memory_of, read_port, read_ports_of, read_by, clocked_by, read_trits, read_start, trit_start, addr_size, trit_size, trits_total}
use Rattle.net_memory.proofs.Ports.{read_of_view, reads_at, trits_at}
use Rattle.net_memory.proofs.Changes.{with_read, read_changed}
use Rattle.port_unreset.specs.Struct.{unreset_controls, unreset_port, unreset, blanked}
use Rattle.port_unreset.proofs.Plain.{kept-part}

-- ---- the trits of a port are there
pub trits_there_lem : (m : Memory) (trits : List ℕ) (i : ℕ) → i < min max_ports m.read_count → length trits ≡ trits_total m → trit_start m i + trit_size (read_port m i) ≤ length trits
unfolding trits_total
trits_there_lem m trits i h e =
    let a = take-take i (min max_ports m.read_count) m.read_ports (before i h) in
    let b = get_or-take (min max_ports m.read_count) m.read_ports i no_read_port h in
    let s = sum_part trit_size no_read_port refl (read_ports_of m) i in
    sums _ _ (ap (sum_by trit_size) a) (ap trit_size b) s e
  where
    before : (j : ℕ) {k : ℕ} → j < k → j ≤ k
    before j g = omega arith

    sums : (t n : ℕ) {x x' y y' : ℕ} → x ≡ x' → y ≡ y' → x + y ≤ t → n ≡ m.init_len + t → m.init_len + x' + y' ≤ n
    sums t n p q r s = omega arith

-- ---- the view
undef_is : (n : ℕ) → replicate n trit_x ≡ undef n
unfolding undef
undef_is n = refl

with_is : (v : Mem) (i : ℕ) (r : ReadPort) (g : ReadFlipFlop) → r ≡ record { addr = (read_at_of v i).addr; data_len = (read_at_of v i).data_len; flip_flop = some g } → with_read v i r ≡ with_flip_flop v i (some g)
unfolding with_flip_flop with_reads
with_is v i r g e = ap (with_read v i) e

lens : (n : ℕ) (a b c : List ℕ) → bad_trit_lens n a b c ≡ false → (length a ≡ n) × (length b ≡ n) × (length c ≡ n)
unfolding bad_trit_lens
lens n a b c e =
    let x = or_false _ _ e in
    let y = or_false _ _ x.1 in
    (eqb-true _ _ (not-false _ x.0), eqb-true _ _ (not-false _ y.0), eqb-true _ _ (not-false _ y.1))

shape_lens : (v : Mem) (n : ℕ) (f : ReadFlipFlop) → bad_flip_flop_shape v n f ≡ false → bad_trit_lens n f.clear_value f.reset_value f.init_value ≡ false
unfolding bad_flip_flop_shape
shape_lens v n f e = (or_false _ _ e).0

module _ (m : Memory) (nets trits : List ℕ) (i : ℕ) (c : Controls) (incl : Bool) (there : i < min max_ports m.read_count)
    (own_good : bad_flip_flop_shape (memory_of m nets trits) (read_at_of (memory_of m nets trits) i).data_len (clocked_by c (read_port m i) (read_trits m trits i)) ≡ false)
    (fits : trit_start m i + trit_size (read_port m i) ≤ length trits) where
  abbrev M : Mem
  M = memory_of m nets trits

  abbrev F : ReadFlipFlop
  F = clocked_by c (read_port m i) (read_trits m trits i)

  abbrev p : MemoryReadPort
  p = read_port m i

  abbrev n : ℕ
  n = (read_at_of M i).data_len

  abbrev size : ℕ
  size = trit_size (read_port m i)

  own_length : length (read_trits m trits i) ≡ size
  own_length = ap length (trits_at m nets trits i there) ∙ length_part (trit_start m i) size trits fits

  three : (length F.clear_value ≡ n) × (length F.reset_value ≡ n) × (length F.init_value ≡ n)
  three = lens n F.clear_value F.reset_value F.init_value (shape_lens M n F own_good)

  clear_n : p.clear_len ≡ n
  clear_n = sym (length_part 0 p.clear_len (read_trits m trits i) (omega (arith, own_length))) ∙ three.0

  reset_n : p.reset_len ≡ n
  reset_n = sym (length_part p.clear_len p.reset_len (read_trits m trits i) (omega (arith, own_length))) ∙ three.1

  init_n : p.init_len ≡ n
  init_n = sym (length_part (p.clear_len + p.reset_len) p.init_len (read_trits m trits i) (omega (arith, own_length))) ∙ three.2

  abbrev xs : List ℕ
  xs = replicate size trit_x

  xs_length : length xs ≡ size
  xs_length = length-replicate size trit_x

  stored : part (trit_start m i) size (blanked m i trits) ≡ xs
  stored =
      ap (λ (k : ℕ). part (trit_start m i) k (blanked m i trits)) (sym xs_length)
      ∙ part_sets trits (trit_start m i) xs (omega (arith, xs_length, fits))

  -- a part of them
  x_part : (a k : ℕ) → a + k ≤ size → k ≡ n → part a k (part (trit_start m i) size (blanked m i trits)) ≡ undef n
  x_part a k h e = ap (part a k) stored ∙ part_replicate a k size trit_x h ∙ ap (λ (j : ℕ). replicate j trit_x) e ∙ undef_is n

  flip_is : clocked_by (unreset_controls c) (unreset_port p c incl) (part (trit_start m i) size (blanked m i trits)) ≡ unmapped_reset incl n F
  unfolding unmapped_reset
  flip_is = λ k. record {
    controls = record { clock = F.controls.clock; clear = (unmapped_reset incl n F).controls.clear; reset = (unmapped_reset incl n F).controls.reset; enable = F.controls.enable; reset_over_enable = F.controls.reset_over_enable };
    clear_value = x_part 0 p.clear_len (omega arith) clear_n k;
    reset_value = x_part p.clear_len p.reset_len (omega arith) reset_n k;
    init_value = x_part (p.clear_len + p.reset_len) p.init_len (omega arith) init_n k;
    relations = kept-part incl p.relations_len p.relations k;
  }

  before : read_at_of M i ≡ read_by p (part (read_start m i) (addr_size p) nets) (part (trit_start m i) size trits)
  before = read_of_view m nets trits i ∙ reads_at m nets trits i there

  pub reset_view : memory_of (unreset m i c incl) nets (blanked m i trits) ≡ with_flip_flop M i (some (unmapped_reset incl n F))
  reset_view =
      let q = unreset_port p c incl in
      read_changed m i q nets nets trits (blanked m i trits) there refl refl refl refl
      (take_sets (trit_start m i) xs trits (trit_start m i) (le_refl (trit_start m i)))
      (drop_sets (trit_start m i + size) xs trits (trit_start m i) (omega (arith, xs_length)))
      ∙ with_is M i (read_by q (part (read_start m i) (addr_size p) nets) (part (trit_start m i) size (blanked m i trits))) (unmapped_reset incl n F)
      (λ k. record { addr = (sym before k).addr; data_len = (sym before k).data_len; flip_flop = some (flip_is k) })

pub blank_length : (m : Memory) (i : ℕ) (trits : List ℕ) → length (blanked m i trits) ≤ length trits
blank_length m i trits = omega (arith, length-sets trits (trit_start m i) (replicate (trit_size (read_port m i)) trit_x))

-- ---- where there is no such port
pub trits_past : (m : Memory) (i : ℕ) (trits : List ℕ) → length m.read_ports ≤ i → trits ≡ blanked m i trits
trits_past m i trits h = sym (ap (λ (p : MemoryReadPort). sets trits (trit_start m i) (replicate (trit_size p) trit_x)) (get_or-eq_default m.read_ports no_read_port h))
