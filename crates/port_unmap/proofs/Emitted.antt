-- The values that the code reads of a clocked port are the view's.
use mathlib.Core.Path.{◌≡◌, refl, sym, ap, ◌∙◌}
use Prim.Native.Nat.{ℕ, ◌≤◌}
use native.Mathlib.Omega.{arith}
use mathlib.Core.List.{List}
use lib.ListN.{length, take}
use lib.Seq.{take_all}
use Rattle.lists.specs.Lists.{part}
use Rattle.rules.specs.Limits.{max_ports}
use Rattle.rules.specs.Value.{Value}
use Rattle.rules.specs.Cell.{ReadFlipFlop, ReadPort, Mem, read_at_of, wide_log2, read_wide_log2, flip_flop_of, output_start, output_slice}
use Rattle.net_flip_flop.specs.declared.FlipFlop.{FlipFlop}
use Rattle.net_flip_flop.specs.View.{flip_flop}
use Rattle.log_entries.specs.Emission.{Lent, run}
use Rattle.net_memory.specs.declared.Memory.{Memory}
use Rattle.net_memory.specs.View.{memory_of}
use Rattle.port_transparency.specs.Pairs.{reading}
use Rattle.port_overlay.specs.Laid.{with_bits, unmapped_if}
use Rattle.port_unmap.specs.Trace.{FlipFlopOf, related, port_trace}

wide_by : (v : Mem) (r : ReadPort) → wide_log2 v.width r.data_len ≡ read_wide_log2 v r
unfolding read_wide_log2
wide_by v r = refl

pub width_of : (m : Memory) (nets trits : List ℕ) → m.width ≡ (memory_of m nets trits).width
unfolding memory_of
width_of m nets trits = refl

behind_is : (f : ReadFlipFlop) → (λ (b : Value). flip_flop f.controls b f.clear_value f.reset_value f.init_value) ≡ flip_flop_of f
unfolding flip_flop_of
behind_is f = refl

-- the values that the code reads of the port r as the view has it, in a memory of this width
pub wide_from : (v : Mem) (r : ReadPort) (w n k : ℕ) → w ≡ v.width → k ≡ wide_log2 w n → n ≡ r.data_len → k ≡ read_wide_log2 v r
wide_from v r w n k ew e d = e ∙ (λ j. wide_log2 (ew j) (d j)) ∙ wide_by v r

pub slice_from : (v : Mem) (i start n : ℕ) (output bits : Value) → start ≡ output_start v i → n ≡ (read_at_of v i).data_len → bits ≡ part start n output → bits ≡ output_slice v i output
unfolding output_slice
slice_from v i start n output bits es en e = e ∙ (λ k. part (es k) (en k) output)

few : (l : List ℕ) → length l ≤ 8 → l ≡ take max_ports l
few l h = sym (take_all max_ports l (omega arith))

-- the run of port_overlay is the port's
pub port_from : (v : Mem) (i : ℕ) (output : Value) (g f : ReadFlipFlop) (cell : FlipFlop) (raddr rels from : List ℕ) (kr n : ℕ) (l l1 : Lent) → kr ≡ read_wide_log2 v (read_at_of v i) → raddr ≡ (read_at_of v i).addr
    → n ≡ (read_at_of v i).data_len → from ≡ output_slice v i output → FlipFlopOf cell g → rels ≡ g.relations → length rels ≤ 8 → g ≡ f
    → l1 ≡ run (unmapped_if v kr (reading raddr n) n rels (with_bits cell) from) l → l1 ≡ run (port_trace v i output f) l
port_from v i output g f cell raddr rels from kr n l l1 ek ea en ef eg er e8 e q =
    q ∙ (λ k. run (unmapped_if v (ek k) (reading (ea k) (en k)) (en k) ((few rels e8 ∙ ap (take max_ports) er) k) (λ b. flip_flop (eg.controls_are k) b (eg.clear_is k) (eg.reset_is k) (eg.init_is k)) (ef k)) l)
    ∙ (λ k. run (unmapped_if v (read_wide_log2 v (read_at_of v i)) (reading (read_at_of v i).addr (read_at_of v i).data_len) (read_at_of v i).data_len (related g) (behind_is g k) (output_slice v i output)) l)
    ∙ (λ k. run (port_trace v i output (e k)) l)
