-- An unmapping is in sequence and gives few nets, so that a run without a log never reaches X.
use Prim.Native.Nat.{ℕ, ◌+◌, ◌≤◌}
use native.Mathlib.Omega.{arith}
use mathlib.Core.Bool.{Bool, true, false}
use lib.ListN.{length, replicate, length-replicate}
use Rattle.lists.proofs.UpFrom.{length_up}
use Rattle.rules.specs.Limits.{X}
use Rattle.rules.specs.Value.{Value, x_nets}
use Rattle.rules.specs.Cell.{ReadFlipFlop, Mem, write_at, read_at_of, transparent_ports, flip_flop_of, or_empty}
use Rattle.rules.specs.Log.{◌>>◌, request, add_void_of, add_dff_of, replace_value_of}
use Rattle.rules.specs.Merge.{add_dedup_dff_of, add_bitwise_mux_of}
use Rattle.rules.specs.Beside.Chain.{Chains}
use Rattle.rules.specs.Ports.{Overlay, transparencies, wanted, mask_flip_flop, unmap_reset}
use Rattle.rules.proofs.Chain.{chains_void, chains_dff, chains_dedup_dff, chains_bitwise_mux, chains_replace, chains_bind, chains_then, chains_done}
use Rattle.rules.proofs.Counted.{AtMost, most_bind, most-done, counted_void, counted_dff, counted_replace}
use Rattle.merge_dff.proofs.Call.{few_keys, dedup_next}
use Rattle.port_transparency.specs.Pairs.{with_mask}
use Rattle.port_overlay.proofs.Bounds.{Small, FewMask, bitwise_most, chains_all, most-all, all_few, all_mask_few, from_few}

pub chains_reset : (m : Mem) (i : ℕ) (incl : Bool) (output : Value) (f : ReadFlipFlop) → Chains (unmap_reset m i incl output f)
unfolding unmap_reset
chains_reset m i incl output f =
    chains_bind _ _ (chains_all m i (wanted incl f) _) (λ o. chains_bind _ _ (chains_dff _) (λ d. chains_bind _ _ (chains_dedup_dff _) (λ k.
    chains_bind _ _ (chains_void _) (λ v. chains_bind _ _ (chains_bitwise_mux _ _ _) (λ b. chains_then _ _ (chains_replace _ _) (chains_done _))))))

-- ---- few nets
start_few : (n : ℕ) → n ≤ 2048 → length (with_mask (x_nets n) (replicate n 0)).bits ≤ 2048
unfolding x_nets
start_few n h = omega (arith, length-replicate {A = ℕ} n X)

mask_few : (n : ℕ) → n ≤ 2048 → FewMask (with_mask (x_nets n) (replicate n 0))
unfolding or_empty
mask_few n h = omega (arith, length-replicate {A = ℕ} n 0)

data_most : (f : ReadFlipFlop) (v : Value) → length v ≤ 2048 → AtMost (add_dff_of (flip_flop_of f v)) 2048
unfolding flip_flop_of
data_most f v h n = omega (arith, (counted_dff (flip_flop_of f v)).nets n)

data_few : (f : ReadFlipFlop) (v : Value) (k : ℕ) → length v ≤ 2048 → length (add_dff_of (flip_flop_of f v) k).value ≤ 2048
unfolding add_dff_of request flip_flop_of
data_few f v k h = omega (arith, length_up k (length v))

mask_most : (f : ReadFlipFlop) (n : ℕ) (o : Overlay) → FewMask o → AtMost (add_dedup_dff_of (mask_flip_flop f n o.mask)) 2048
unfolding mask_flip_flop
mask_most f n o h k = omega (arith, dedup_next (mask_flip_flop f n o.mask) k, few_keys (mask_flip_flop f n o.mask), h)

void_most : (n : ℕ) → n ≤ 2048 → AtMost (add_void_of n) 2048
void_most n h k = omega (arith, (counted_void n).nets k)

replace_most : (a b : Value) → AtMost (replace_value_of a b) 0
replace_most a b n = omega (arith, (counted_replace a b).nets n)

module _ (m : Mem) (i : ℕ) (s : (j : ℕ) → Small (write_at m j) (read_at_of m i).data_len) where
  wanted_few : (incl : Bool) (f : ReadFlipFlop) → length f.relations ≤ 8 → length (wanted incl f) ≤ 8
  unfolding wanted transparent_ports
  wanted_few true f h = omega (arith, from_few m i s 0 f.relations, h)
  wanted_few false f h = omega arith

  pub most_reset : (incl : Bool) (output : Value) (f : ReadFlipFlop) → length f.relations ≤ 8 → (read_at_of m i).data_len ≤ 2048 → AtMost (unmap_reset m i incl output f) 106504
  unfolding unmap_reset ◌>>◌
  most_reset incl output f h g =
      let n = (read_at_of m i).data_len in
      let js = wanted incl f in
      let o = with_mask (x_nets n) (replicate n 0) in
      most_bind (transparencies m i js o) _ 98312 8192 (λ x. most_ports incl f h g x) (λ a.
      most_bind (add_dff_of _) _ 2048 6144 (data_most f (transparencies m i js o a).value.bits (all_few m i s js o a (start_few n g))) (λ b.
      most_bind (add_dedup_dff_of _) _ 2048 4096 (mask_most f n (transparencies m i js o a).value (all_mask_few m i s js o a (mask_few n g))) (λ c.
      most_bind (add_void_of n) _ 2048 2048 (void_most n g) (λ d.
      most_bind (add_bitwise_mux_of _ _ _) _ 2048 0 (bitwise_most _ _ _ (data_few f (transparencies m i js o a).value.bits b (all_few m i s js o a (start_few n g)))) (λ e.
      most_bind (replace_value_of _ _) _ 0 0 (replace_most _ _) (λ x. most-done _ 0))))))
    where
      most_ports : (incl : Bool) (f : ReadFlipFlop) → length f.relations ≤ 8 → (read_at_of m i).data_len ≤ 2048 → (x : ℕ)
          → (transparencies m i (wanted incl f) (with_mask (x_nets (read_at_of m i).data_len) (replicate (read_at_of m i).data_len 0)) x).next ≤ x + 98312
      most_ports incl f h g x =
          omega (arith, most-all m i s (wanted incl f) (with_mask (x_nets (read_at_of m i).data_len) (replicate (read_at_of m i).data_len 0)) (mask_few (read_at_of m i).data_len g) x, wanted_few incl f h)
