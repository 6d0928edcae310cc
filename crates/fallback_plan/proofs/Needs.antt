-- The scratch of the split by the plan of a fallback: the pieces of a read port are no more bits than the memory has.
use mathlib.Core.Path.{◌≡◌, refl, sym, ap, ◌∙◌, subst}
use Prim.Native.Nat.{ℕ, zero, ◌-◌, ◌*◌, ◌^◌, ◌≤◌}
use native.Mathlib.Nat.{mul_assoc, mul_comm, mul-le-mul_right}
use native.Mathlib.Omega.{arith}
use mathlib.Core.Bool.{false}
use mathlib.Core.List.{List, [], ◌∷◌, map}
use borrow.Author.Tests.{eqb-true, not-false}
use Rattle.lists.specs.Lists.{any, pairs}
use Rattle.lists.proofs.Choice.{or_false}
use Rattle.rules.specs.Limits.{addr_bits}
use Rattle.rules.specs.Numbers.{largest}
use Rattle.rules.specs.Cell.{ReadPort, Mem, read_wide_log2}
use Rattle.rules.specs.Geometry.{layout_of, all_chunks}
use Rattle.rules.specs.Swizzle.{split_addr, piece_nets}
use Rattle.rules.specs.Conditions.{bad_depth, bad_data_len, bad_read_shape}
use Rattle.rules.specs.Fallback.{fallback_plan}
use Rattle.fallback_plan.proofs.Numbers.{K, q, chunks_all, whole_depth, reads_low}
use Rattle.fallback_plan.proofs.Pieces.{pieces_fit_lem}

module _ (m : Mem) (h : K m ≤ addr_bits) (e : bad_depth m ≡ false) where
  hard_is : (q m).hard ≡ 0
  unfolding layout_of fallback_plan
  hard_is = refl

  mask_is : (q m).soft_mask ≡ 2 ^ K m - 1
  unfolding layout_of fallback_plan
  mask_is = refl

  rows_all : all_chunks (q m) * 2 ^ K m ≡ m.depth
  rows_all = mul_comm (all_chunks (q m)) (2 ^ K m) ∙ ap (λ (n : ℕ). 2 ^ K m * n) (chunks_all m h e) ∙ whole_depth m h e

  data_is : (r : ReadPort) → bad_read_shape m r ≡ false → r.data_len ≡ m.width * 2 ^ read_wide_log2 m r
  unfolding bad_read_shape bad_data_len read_wide_log2
  data_is r f = eqb-true _ _ (not-false _ (or_false _ _ (or_false _ _ f).0).0)

  piece_nets_lem : (r : ReadPort) → piece_nets m (fallback_plan m) (r, 0) ≡ (split_addr (q m) (read_wide_log2 m r) 0 r.addr).pieces * r.data_len
  unfolding piece_nets
  piece_nets_lem r = refl

  one_fits : (r : ReadPort) → bad_read_shape m r ≡ false → read_wide_log2 m r ≤ K m → piece_nets m (fallback_plan m) (r, 0) ≤ m.depth * m.width
  one_fits r f l =
      let n = (split_addr (q m) (read_wide_log2 m r) 0 r.addr).pieces in
      let a : n * 2 ^ read_wide_log2 m r * m.width ≤ all_chunks (q m) * 2 ^ K m * m.width = mul-le-mul_right m.width (pieces_fit_lem (q m) (K m) (read_wide_log2 m r) r.addr hard_is mask_is l) in
      let b : piece_nets m (fallback_plan m) (r, 0) ≡ n * 2 ^ read_wide_log2 m r * m.width =
      piece_nets_lem r ∙ ap (λ (d : ℕ). n * d) (data_is r f ∙ mul_comm m.width (2 ^ read_wide_log2 m r)) ∙ sym (mul_assoc n (2 ^ read_wide_log2 m r) m.width) in
      omega (arith, a, b, ap (λ (d : ℕ). d * m.width) rows_all)

  all_fit : (rs : List ReadPort) → any (bad_read_shape m) rs ≡ false → largest (map (read_wide_log2 m) rs) ≤ K m
      → largest (map (piece_nets m (fallback_plan m)) (pairs rs (map (λ (r : ReadPort). zero) rs))) ≤ m.depth * m.width
  unfolding largest
  all_fit [] f l = omega arith
  all_fit (r ∷ rs) f l =
      let o = or_false (bad_read_shape m r) _ f in
      omega (arith, one_fits r o.0 (omega (arith, l)), all_fit rs o.1 (omega (arith, l)))

  wides : (fallback_plan m).read_wide_of ≡ map (λ (r : ReadPort). zero) m.reads
  unfolding fallback_plan
  wides = refl

  -- of every read port
  pub scratch_fits : any (bad_read_shape m) m.reads ≡ false → largest (map (piece_nets m (fallback_plan m)) (pairs m.reads (fallback_plan m).read_wide_of)) ≤ m.depth * m.width
  scratch_fits f =
      subst (λ (ns : List ℕ). largest (map (piece_nets m (fallback_plan m)) (pairs m.reads ns)) ≤ m.depth * m.width) (sym wides) (all_fit m.reads f (reads_low m))
