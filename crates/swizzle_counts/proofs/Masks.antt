-- The nets of a row's mask that differ, by a merge against zeros.
use mathlib.Core.Path.{◌≡◌, refl, sym, ap, ◌∙◌}
use Prim.Native.Nat.{ℕ, ◌*◌, ◌≤◌}
use native.Mathlib.Nat.{mul-le-mul}
use native.Mathlib.Omega.{arith}
use mathlib.Core.Bool.{true}
use mathlib.Core.List.{List, []}
use lib.ListN.{length, take, replicate, length-map, length-replicate}
use lib.Seq.{sets, length-sets, take_all}
use lib.Dec.{eqb}
use borrow.Author.Tests.{le-leb}
use Rattle.lists.specs.Lists.{pairs}
use Rattle.lists.specs.Distinct.{kept}
use Rattle.lists.proofs.Parts.{part_replicate}
use Rattle.lists.proofs.Pairs.{length_pairs}
use Rattle.lists.proofs.Distinct.{length_kept}
use Rattle.rules.specs.Limits.{X, max_merge, max_width, max_row, max_nets}
use Rattle.rules.specs.Value.{Value}
use Rattle.rules.specs.Merge.{Key2, same2}
use Rattle.rules.specs.Swizzle.{repeating}
use Rattle.merge_keys.specs.declared.Kept.{Kept}
use Rattle.merge_keys.specs.Keys.{MergeOf}
use Rattle.swizzle_laws.proofs.WriteCounts.{length_zero_kept}
use Rattle.swizzle_columns.specs.declared.WidePort.{WidePort}
use Rattle.swizzle_columns.specs.Rows.{all_sources}
use Rattle.swizzle_columns.specs.Wide.{rows_fit, mask_row}
use Rattle.swizzle_columns.proofs.Rows.{length_repeating}
use Rattle.swizzle_columns.proofs.Ports.{length_sources, mask_row_lem}
use Rattle.swizzle_columns.proofs.Fits.{mask_can}
use Rattle.swizzle_counts.specs.Needs.{kept_nets, MaskFits}

rows_low : (w : WidePort) (len : ℕ) → w.olds ≤ 16 → w.width ≤ max_width → len ≤ max_row → w.pieces ≤ max_nets → rows_fit w len ≡ true
unfolding rows_fit
rows_low w len h g k l = rw (le-leb len max_row k, le-leb w.olds 16 h, le-leb w.width max_width g, le-leb w.pieces max_nets l)

pub mask_fits : (w : WidePort) (len n : ℕ) → w.olds ≤ 16 → w.width ≤ max_width → len ≤ max_row → w.pieces ≤ max_nets → n ≡ w.olds * len → MaskFits w len n
mask_fits w len n h g k l e = record {
  fits = rows_low w len h g k l;
  count = e;
  few = omega (arith, e, mul-le-mul {n₁ = w.olds} {m₁ = len} {n₂ = 16} {m₂ = 256} h k);
}

module _ (w : WidePort) (n : ℕ) (es v row : List ℕ) (f : MaskFits w (length es) n) (long : length row ≡ 4096) where
  abbrev nets : Value
  nets = repeating X (all_sources w.olds w.width es) v

  nets_size : length nets ≡ n
  nets_size = length_repeating X (all_sources w.olds w.width es) v ∙ length_sources w.olds w.width es ∙ sym f.count

  module _ (row' : List ℕ) (e : row' ≡ mask_row w es v row) where
    stored : row' ≡ sets row 0 nets
    stored = e ∙ mask_can w es v row f.fits

    pub row_size : length row' ≡ 4096
    row_size = ap length stored ∙ length-sets row 0 nets ∙ long

    nets_are : take n row' ≡ nets
    nets_are = mask_row_lem w.olds w.width (length es) n es v row row' refl f.count (omega (arith, long, f.few)) stored

    module _ (zeros : List ℕ) (z : zeros ≡ replicate 4096 0) where
      zeros_are : take n zeros ≡ replicate (length nets) 0
      zeros_are = ap (take n) z ∙ part_replicate 0 n 4096 0 (omega (arith, f.few)) ∙ ap (λ (k : ℕ). replicate k 0) (sym nets_size)

      abbrev none : Value
      none = replicate (length nets) 0

      pairs_few : length (pairs nets none) ≤ max_merge
      pairs_few = omega (arith, length_pairs nets none (sym (length-replicate {A = ℕ} (length nets) 0)), nets_size, f.few)

      merged : take max_merge (pairs (take n row') (take n zeros)) ≡ pairs nets none
      merged = (λ i. take max_merge (pairs (nets_are i) (zeros_are i))) ∙ take_all max_merge (pairs nets none) pairs_few

      -- as many as the merge keeps
      pub counted : (k : Kept) → MergeOf (take max_merge (pairs (take n row') (take n zeros))) k
          → (length k.x.now ≡ kept_nets w.olds w.width es v) × (length k.x.now ≤ max_merge)
      counted k q =
          let ks : List Key2 = kept same2 (pairs nets none) in
          let e = ap length (rw merged at q.kept_x) ∙ length-map ks (λ p. p.0) ∙ length_zero_kept nets in
          (e, omega (arith, e, length_kept eqb [] nets, nets_size, f.few))
