-- The values of wide ports are whole: as many as all new rows have columns; a read port's trits in the order of the memories; and its output
-- nets, which follow from the first.
use mathlib.Core.Path.{◌≡◌, refl, sym, ap, ◌∙◌}
use Prim.Native.Nat.{ℕ, zero, suc, ◌+◌, ◌*◌, ◌^◌}
use native.Mathlib.Nat.{zero-add, add-zero, suc-add, add-suc, zero-mul, suc-mul, add_comm}
use mathlib.Core.List.{List, ◌∷◌, ◌++◌}
use lib.ListN.{length, replicate}
use Rattle.lists.specs.Lists.{up_from}
use Rattle.rules.specs.Limits.{X, trit_x}
use Rattle.rules.specs.Logic.{Const}
use Rattle.rules.specs.Cell.{WritePort}
use Rattle.rules.specs.Log.{◌>>=◌, done, add_void_of}
use Rattle.rules.specs.Geometry.{Layout, row_len_of, all_mems, columns}
use Rattle.rules.specs.Swizzle.{Split, sources, arrange, repeating, blank, swizzle_write, const_columns, add_voids}
use Rattle.swizzle_laws.specs.Order.{ordered}
use Rattle.swizzle_laws.specs.Stores.{starts_of, spill_each}
use Rattle.swizzle_laws.proofs.Stores.{blank-whole, order_blank, order_each, each_whole, masks_whole}
use Rattle.rules.proofs.Entries.{value_void, next_void}

module _ (q : Layout) (s : Split) where
  -- all columns
  abbrev size : ℕ
  size = 2 ^ s.new * (all_mems q * q.unit)

  pub columns_size : size ≡ 2 ^ s.new * columns q
  unfolding columns
  columns_size = refl

  -- ---- a write port's data and mask
  pub bits_whole : (p : WritePort) (n : ℕ) → length (swizzle_write q s p n).value.port.bits ≡ 2 ^ s.new * columns q
  unfolding swizzle_write ◌>>=◌ done
  bits_whole p n = each_whole q s (up_from 0 s.pieces) (arrange X (sources q s) p.bits) (blank q s X) (blank-whole q s X) ∙ columns_size

  pub mask_whole : (p : WritePort) (n : ℕ) → length (swizzle_write q s p n).value.port.mask ≡ 2 ^ s.new * columns q
  unfolding swizzle_write ◌>>=◌ done
  mask_whole p n = masks_whole q s (repeating X (sources q s) p.mask) (up_from 0 s.pieces) (blank q s 0) (blank-whole q s 0) n ∙ columns_size

  -- ---- a read port's trits
  pub const_whole : (t : Const) → length (const_columns q s t) ≡ 2 ^ s.new * columns q
  unfolding const_columns
  const_whole t = each_whole q s (up_from 0 s.pieces) (arrange trit_x (sources q s) t) (blank q s trit_x) (blank-whole q s trit_x) ∙ columns_size

  -- stored piece by piece into blank columns that stand memory after memory
  pub order_const : (t : Const) → ordered q s (const_columns q s t)
      ≡ spill_each (all_mems q) (2 ^ s.new) q.unit (row_len_of q) (starts_of q s) (up_from 0 s.pieces) (arrange trit_x (sources q s) t) (replicate size trit_x)
  unfolding const_columns
  order_const t =
      order_each q s (up_from 0 s.pieces) (arrange trit_x (sources q s) t) (blank q s trit_x) (blank-whole q s trit_x)
      ∙ ap (spill_each (all_mems q) (2 ^ s.new) q.unit (row_len_of q) (starts_of q s) (up_from 0 s.pieces) (arrange trit_x (sources q s) t)) (order_blank q s trit_x)

-- ---- the output nets
pub up_joined : (a n m : ℕ) → up_from a n ++ up_from (a + n) m ≡ up_from a (n + m)
up_joined a zero m = λ i. up_from (add-zero a i) (sym (zero-add m) i)
up_joined a (suc n) m =
    ap (λ (r : List ℕ). a ∷ r) (ap (λ (k : ℕ). up_from (suc a) n ++ up_from k m) (add-suc a n ∙ sym (suc-add a n)) ∙ up_joined (suc a) n m)
    ∙ ap (up_from a) (sym (suc-add n m))

voids_value : (k w n : ℕ) → (add_voids (suc k) w n).value ≡ (add_void_of w n).value ++ (add_voids k w (add_void_of w n).next).value
unfolding add_voids ◌>>=◌ done
voids_value k w n = refl

-- so many voids are one run of nets
pub voids_up : (k w n : ℕ) → (add_voids k w n).value ≡ up_from n (k * w)
unfolding add_voids done
voids_up zero w n = ap (up_from n) (sym (zero-mul w))
voids_up (suc k) w n =
    voids_value k w n
    ∙ (λ i. value_void w n i ++ (add_voids k w (next_void w n i)).value)
    ∙ ap (λ (l : List ℕ). up_from n w ++ l) (voids_up k w (n + w))
    ∙ up_joined n w (k * w)
    ∙ ap (up_from n) (add_comm w (k * w) ∙ sym (suc-mul k w))
