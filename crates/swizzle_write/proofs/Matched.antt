-- From the numbers and lists that a write port is given to the rules.
use mathlib.Core.Path.{◌≡◌, sym, ap, ◌∙◌}
use Prim.Native.Nat.{ℕ, ◌+◌, ◌*◌, ◌^◌, ◌<◌}
use native.Mathlib.Omega.{arith}
use mathlib.Core.List.{List}
use lib.ListN.{replicate}
use Rattle.lists.specs.Lists.{up_from}
use Rattle.rules.specs.Limits.{X}
use Rattle.rules.specs.Cell.{WritePort}
use Rattle.rules.specs.Log.{Trace}
use Rattle.rules.specs.Geometry as rules
use Rattle.rules.specs.Geometry.{Layout, row_len_of}
use Rattle.rules.specs.Swizzle.{Split, piece_start, arrange, repeating, swizzle_write}
use Rattle.log_entries.specs.Emission.{Lent, run}
use Rattle.swizzle_laws.specs.Order.{ordered}
use Rattle.swizzle_laws.specs.Stores.{spill_each, spill_masks}
use Rattle.swizzle_columns.specs.declared.Grid.{Grid}
use Rattle.swizzle_columns.specs.Steps.{Good}
use Rattle.swizzle_columns.specs.Rows.{start_of, starts_by, all_sources}
use Rattle.swizzle_write.specs.Matches.{Matches}
use Rattle.swizzle_write.proofs.Rules.{code_masks, code_bits, port_run, port_mask, port_bits_lem}

module _ (g : Grid) (columns pieces olds : ℕ) (chunks : ℕ) (mux : List ℕ) (width : ℕ) (entries bits mask : List ℕ) (q : Layout) (s : Split) (p : WritePort)
    (m : Matches g columns pieces olds chunks mux width entries bits mask q s p) (size : ℕ) (o : Good g size) where
  starts_of_lem : (x j : ℕ) → x < s.pieces → j < 2 ^ s.old → start_of chunks (rules.columns q) (row_len_of q) (j + 2 ^ s.old * x) ≡ piece_start q s x j
  starts_of_lem x j h k =
      sym (λ i. start_of chunks (m.columns_are i) (m.len_is i) (j + m.olds_are i * x))
      ∙ m.starts_are x j (omega (arith, m.pieces_are)) (omega (arith, m.olds_are))

  abbrev the_masks : Trace (List ℕ)
  the_masks = spill_masks g.mems g.rows g.unit g.entries (starts_by chunks columns g.entries olds) mux (repeating X (all_sources olds width entries) mask) (up_from 0 pieces) (replicate size 0)

  abbrev the_bits : List ℕ
  the_bits = spill_each g.mems g.rows g.unit g.entries (starts_by chunks columns g.entries olds) (up_from 0 pieces) (arrange X (all_sources olds width entries) bits) (replicate size X)

  masks_are : the_masks ≡ code_masks q s chunks starts_of_lem p
  masks_are =
      ap (λ (n : ℕ). spill_masks g.mems g.rows g.unit g.entries (starts_by chunks columns g.entries olds) mux (repeating X (all_sources olds width entries) mask) (up_from 0 pieces) (replicate n 0)) o.size_is
      ∙ (λ i. spill_masks (m.mems_are i) (m.rows_are i) (m.unit_is i) (m.len_is i) (starts_by chunks (m.columns_are i) (m.len_is i) (m.olds_are i)) (m.mux_is i)
      (repeating X (all_sources (m.olds_are i) (m.width_is i) (m.entries_are i)) (m.mask_is i)) (up_from 0 (m.pieces_are i)) (replicate (m.rows_are i * (m.mems_are i * m.unit_is i)) 0))

  bits_are : the_bits ≡ code_bits q s chunks starts_of_lem p
  bits_are =
      ap (λ (n : ℕ). spill_each g.mems g.rows g.unit g.entries (starts_by chunks columns g.entries olds) (up_from 0 pieces) (arrange X (all_sources olds width entries) bits) (replicate n X)) o.size_is
      ∙ (λ i. spill_each (m.mems_are i) (m.rows_are i) (m.unit_is i) (m.len_is i) (starts_by chunks (m.columns_are i) (m.len_is i) (m.olds_are i)) (up_from 0 (m.pieces_are i))
      (arrange X (all_sources (m.olds_are i) (m.width_is i) (m.entries_are i)) (m.bits_are i)) (replicate (m.rows_are i * (m.mems_are i * m.unit_is i)) X))

  pub matched_run : (l : Lent) → run the_masks l ≡ run (swizzle_write q s p) l
  matched_run l = ap (λ (t : Trace (List ℕ)). run t l) masks_are ∙ port_run q s chunks starts_of_lem p l

  pub matched_mask : (n : ℕ) → (the_masks n).value ≡ ordered q s (swizzle_write q s p n).value.port.mask
  matched_mask n = ap (λ (t : Trace (List ℕ)). (t n).value) masks_are ∙ port_mask q s chunks starts_of_lem p n

  pub matched_bits : (n : ℕ) → the_bits ≡ ordered q s (swizzle_write q s p n).value.port.bits
  matched_bits n = bits_are ∙ port_bits_lem q s chunks starts_of_lem p n
