-- A port with the numbers of a split is the write port of the rules: the same entries, and its data and mask in the order of the memories.
use mathlib.Core.Path.{◌≡◌, refl, sym, ap, ◌∙◌}
use Prim.Native.Nat.{ℕ, ◌*◌, ◌^◌, ◌≤◌}
use mathlib.Core.List.{List}
use lib.ListN.{length}
use Rattle.rules.specs.Limits.{X}
use Rattle.rules.specs.Value.{Value}
use Rattle.rules.specs.Cell.{WritePort}
use Rattle.rules.specs.Log.{Trace}
use Rattle.rules.specs.Geometry.{Layout}
use Rattle.rules.specs.Swizzle.{Split, split_addr, swizzle_write}
use Rattle.log_entries.specs.Emission.{Lent, run}
use Rattle.swizzle_laws.specs.Order.{ordered}
use Rattle.swizzle_laws.proofs.Loading.{row_length}
use Rattle.swizzle_laws.proofs.Places.{Splittable}
use Rattle.swizzle_columns.specs.declared.WidePort.{WidePort}
use Rattle.swizzle_columns.specs.Wide.{PortFits, grid_of, port_bits, bits_of}
use Rattle.swizzle_columns.proofs.Fits.{grid_good, fits_tested, columns_can}
use Rattle.swizzle_columns.proofs.Meaning.{Means, old_is, new_is, columns_are, starts_are}
use Rattle.swizzle_write.specs.Matches.{Matches}
use Rattle.swizzle_laws.specs.Rooms.{mux_room}
use Rattle.swizzle_write.specs.Wide.{port_masks, masks_of}
use Rattle.swizzle_write.proofs.Fits.{can_tested, masks_can}
use Rattle.swizzle_write.proofs.Matched.{matched_run, matched_mask, matched_bits}

module _ (q : Layout) (old new : ℕ) (addr : Value) (ok : Splittable q old new addr) (p : WidePort) (m : Means q old new addr ok p) where
  abbrev s : Split
  s = split_addr q old new addr

  module _ (w : WritePort) where
    matches : Matches (grid_of p (length q.entries)) (p.mems * p.unit) p.pieces p.olds p.chunks s.mux_addr p.width q.entries w.bits w.mask q s w
    matches = record {
      mems_are = m.mems_are;
      rows_are = m.rows_are ∙ ap (λ (k : ℕ). 2 ^ k) (sym (new_is q old new addr ok p m));
      unit_is = m.unit_is;
      len_is = sym (row_length q);
      columns_are = columns_are q old new addr ok p m;
      pieces_are = m.pieces_are;
      olds_are = m.olds_are ∙ ap (λ (k : ℕ). 2 ^ k) (sym (old_is q old new addr ok p m));
      width_is = m.width_is;
      entries_are = refl;
      mux_is = refl;
      bits_are = refl;
      mask_is = refl;
      starts_are = starts_are q old new addr ok p m;
    }

    module _ (size : ℕ) (f : PortFits p (length q.entries) size) where
      masks_run : (l : Lent) → run (port_masks p s.mux_addr q.entries w.mask size) l ≡ run (swizzle_write q s w) l
      unfolding port_masks
      masks_run l = matched_run _ _ _ _ _ _ _ _ _ _ q s w matches size (grid_good p (length q.entries) size f) l

      masks_value : (n : ℕ) → (port_masks p s.mux_addr q.entries w.mask size n).value ≡ ordered q s (swizzle_write q s w n).value.port.mask
      unfolding port_masks
      masks_value n = matched_mask _ _ _ _ _ _ _ _ _ _ q s w matches size (grid_good p (length q.entries) size f) n

      bits_value : (n : ℕ) → port_bits p q.entries w.bits size ≡ ordered q s (swizzle_write q s w n).value.port.bits
      bits_value n = matched_bits _ _ _ _ _ _ _ _ _ _ q s w matches size (grid_good p (length q.entries) size f) n

    -- the write port, where its rooms are as large as its columns and the mux address is not too long
    module _ (room : List ℕ) (f : PortFits p (length q.entries) (length room)) where
      module _ (short : length s.mux_addr ≤ mux_room) where
        masks_are : masks_of p s.mux_addr q.entries w.mask room ≡ port_masks p s.mux_addr q.entries w.mask (length room)
        masks_are = masks_can p s.mux_addr q.entries w.mask room (can_tested p (length q.entries) (length s.mux_addr) (length room) (record { port = f; few = short }))

        pub write_run : (l : Lent) → run (masks_of p s.mux_addr q.entries w.mask room) l ≡ run (swizzle_write q s w) l
        write_run l = ap (λ (t : Trace (List ℕ)). run t l) masks_are ∙ masks_run (length room) f l

        pub write_mask_lem : (n : ℕ) → (masks_of p s.mux_addr q.entries w.mask room n).value ≡ ordered q s (swizzle_write q s w n).value.port.mask
        write_mask_lem n = ap (λ (t : Trace (List ℕ)). (t n).value) masks_are ∙ masks_value (length room) f n

      pub write_bits : (n : ℕ) → bits_of p q.entries w.bits room ≡ ordered q s (swizzle_write q s w n).value.port.bits
      write_bits n =
          let t = fits_tested p (length q.entries) (length room) f in
          columns_can X p q.entries w.bits room t.0 t.1 ∙ bits_value (length room) f n
