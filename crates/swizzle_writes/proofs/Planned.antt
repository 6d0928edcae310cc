-- A write port of a plan whose number is 0: what the machine leaves is what the rules give.
use mathlib.Core.Path.{◌≡◌, refl, sym, ap, ◌∙◌, subst}
use Prim.Native.Nat.{ℕ, ◌+◌, ◌-◌, ◌*◌, ◌^◌, ◌<◌, ◌≤◌, min}
use native.Mathlib.Nat.{mul_left_comm, mul-pos}
use native.Mathlib.Omega.{arith}
use Rattle.std.proofs.lemmas.Nat.{pow_pos}
use mathlib.Core.Bool.{true}
use mathlib.Core.List.{List, ◌++◌, append_assoc}
use lib.ListN.{length, drop, length-append, length-take, length-drop}
use lib.Seq.{sets, length-sets}
use borrow.Author.Tests.{le-leb}
use Rattle.lists.specs.Lists.{part}
use Rattle.lists.proofs.Store.{sets_append, sets_at}
use Rattle.rules.specs.Limits.{addr_bits, max_wide, max_columns}
use Rattle.rules.specs.Numbers.{softs}
use Rattle.rules.specs.Value.{Value}
use Rattle.rules.specs.Cell.{WritePort}
use Rattle.rules.specs.Log.{Trace, ◌>>=◌, done}
use Rattle.rules.specs.Geometry.{Layout, row_len_of, all_mems, all_chunks, soft, columns}
use Rattle.rules.specs.Swizzle.{Split, split_addr, split_by, swizzle_write}
use Rattle.rules.proofs.Traces.{bind_value}
use Rattle.rules.proofs.Done.{done_value}
use Rattle.log_entries.specs.Emission.{Lent, run}
use Rattle.log_entries.proofs.Emission.{run_same}
use Rattle.swizzle_laws.specs.Order.{ordered}
use Rattle.swizzle_laws.proofs.Places.{Splittable}
use Rattle.swizzle_laws.proofs.Parts.{length_ordered}
use Rattle.swizzle_laws.proofs.Whole.{bits_whole}
use Rattle.swizzle_split.specs.Steps.{can_split, Fits}
use Rattle.swizzle_split.proofs.Limits.{can_fits}
use Rattle.swizzle_split.proofs.Rows.{rows_most, rows_are}
use Rattle.swizzle_columns.specs.declared.WidePort.{WidePort}
use Rattle.swizzle_columns.specs.Wide.{PortFits, bits_of}
use Rattle.swizzle_columns.proofs.Fits.{bounded}
use Rattle.swizzle_columns.proofs.Meaning.{Means}
use Rattle.swizzle_write.specs.Wide.{masks_of}
use Rattle.swizzle_write.proofs.Meaning.{write_run, write_mask_lem, write_bits}
use Rattle.swizzle_writes.specs.Placed.{wide_by_of, size_of, nets_of, Placed, roomy, placed, placed_if}
use Rattle.swizzle_writes.specs.Planned.{LayoutPlanned, PortPlanned}
use Rattle.swizzle_split.proofs.Lengths.{addr_low, mux_low}
use Rattle.swizzle_writes.proofs.Steps.{roomy_fits}

pub columns_are : (q : Layout) → columns q ≡ all_mems q * q.unit
unfolding columns
columns_are q = refl

row_len : (q : Layout) → row_len_of q ≡ length q.entries
unfolding row_len_of
row_len q = refl

pub new_is : (q : Layout) (old new : ℕ) (addr : Value) → (split_addr q old new addr).new ≡ new
unfolding split_addr split_by
new_is q old new addr = refl

-- three runs of stores, one after the other
three : (room hw b k : List ℕ) (at size : ℕ) → length b ≡ size → sets (sets (sets room at hw) (at + length hw) b) (at + length hw + size) k ≡ sets room at (hw ++ (b ++ k))
three room hw b k at size e =
    let h : at + length hw + size ≡ at + length (hw ++ b) = omega (arith, length-append hw b) in
    ap (λ (r : List ℕ). sets r (at + length hw + size) k) (sets_append hw b room at) ∙ sets_at room at (at + length hw + size) (hw ++ b) k h ∙ ap (sets room at) (append_assoc hw b k)

part_size : (a n : ℕ) (l : List ℕ) → a + n ≤ length l → length (part a n l) ≡ n
part_size a n l h = omega (arith, length-take n (drop a l), length-drop a l)

module _ (q : Layout) (old new : ℕ) (w : WritePort) (lp : LayoutPlanned q) (pp : PortPlanned q old new w.addr) where
  abbrev s : Split
  s = split_addr q old new w.addr

  abbrev p : WidePort
  p = wide_by_of q (all_mems q) old new w.addr

  abbrev size : ℕ
  size = size_of p

  pub can_split_lem : can_split q old new (length w.addr) ≡ true
  unfolding can_split
  can_split_lem =
      rw (
        le-leb old max_wide pp.old_max,
        le-leb new max_wide pp.new_max,
        le-leb new q.hard pp.new_hard,
        le-leb q.hard addr_bits lp.hard_max,
        le-leb (old - softs old q.soft_mask) new pp.enough,
        le-leb (old + length w.addr) addr_bits pp.short,
        le-leb (all_chunks q * 2 ^ soft q) max_columns lp.chunks_max,
      )

  fits : Fits q old new (length w.addr)
  fits = can_fits q old new (length w.addr) can_split_lem

  ok : Splittable q old new w.addr
  ok = record { enough = pp.enough; short = pp.short; unit = lp.unit_pos }

  few : 2 ^ old * s.pieces ≤ 2 ^ addr_bits
  few = omega (arith, bounded (2 ^ old) s.pieces 16 16777216 (omega (arith, rows_are old pp.old_max, rows_most old)) pp.pieces_max)

  means : Means q old new w.addr ok p
  means = record {
    mems_are = refl;
    unit_is = refl;
    rows_are = rows_are new pp.new_max;
    olds_are = rows_are old pp.old_max;
    width_is = refl;
    chunks_are = refl;
    pieces_are = refl;
    few = few;
    fewer = omega (arith, pp.pieces_max);
  }

  some : 0 < size
  some = mul-pos (pow_pos (min new max_wide)) (omega (arith, columns_are q, lp.some))

  pub port_fits_lem : PortFits p (length q.entries) size
  port_fits_lem = record {
    rows_max = rows_most new;
    columns_max = omega (arith, columns_are q, lp.columns_max);
    some = some;
    size_is = refl;
    len_max = omega (arith, row_len q, lp.row_max);
    olds_max = rows_most old;
    width_max = lp.width_max;
    pieces_max = pp.pieces_max;
  }

  -- the nets of the port
  abbrev pub nets_at_of : ℕ → List ℕ
  nets_at_of n = s.addr ++ (ordered q s (swizzle_write q s w n).value.port.bits ++ ordered q s (swizzle_write q s w n).value.port.mask)

  pub bits_size : (n : ℕ) → length (ordered q s (swizzle_write q s w n).value.port.bits) ≡ size
  bits_size n =
      length_ordered q s (swizzle_write q s w n).value.port.bits (bits_whole q s w n)
      ∙ mul_left_comm (all_mems q) (2 ^ s.new) q.unit ∙ ap (λ (k : ℕ). k * (all_mems q * q.unit)) (ap (λ (k : ℕ). 2 ^ k) (new_is q old new w.addr) ∙ sym (rows_are new pp.new_max))

  module _ (at : ℕ) (room : List ℕ) (enough : at + length s.addr + (size + size) ≤ length room) where
    abbrev from : ℕ
    from = at + length s.addr

    abbrev r0 : List ℕ
    r0 = sets room at s.addr

    abbrev r1 : List ℕ
    r1 = sets r0 from (bits_of p q.entries w.bits (part from size r0))

    abbrev whole : List ℕ → Placed
    whole r = record { room = r; next = from + (size + size); addr_len_of = length s.addr }

    has_room : roomy p (length s.addr) at (length room) ≡ true
    has_room = roomy_fits p (length s.addr) at (length room) (omega (arith, addr_low q old new w.addr fits)) port_fits_lem.columns_max enough

    placed_is : placed_if q (all_mems q) old new w.addr w.bits w.mask at room ≡ (nets_of p s.mux_addr q.entries w.bits w.mask from size r0 >>= λ r. done (whole r))
    unfolding placed_if placed
    placed_is = rw (can_split_lem, has_room)

    nets_is : nets_of p s.mux_addr q.entries w.bits w.mask from size r0 ≡ (masks_of p s.mux_addr q.entries w.mask (part (from + size) size r1) >>= λ k. done (sets r1 (from + size) k))
    unfolding nets_of
    nets_is = refl

    len0 : length r0 ≡ length room
    len0 = length-sets room at s.addr

    len1 : length r1 ≡ length room
    len1 = length-sets r0 from (bits_of p q.entries w.bits (part from size r0)) ∙ len0

    fits0 : PortFits p (length q.entries) (length (part from size r0))
    fits0 = subst (λ (k : ℕ). PortFits p (length q.entries) k) (sym (part_size from size r0 (omega (arith, len0)))) port_fits_lem

    fits1 : PortFits p (length q.entries) (length (part (from + size) size r1))
    fits1 = subst (λ (k : ℕ). PortFits p (length q.entries) k) (sym (part_size (from + size) size r1 (omega (arith, len1)))) port_fits_lem

    -- the same entries
    pub planned_run : (l : Lent) → run (placed_if q (all_mems q) old new w.addr w.bits w.mask at room) l ≡ run (swizzle_write q s w) l
    planned_run l =
        ap (λ (t : Trace Placed). run t l) placed_is
        ∙ run_same (nets_of p s.mux_addr q.entries w.bits w.mask from size r0) whole l
        ∙ ap (λ (t : Trace (List ℕ)). run t l) nets_is
        ∙ run_same (masks_of p s.mux_addr q.entries w.mask (part (from + size) size r1)) (λ k. sets r1 (from + size) k) l
        ∙ write_run q old new w.addr ok p means w (part (from + size) size r1) fits1 (omega (arith, mux_low q old new w.addr fits)) l

    stored : (n : ℕ) → sets r1 (from + size) (masks_of p s.mux_addr q.entries w.mask (part (from + size) size r1) n).value ≡ sets room at (nets_at_of n)
    stored n =
        let b = write_bits q old new w.addr ok p means w (part from size r0) fits0 n in
        let k = write_mask_lem q old new w.addr ok p means w (part (from + size) size r1) fits1 (omega (arith, mux_low q old new w.addr fits)) n in
        ap (λ (x : List ℕ). sets r1 (from + size) x) k
        ∙ ap (λ (x : List ℕ). sets (sets r0 from x) (from + size) (ordered q s (swizzle_write q s w n).value.port.mask)) b
        ∙ three room s.addr (ordered q s (swizzle_write q s w n).value.port.bits) (ordered q s (swizzle_write q s w n).value.port.mask) at size (bits_size n)

    -- and the port's nets: its address, its data and its mask
    pub planned_value : (n : ℕ) → (placed_if q (all_mems q) old new w.addr w.bits w.mask at room n).value ≡ whole (sets room at (nets_at_of n))
    planned_value n =
        let t = nets_of p s.mux_addr q.entries w.bits w.mask from size r0 in
        let u = masks_of p s.mux_addr q.entries w.mask (part (from + size) size r1) in
        ap (λ (x : Trace Placed). (x n).value) placed_is
        ∙ bind_value t (λ r. done (whole r)) n
        ∙ done_value (whole (t n).value) (t n).next
        ∙ ap (λ (x : Trace (List ℕ)). whole (x n).value) nets_is
        ∙ ap whole (bind_value u (λ k. done (sets r1 (from + size) k)) n ∙ done_value (sets r1 (from + size) (u n).value) (u n).next ∙ stored n)
