-- What a write port leaves is what the rules give: the same entries, and the data and the mask in the order of the memories.
use mathlib.Core.Path.{◌≡◌, refl, sym, ap, ◌∙◌}
use Prim.Native.Nat.{ℕ, zero, suc, ◌+◌, ◌*◌, ◌^◌, ◌<◌}
use native.Mathlib.Omega.{arith}
use mathlib.Core.List.{List}
use lib.ListN.{replicate}
use Rattle.lists.specs.Lists.{up_from}
use Rattle.rules.specs.Limits.{X}
use Rattle.rules.specs.Value.{Value}
use Rattle.rules.specs.Cell.{WritePort}
use Rattle.rules.specs.Log.{Made, Trace, ◌>>=◌, done}
use Rattle.rules.specs.Geometry.{Layout, row_len_of, all_mems, columns}
use Rattle.rules.specs.Swizzle.{Split, piece_start, sources, arrange, repeating, blank, mask_pieces, store_each, swizzle_write}
use Rattle.log_entries.specs.Emission.{Lent, emit, run}
use Rattle.log_entries.proofs.Emission.{run_same}
use Rattle.swizzle_laws.specs.Order.{ordered}
use Rattle.swizzle_laws.specs.Stores.{starts_of, spill_at, spill_each, piece_by, spill_masks}
use Rattle.swizzle_laws.proofs.Stores.{blank-whole, order_blank, order_each, order_masks, in_order}
use Rattle.swizzle_columns.specs.Rows.{start_of, starts_by, all_sources}
use Rattle.swizzle_columns.proofs.Rules.{sources_are, each_starts, starts_are}

masks_starts : (M R U L : ℕ) (f g : ℕ → List ℕ) (mux mask : Value) (a n : ℕ) (l : List ℕ) → ((x : ℕ) → x < a + n → f x ≡ g x)
    → spill_masks M R U L f mux mask (up_from a n) l ≡ spill_masks M R U L g mux mask (up_from a n) l
unfolding spill_masks
masks_starts M R U L f g mux mask a zero l e = refl
masks_starts M R U L f g mux mask a (suc n) l e =
    let h : f a ≡ g a = e a (omega arith) in
    let r : (l' : List ℕ) → spill_masks M R U L f mux mask (up_from (suc a) n) l' ≡ spill_masks M R U L g mux mask (up_from (suc a) n) l' =
    λ l'. masks_starts M R U L f g mux mask (suc a) n l' (λ x k. e x (omega arith)) in
    (λ i. piece_by mux mask a >>= λ k. r (spill_at M R U L (f a) k l) i)
    ∙ (λ i. piece_by mux mask a >>= λ k. spill_masks M R U L g mux mask (up_from (suc a) n) (spill_at M R U L (h i) k l))

module _ (q : Layout) (s : Split) (chunks : ℕ) (k : (x j : ℕ) → x < s.pieces → j < 2 ^ s.old → start_of chunks (columns q) (row_len_of q) (j + 2 ^ s.old * x) ≡ piece_start q s x j) where
  module _ (p : WritePort) where
    abbrev M : ℕ
    M = all_mems q

    abbrev R : ℕ
    R = 2 ^ s.new

    abbrev U : ℕ
    U = q.unit

    abbrev L : ℕ
    L = row_len_of q

    abbrev mask : Value
    mask = repeating X (sources q s) p.mask

    abbrev bits : Value
    bits = arrange X (sources q s) p.bits

    -- what the code leaves
    abbrev pub code_masks : Trace (List ℕ)
    code_masks = spill_masks M R U L (starts_by chunks (columns q) L (2 ^ s.old)) s.mux_addr (repeating X (all_sources (2 ^ s.old) q.width q.entries) p.mask) (up_from 0 s.pieces) (replicate (R * (M * U)) 0)

    abbrev pub code_bits : List ℕ
    code_bits = spill_each M R U L (starts_by chunks (columns q) L (2 ^ s.old)) (up_from 0 s.pieces) (arrange X (all_sources (2 ^ s.old) q.width q.entries) p.bits) (replicate (R * (M * U)) X)

    same_masks : code_masks ≡ spill_masks M R U L (starts_of q s) s.mux_addr mask (up_from 0 s.pieces) (ordered q s (blank q s 0))
    same_masks =
        masks_starts M R U L _ (starts_of q s) s.mux_addr (repeating X (all_sources (2 ^ s.old) q.width q.entries) p.mask) 0 s.pieces _ (λ x h. starts_are q s chunks k x (omega arith))
        ∙ (λ i. spill_masks M R U L (starts_of q s) s.mux_addr (repeating X (sources_are q s i) p.mask) (up_from 0 s.pieces) (sym (order_blank q s 0) i))

    same_bits : code_bits ≡ spill_each M R U L (starts_of q s) (up_from 0 s.pieces) bits (ordered q s (blank q s X))
    same_bits =
        each_starts M R U L _ (starts_of q s) (arrange X (all_sources (2 ^ s.old) q.width q.entries) p.bits) 0 s.pieces _ (λ x h. starts_are q s chunks k x (omega arith))
        ∙ (λ i. spill_each M R U L (starts_of q s) (up_from 0 s.pieces) (arrange X (sources_are q s i) p.bits) (sym (order_blank q s X) i))

    abbrev pieces : Trace Value
    pieces = mask_pieces q s mask (up_from 0 s.pieces) (blank q s 0)

    masks_at : (n : ℕ) → code_masks n ≡ in_order q s (pieces n)
    masks_at n = ap (λ (t : Trace (List ℕ)). t n) same_masks ∙ order_masks q s mask (up_from 0 s.pieces) (blank q s 0) (blank-whole q s 0) n

    run_pieces : (l : Lent) → run code_masks l ≡ run pieces l
    unfolding run
    run_pieces l = ap (λ (m : Made (List ℕ)). emit l m.entries) (masks_at l.state.next)

    run_write : (l : Lent) → run pieces l ≡ run (swizzle_write q s p) l
    unfolding swizzle_write
    run_write l = sym (run_same pieces _ l)

    -- the same entries
    pub port_run : (l : Lent) → run code_masks l ≡ run (swizzle_write q s p) l
    port_run l = run_pieces l ∙ run_write l

    write_mask_lem : (n : ℕ) → (swizzle_write q s p n).value.port.mask ≡ (pieces n).value
    unfolding swizzle_write ◌>>=◌ done
    write_mask_lem n = refl

    write_bits : (n : ℕ) → (swizzle_write q s p n).value.port.bits ≡ store_each q s (up_from 0 s.pieces) bits (blank q s X)
    unfolding swizzle_write ◌>>=◌ done
    write_bits n = refl

    -- the mask and the data, in the order of the memories
    pub port_mask : (n : ℕ) → (code_masks n).value ≡ ordered q s (swizzle_write q s p n).value.port.mask
    port_mask n = ap (λ (m : Made (List ℕ)). m.value) (masks_at n) ∙ ap (ordered q s) (sym (write_mask_lem n))

    pub port_bits_lem : (n : ℕ) → code_bits ≡ ordered q s (swizzle_write q s p n).value.port.bits
    port_bits_lem n = same_bits ∙ sym (order_each q s (up_from 0 s.pieces) bits (blank q s X) (blank-whole q s X)) ∙ ap (ordered q s) (sym (write_bits n))
