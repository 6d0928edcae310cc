-- The split of a fallback takes few nets: for a write port no more than rows and bits, for a read port no more than twice the bits.
use mathlib.Core.Path.{◌≡◌, refl, sym, ap, ◌∙◌}
use Prim.Native.Nat.{ℕ, zero, ◌+◌, ◌-◌, ◌*◌, ◌/◌, ◌^◌, ◌≤◌}
use native.Mathlib.Nat.{suc-mul, zero-mul, one-mul, mul-one, mul-add, mul_comm, mul_assoc, mul-le-mul_left, mul-le-mul_right}
use native.Mathlib.Omega.{arith}
use lib.Pow.{pow_pos}
use mathlib.Core.Bool.{Bool, true, false}
use mathlib.Core.List.{List, [], ◌∷◌, map}
use lib.ListN.{length, length-append, length-map}
use lib.Dec.{eqb}
use Rattle.lists.specs.Choice.{when◌then◌else◌}
use Rattle.lists.specs.Lists.{pairs, up_from, concat_map}
use Rattle.lists.proofs.Distinct.{length_kept}
use Rattle.lists.proofs.UpFrom.{length_up}
use Rattle.rules.specs.Limits.{X, addr_bits}
use Rattle.rules.specs.Numbers.{largest}
use Rattle.rules.specs.Value.{Value}
use Rattle.rules.specs.Cell.{WritePort, ReadPort, Mem, write_wide_log2, read_wide_log2}
use Rattle.rules.specs.Ports.{is_empty}
use Rattle.rules.specs.Geometry.{Layout, layout_of, all_chunks, columns}
use Rattle.rules.specs.Swizzle.{Split, split_by, split_addr, old_rows, sources, repeating, piece_nets}
use Rattle.rules.specs.Conditions.{bad_depth}
use Rattle.rules.specs.Fallback.{max_wide_log2, fallback_plan}
use Rattle.rules.specs.Beside.Counts.{plus, nothing, sum_counts, times_count, mux_count_of, eq_count, void_count, replace_count, mask_nets, write_count_of, clocked_count, read_count_of}
use Rattle.port_unmap_all.specs.All.{bare}
use Rattle.swizzle_columns.proofs.Rows.{length_repeating}
use Rattle.swizzle_laws.proofs.ReadsCounts.{reads_count_of}
use Rattle.swizzle_laws.proofs.WritesCounts.{writes_count_of}
use Rattle.fallback_plan.proofs.Numbers.{chunks_all, whole_depth}
use Rattle.fallback_plan.proofs.Pieces.{pieces_fit_lem}

-- ---- the nets of a mask that differ
length_each : (f : ℕ → List ℕ) (c : ℕ) → ((a : ℕ) → length (f a) ≡ c) → (l : List ℕ) → length (concat_map f l) ≡ length l * c
length_each f c h [] = sym (zero-mul c)
length_each f c h (a ∷ l) = omega (arith, length-append (f a) (concat_map f l), h a, length_each f c h l, suc-mul (length l) c)

sources_long : (q : Layout) (s : Split) → length (sources q s) ≡ 2 ^ s.old * length q.entries
unfolding sources old_rows
sources_long q s = length_each _ (length q.entries) (λ j. length-map q.entries _) (up_from 0 (2 ^ s.old)) ∙ ap (λ (n : ℕ). n * length q.entries) (length_up 0 (2 ^ s.old))

mask_most : (q : Layout) (s : Split) (p : WritePort) → mask_nets q s p ≤ 2 ^ s.old * length q.entries
unfolding mask_nets
mask_most q s p = omega (arith, length_kept eqb [] (repeating X (sources q s) p.mask), length_repeating X (sources q s) p.mask, sources_long q s)

-- ---- one port
write_nets_lem : (q : Layout) (s : Split) (p : WritePort) → (write_count_of q s p).nets ≤ s.pieces * (1 + mask_nets q s p)
unfolding write_count_of times_count plus eq_count mux_count_of nothing
write_nets_lem q s p = mul-le-mul_left s.pieces (on (is_empty s.mux_addr))
  where
    on : (b : Bool) → 1 + (when b then nothing else mux_count_of (mask_nets q s p)).nets ≤ 1 + mask_nets q s p
    on true = omega arith
    on false = omega arith

write_low : (n o x w d : ℕ) → x ≤ o * w → n * o ≤ d → 1 ≤ o → n * (1 + x) ≤ d + d * w
write_low n o x w d h g l =
    omega (arith, mul-add n 1 x, mul-one n, mul-le-mul_left n l, mul-le-mul_left n h, mul_assoc n o w, mul-le-mul_right w g)

read_nets_lem : (q : Layout) (s : Split) (r : ReadPort) → (read_count_of q s (bare r)).nets ≡ 2 ^ s.new * columns q + (0 + ((s.pieces - 1) * r.data_len + 0))
unfolding read_count_of plus times_count void_count clocked_count nothing mux_count_of replace_count
read_nets_lem q s r = refl

read_low : (q : Layout) (s : Split) (r : ReadPort) (d : ℕ) → s.new ≡ 0 → columns q ≤ d → s.pieces * r.data_len ≤ d → (read_count_of q s (bare r)).nets ≤ 2 * d
read_low q s r d e h g =
    let a : 2 ^ s.new * columns q ≡ columns q = ap (λ (n : ℕ). 2 ^ n * columns q) e ∙ one-mul (columns q) in
    let b : (s.pieces - 1) * r.data_len ≤ s.pieces * r.data_len = mul-le-mul_right r.data_len (omega arith) in
    omega (arith, read_nets_lem q s r, a, b, h, g)

-- ---- all ports
split_old : (q : Layout) (old new : ℕ) (addr : Value) → (split_addr q old new addr).old ≡ old
unfolding split_addr split_by
split_old q old new addr = refl

split_new : (q : Layout) (old new : ℕ) (addr : Value) → (split_addr q old new addr).new ≡ new
unfolding split_addr split_by
split_new q old new addr = refl

module _ (m : Mem) where
  abbrev q : Layout
  q = layout_of m (fallback_plan m)

  abbrev K : ℕ
  K = max_wide_log2 m

  hard_is : q.hard ≡ 0
  unfolding layout_of fallback_plan
  hard_is = refl

  mask_is : q.soft_mask ≡ 2 ^ K - 1
  unfolding layout_of fallback_plan
  mask_is = refl

  entries_long : length q.entries ≡ m.width
  unfolding layout_of fallback_plan
  entries_long = length_up 0 m.width

  writes_below : largest (map (write_wide_log2 m) m.writes) ≤ K
  unfolding max_wide_log2
  writes_below = omega arith

  module _ (h : K ≤ addr_bits) (e : bad_depth m ≡ false) where
    rows_all : all_chunks q * 2 ^ K ≡ m.depth
    rows_all = ap (λ (n : ℕ). n * 2 ^ K) (chunks_all m h e) ∙ mul_comm (m.depth / 2 ^ K) (2 ^ K) ∙ whole_depth m h e

    write_most : (p : WritePort) → write_wide_log2 m p ≤ K → (write_count_of q (split_addr q (write_wide_log2 m p) 0 p.addr) p).nets ≤ m.depth + m.depth * m.width
    write_most p l =
        let old = write_wide_log2 m p in
        let s = split_addr q old 0 p.addr in
        let x : mask_nets q s p ≤ 2 ^ old * m.width = mask_low s p old (split_old q old 0 p.addr) in
        let g : s.pieces * 2 ^ old ≤ m.depth = omega (arith, pieces_fit_lem q K old p.addr hard_is mask_is l, rows_all) in
        omega (arith, write_nets_lem q s p, write_low s.pieces (2 ^ old) (mask_nets q s p) m.width m.depth x g (pow_pos old))
      where
        mask_low : (s : Split) (p : WritePort) (old : ℕ) → s.old ≡ old → mask_nets q s p ≤ 2 ^ old * m.width
        mask_low s p old f = let a : 2 ^ s.old * length q.entries ≡ 2 ^ old * m.width = λ i. 2 ^ f i * entries_long i in omega (arith, mask_most q s p, a)

    writes_by_lem : (ps : List WritePort) → largest (map (write_wide_log2 m) ps) ≤ K → (writes_count_of m q ps (map (λ (p : WritePort). zero) ps)).nets ≤ length ps * (m.depth + m.depth * m.width)
    unfolding largest sum_counts plus nothing
    writes_by_lem [] l = omega arith
    writes_by_lem (p ∷ ps) l =
        omega (arith, write_most p (omega arith), writes_by_lem ps (omega arith), suc-mul (length ps) (m.depth + m.depth * m.width))

  reads_by : (d : ℕ) → columns q ≤ d → (rs : List ReadPort) → largest (map (piece_nets m (fallback_plan m)) (pairs (map bare rs) (map (λ (r : ReadPort). zero) (map bare rs)))) ≤ d
      → (reads_count_of m q (map bare rs) (map (λ (r : ReadPort). zero) (map bare rs))).nets ≤ length rs * (2 * d)
  unfolding largest sum_counts plus nothing piece_nets
  reads_by d h [] l = omega arith
  reads_by d h (r ∷ rs) l =
      let s = split_addr q (read_wide_log2 m (bare r)) 0 r.addr in
      omega (arith, read_low q s r d (split_new q (read_wide_log2 m (bare r)) 0 r.addr) h (omega arith), reads_by d h rs (omega arith), suc-mul (length rs) (2 * d))

  pub writes_most : K ≤ addr_bits → bad_depth m ≡ false → (writes_count_of m q m.writes (fallback_plan m).write_wide).nets ≤ length m.writes * (m.depth + m.depth * m.width)
  unfolding fallback_plan
  writes_most h e = writes_by_lem h e m.writes writes_below

  wides_are : (fallback_plan m).read_wide_of ≡ map (λ (r : ReadPort). zero) m.reads
  unfolding fallback_plan
  wides_are = refl

  pub reads_most : (d : ℕ) (rs : List ReadPort) → m.reads ≡ map bare rs → columns q ≤ d → largest (map (piece_nets m (fallback_plan m)) (pairs m.reads (fallback_plan m).read_wide_of)) ≤ d
      → (reads_count_of m q m.reads (fallback_plan m).read_wide_of).nets ≤ length rs * (2 * d)
  reads_most d rs f h l =
      let g : (fallback_plan m).read_wide_of ≡ map (λ (r : ReadPort). zero) (map bare rs) = wides_are ∙ ap (map (λ (r : ReadPort). zero)) f in
      let a : largest (map (piece_nets m (fallback_plan m)) (pairs m.reads (fallback_plan m).read_wide_of)) ≡ largest (map (piece_nets m (fallback_plan m)) (pairs (map bare rs) (map (λ (r : ReadPort). zero) (map bare rs)))) =
      λ i. largest (map (piece_nets m (fallback_plan m)) (pairs (f i) (g i))) in
      let b : (reads_count_of m q m.reads (fallback_plan m).read_wide_of).nets ≡ (reads_count_of m q (map bare rs) (map (λ (r : ReadPort). zero) (map bare rs))).nets = λ i. (reads_count_of m q (f i) (g i)).nets in
      omega (arith, reads_by d h rs (omega (arith, a, l)), b)
