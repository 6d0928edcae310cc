-- The words and nets of all rows of a fallback, in closed form.
use mathlib.Core.Path.{◌≡◌, refl, sym, ap, ◌∙◌}
use mathlib.Core.Logic.{◌≢◌}
use Prim.Native.Nat.{ℕ, zero, suc, ◌+◌, ◌-◌, ◌*◌, ◌^◌, ◌<◌, ◌≤◌, min}
use native.Mathlib.Nat.{zero-mul, suc-mul, mul-zero, mul-one, one-mul, mul-add, mul_comm, mul-le-mul, mul-le-mul_left, le_trans, pow-le-pow_right}
use native.Mathlib.Omega.{arith}
use lib.Pow.{pow_pos}
use mathlib.Core.Bool.{false, not, ◌||◌}
use mathlib.Core.List.{List, [], ◌∷◌, map}
use lib.ListN.{length, replicate, length-map}
use lib.Dec.{eqb, ltb}
use borrow.Author.Tests.{ne_eqb, eqb-true, ltb-false, not-false}
use Rattle.lists.specs.Choice.{when◌then◌else◌}
use Rattle.lists.specs.Lists.{any, sum_by, part, up_from}
use Rattle.lists.proofs.Choice.{or_false, if_false}
use Rattle.lists.proofs.UpFrom.{length_up}
use Rattle.rules.specs.Limits.{X, addr_bits, max_width, max_wide, max_depth}
use Rattle.rules.specs.Numbers.{largest}
use Rattle.rules.specs.Value.{Value}
use Rattle.rules.specs.Cell.{WritePort, ReadPort, Mem, wide_log2, write_wide_log2}
use Rattle.rules.specs.Conditions.{bad_depth, bad_data_len, unequal, bad_write_shape}
use Rattle.rules.specs.Log.{◌>>=◌, done}
use Rattle.rules.specs.Merge.{runs}
use Rattle.rules.specs.Geometry.{Layout, layout_of, row_len_of, all_chunks, columns}
use Rattle.rules.specs.Swizzle.{Split, split_by, split_addr, sources, repeating, blank, mem_part, mask_pieces, WideWrite, swizzle_write, swizzle_writes, write_part, swizzle_reads, read_part, result_mem, swizzle}
use Rattle.rules.specs.Fallback.{max_wide_log2, fallback_plan, lower_rows}
use Rattle.rules.proofs.Counted.{Counted}
use Rattle.swizzle_laws.proofs.Pairs.{counted_as}
use Rattle.fallback_plan.proofs.Numbers.{columns_are, chunks_all, whole_depth}
use Rattle.fallback_plan.proofs.Pieces.{pieces_are, pieces_fit_lem}
use Rattle.fallback_counts.specs.Counts.{mux_words, row_words_of, row_nets, drive_words, lower_words, lower_nets}
use Rattle.fallback_counts.proofs.Rows.{rows_counted}
use Rattle.fallback_masks.specs.Sizes.{max_mask_nets, port_pieces, port_runs, register_words, register_nets, rows_words_of, rows_nets}
use Rattle.fallback_masks.proofs.Alike.{row_runs}
use Rattle.fallback_masks.proofs.Masks.{mask_rows}
use Rattle.fallback_masks.proofs.Stores.{repeats, runs-all}
use Rattle.fallback_masks.proofs.Sums.{sum_same, sum_plus, sum_const, sum_five, sum_map, sum_rows}
use Rattle.fallback_masks.proofs.Wide.{part_is, AllWrites}
use Rattle.fallback_masks.proofs.Rows.{ws, rs, row, writes_whole, rows, rows_are, all_wide}

-- ---- the muxes of the rows, from the masks of the wide ports
mux_cons : (q : Layout) (u i : ℕ) (w : WideWrite) (l : List WideWrite) → mux_words u (map (write_part q i) (w ∷ l)) ≡ 5 * length (runs (mem_part q w.split i w.port.mask)) + 2 * u + mux_words u (map (write_part q i) l)
unfolding mux_words write_part
mux_cons q u i w l = refl

mux_nil : (u : ℕ) → mux_words u [] ≡ 0
unfolding mux_words
mux_nil u = refl

module _ (q : Layout) (D : ℕ) where
  abbrev u : ℕ
  u = q.unit

  abbrev is : List ℕ
  is = up_from 0 D

  -- one port's part of all rows
  abbrev one : WideWrite → ℕ → ℕ
  one w i = length (runs (mem_part q w.split i w.port.mask))

  one_sum : (w : WideWrite) → w.split.new ≡ 0 → sum_by (one w) is ≡ row_runs u D w.port.mask
  one_sum w e = sum_same (one w) (λ (i : ℕ). length (runs (part (i * u) u w.port.mask))) (λ i. ap (λ (l : List ℕ). length (runs l)) (part_is q w.split e i w.port.mask)) is ∙ sum_rows u D w.port.mask

  abbrev ports_runs_of : List WideWrite → ℕ
  ports_runs_of l = sum_by (λ (w : WideWrite). row_runs u D w.port.mask) l

  mux_sum : (l : List WideWrite) → AllWrites q l → sum_by (λ (i : ℕ). mux_words u (map (write_part q i) l)) is ≡ 5 * ports_runs_of l + D * (length l * (2 * u))
  unfolding AllWrites
  mux_sum [] a =
      sum_same (λ (i : ℕ). mux_words u []) (λ (i : ℕ). 0) (λ i. mux_nil u) is ∙ sum_const 0 is
      ∙ omega (arith, mul-zero (length is), mul-zero D, ap (λ (k : ℕ). D * k) (zero-mul (2 * u)))
  mux_sum (w ∷ l) a =
      let t : ℕ → ℕ = λ (i : ℕ). mux_words u (map (write_part q i) l) in
      sum_same (λ (i : ℕ). mux_words u (map (write_part q i) (w ∷ l))) (λ (i : ℕ). 5 * one w i + 2 * u + t i) (λ i. mux_cons q u i w l) is
      ∙ sum_plus (λ (i : ℕ). 5 * one w i + 2 * u) t is
      ∙ ap (λ (k : ℕ). k + sum_by t is) (sum_plus (λ (i : ℕ). 5 * one w i) (λ (i : ℕ). 2 * u) is)
      ∙ omega (arith, sum_five (one w) is, one_sum w a.0.new, sum_const (2 * u) is, ap (λ (k : ℕ). k * (2 * u)) (length_up 0 D), mux_sum l a.1, shared (length l) (2 * u))
    where
      shared : (n v : ℕ) → D * (suc n * v) ≡ D * (n * v) + D * v
      shared n v = ap (λ (k : ℕ). D * k) (suc-mul n v) ∙ mul-add D (n * v) v

  -- ---- all words of the rows
  some_ports : (n : ℕ) → eqb (suc n) 0 ≡ false
  some_ports n = ne_eqb (suc n) 0 (λ z. omega (arith, z))

  words_cons : (i : ℕ) (w : WideWrite) (l : List WideWrite) → row_words_of u (map (write_part q i) (w ∷ l)) ≡ 21 + 6 * u + mux_words u (map (write_part q i) (w ∷ l))
  unfolding row_words_of
  words_cons i w l = omega arith

  words_nil : row_words_of u [] ≡ 0
  unfolding row_words_of
  words_nil = refl

  register_sum : (l : List WideWrite) → AllWrites q l → sum_by (λ (i : ℕ). row_words_of u (map (write_part q i) l)) is ≡ (when eqb (length l) 0 then 0 else D * (21 + 6 * u + length l * (2 * u)) + 5 * ports_runs_of l)
  register_sum [] a = sum_same (λ (i : ℕ). row_words_of u []) (λ (i : ℕ). 0) (λ i. words_nil) is ∙ sum_const 0 is ∙ mul-zero (length is)
  register_sum (w ∷ l) a =
      let t : ℕ → ℕ = λ (i : ℕ). mux_words u (map (write_part q i) (w ∷ l)) in
      sum_same (λ (i : ℕ). row_words_of u (map (write_part q i) (w ∷ l))) (λ (i : ℕ). 21 + 6 * u + t i) (λ i. words_cons i w l) is
      ∙ sum_plus (λ (i : ℕ). 21 + 6 * u) t is
      ∙ omega (arith, sum_const (21 + 6 * u) is, ap (λ (k : ℕ). k * (21 + 6 * u)) (length_up 0 D), mux_sum (w ∷ l) a, mul-add D (21 + 6 * u) (suc (length l) * (2 * u)))
      ∙ sym (if_false (eqb (suc (length l)) 0) 0 (D * (21 + 6 * u + suc (length l) * (2 * u)) + 5 * ports_runs_of (w ∷ l)) (some_ports (length l)))

  nets_cons : (i : ℕ) (w : WideWrite) (l : List WideWrite) → row_nets u (map (write_part q i) (w ∷ l)) ≡ (2 + suc (length l)) * u
  unfolding row_nets
  nets_cons i w l =
      let e : suc (length (map (write_part q i) l)) ≡ suc (length l) = ap suc (length-map l (write_part q i)) in
      ap (λ (k : ℕ). u + (k * u + u)) e ∙ omega (arith, suc-mul (suc (suc (length l))) u, suc-mul (suc (length l)) u, ap (λ (k : ℕ). k * u) (three (length l)))
    where
      three : (n : ℕ) → 2 + suc n ≡ suc (suc (suc n))
      three n = omega arith

  nets_nil : row_nets u [] ≡ 0
  unfolding row_nets
  nets_nil = refl

  nets_sum : (l : List WideWrite) → sum_by (λ (i : ℕ). row_nets u (map (write_part q i) l)) is ≡ (when eqb (length l) 0 then 0 else D * ((2 + length l) * u))
  nets_sum [] = sum_same (λ (i : ℕ). row_nets u []) (λ (i : ℕ). 0) (λ i. nets_nil) is ∙ sum_const 0 is ∙ mul-zero (length is)
  nets_sum (w ∷ l) =
      sum_same (λ (i : ℕ). row_nets u (map (write_part q i) (w ∷ l))) (λ (i : ℕ). (2 + suc (length l)) * u) (λ i. nets_cons i w l) is
      ∙ sum_const ((2 + suc (length l)) * u) is ∙ ap (λ (k : ℕ). k * ((2 + suc (length l)) * u)) (length_up 0 D)
      ∙ sym (if_false (eqb (suc (length l)) 0) 0 (D * ((2 + suc (length l)) * u)) (some_ports (length l)))

-- ---- how many wide ports
module _ (b : Mem) (q : Layout) where
  pub writes_count : (ps : List WritePort) (n : ℕ) → length (swizzle_writes b q ps (map (λ (p : WritePort). zero) ps) n).value ≡ length ps
  unfolding swizzle_writes ◌>>=◌ done
  writes_count [] n = refl
  writes_count (p ∷ ps) n = ap suc (writes_count ps _)

  pub reads_count : (ps : List ReadPort) (outs : Value) (n : ℕ) → length (swizzle_reads b q ps (map (λ (p : ReadPort). zero) ps) outs n).value ≡ length ps
  unfolding swizzle_reads ◌>>=◌ done
  reads_count [] outs n = refl
  reads_count (p ∷ ps) outs n = ap suc (reads_count ps _ _)

-- ---- the port's shape
shape_of : (b : Mem) (p : WritePort) → bad_write_shape b p ≡ false → (length p.mask ≡ 2 ^ write_wide_log2 b p * b.width) × (write_wide_log2 b p ≤ max_wide)
unfolding bad_write_shape bad_data_len unequal write_wide_log2
shape_of b p e =
    let k = wide_log2 b.width (length p.bits) in
    let x = or_false (not (eqb (length p.bits) (b.width * 2 ^ k)) || ltb max_wide k) _ e in
    let y = or_false (not (eqb (length p.bits) (b.width * 2 ^ k))) _ x.0 in
    let z = or_false (not (eqb (length p.mask) (length p.bits))) _ x.1 in
    (eqb-true _ _ (not-false _ z.0) ∙ eqb-true _ _ (not-false _ y.0) ∙ mul_comm b.width (2 ^ k), ltb-false max_wide k y.1)

-- ---- a memory that is split by the plan of a fallback
module _ (b : Mem) (h : max_wide_log2 b ≤ addr_bits) (e : bad_depth b ≡ false) (w : b.width ≢ 0) (thin : b.width ≤ max_width) (shallow : b.depth ≤ max_depth) where
  abbrev q : Layout
  q = layout_of b (fallback_plan b)

  abbrev K : ℕ
  K = max_wide_log2 b

  abbrev D : ℕ
  D = b.depth

  hard_is : q.hard ≡ 0
  unfolding layout_of fallback_plan
  hard_is = refl

  soft_is : q.soft_mask ≡ 2 ^ K - 1
  unfolding layout_of fallback_plan
  soft_is = refl

  entries_are : q.entries ≡ up_from 0 b.width
  unfolding layout_of fallback_plan
  entries_are = refl

  row_long : row_len_of q ≡ b.width
  unfolding row_len_of layout_of fallback_plan
  row_long = length_up 0 b.width

  width_is : q.width ≡ b.width
  unfolding layout_of
  width_is = refl

  unit_is : q.unit ≡ b.width
  unfolding layout_of fallback_plan
  unit_is = refl

  wide : 0 < b.width
  wide = omega (arith, w)

  all_rows : all_chunks q * 2 ^ K ≡ D
  all_rows = mul_comm (all_chunks q) (2 ^ K) ∙ ap (λ (n : ℕ). 2 ^ K * n) (chunks_all b h e) ∙ whole_depth b h e

  -- ---- one port
  module _ (p : WritePort) (low : write_wide_log2 b p ≤ K) (good : bad_write_shape b p ≡ false) where
    abbrev k : ℕ
    k = write_wide_log2 b p

    abbrev s : Split
    s = split_addr q k 0 p.addr

    pieces_is : s.pieces ≡ port_pieces b p
    unfolding port_pieces
    pieces_is = pieces_are q K k p.addr hard_is soft_is low ∙ ap (λ (n : ℕ). n * 2 ^ min (length p.addr) (K - k)) (chunks_all b h e)

    fit : s.pieces * 2 ^ k ≤ D
    fit = omega (arith, pieces_fit_lem q K k p.addr hard_is soft_is low, all_rows)

    few : s.pieces ≤ 2 ^ addr_bits
    few = le_trans (omega (arith, mul-le-mul_left {m = 1} {n = 2 ^ k} s.pieces (pow_pos k), mul-one s.pieces, fit, shallow)) (pow-le-pow_right {n = 2} (omega arith) {i = 15} {j = addr_bits} (omega arith))

    mask_long : length p.mask ≡ 2 ^ k * b.width
    mask_long = (shape_of b p good).0

    mask_short : 2 ^ k * b.width ≤ max_mask_nets
    mask_short = mul-le-mul {n₁ = 2 ^ k} {m₁ = b.width} {n₂ = 16} {m₂ = 128} (pow-le-pow_right {n = 2} (omega arith) {i = k} {j = 4} (shape_of b p good).1) thin

    new_is : s.new ≡ 0
    unfolding split_addr split_by
    new_is = refl

    blank_is : blank q s 0 ≡ replicate (D * b.width) 0
    unfolding blank
    blank_is = ap (λ (n : ℕ). replicate (2 ^ n * columns q) 0) new_is ∙ ap (λ (n : ℕ). replicate n 0) (one-mul (columns q) ∙ columns_are b h e w)

    mask_is : (n : ℕ) → (swizzle_write q s p n).value.port.mask ≡ (mask_pieces q s (repeating X (sources q s) p.mask) (up_from 0 s.pieces) (blank q s 0) n).value
    unfolding swizzle_write ◌>>=◌ done
    mask_is n = refl

    repeated : repeating X (sources q s) p.mask ≡ p.mask
    repeated = repeats q K k b.width p.addr hard_is soft_is low entries_are row_long width_is (omega (arith, mask_short)) few p.mask mask_long

    runs_by : port_runs b p ≡ s.pieces * row_runs b.width (2 ^ k) p.mask + (D - s.pieces * 2 ^ k)
    unfolding port_runs
    runs_by = λ i. sym pieces_is i * mask_rows b.width (2 ^ k) p.mask mask_long (omega (arith, mask_long, mask_short)) wide i + (D - sym pieces_is i * 2 ^ k)

    pub port_runs_lem : (n : ℕ) → row_runs q.unit D (swizzle_write q s p n).value.port.mask ≡ port_runs b p
    port_runs_lem n =
        (λ i. row_runs (unit_is i) D (mask_is n i))
        ∙ (λ i. row_runs b.width D (mask_pieces q s (repeated i) (up_from 0 s.pieces) (blank_is i) n).value)
        ∙ runs-all q K k b.width p.addr hard_is soft_is low entries_are row_long width_is (omega (arith, mask_short)) few p.mask mask_long wide D n fit
        ∙ sym runs_by

  -- ---- all ports
  ports_runs : (ps : List WritePort) (n : ℕ) → largest (map (write_wide_log2 b) ps) ≤ K → any (bad_write_shape b) ps ≡ false
      → sum_by (λ (x : WideWrite). row_runs q.unit D x.port.mask) (swizzle_writes b q ps (map (λ (p : WritePort). zero) ps) n).value ≡ sum_by (port_runs b) ps
  unfolding swizzle_writes ◌>>=◌ done largest
  ports_runs [] n l a = refl
  ports_runs (p ∷ ps) n l a =
      let o = or_false (bad_write_shape b p) _ a in
      λ i. port_runs_lem p (omega (arith, l)) o.0 n i + ports_runs ps (swizzle_write q (split_addr q (write_wide_log2 b p) 0 p.addr) p n).next (omega (arith, l)) o.1 i

  writes_low : largest (map (write_wide_log2 b) b.writes) ≤ K
  unfolding max_wide_log2
  writes_low = omega arith

  writes_none : (fallback_plan b).write_wide ≡ map (λ (p : WritePort). zero) b.writes
  unfolding fallback_plan
  writes_none = refl

  reads_none : (fallback_plan b).read_wide_of ≡ map (λ (p : ReadPort). zero) b.reads
  unfolding fallback_plan
  reads_none = refl

  all_runs : any (bad_write_shape b) b.writes ≡ false → (n : ℕ) → sum_by (λ (x : WideWrite). row_runs q.unit D x.port.mask) (ws b n) ≡ sum_by (port_runs b) b.writes
  all_runs a n =
      ap (λ (l : List ℕ). sum_by (λ (x : WideWrite). row_runs q.unit D x.port.mask) (swizzle_writes b q b.writes l n).value) writes_none ∙ ports_runs b.writes n writes_low a

  ws_long : (n : ℕ) → length (ws b n) ≡ length b.writes
  ws_long n = ap (λ (l : List ℕ). length (swizzle_writes b q b.writes l n).value) writes_none ∙ writes_count b q b.writes n

  rs_long : (outs : Value) (n : ℕ) → length (rs b outs n) ≡ length b.reads
  rs_long outs n = ap (λ (l : List ℕ). length (swizzle_reads b q b.reads l outs (swizzle_writes b q b.writes (fallback_plan b).write_wide n).next).value) reads_none ∙ reads_count b q b.reads outs _

  -- ---- the rows
  module _ (outs : Value) (n : ℕ) (a : any (bad_write_shape b) b.writes ≡ false) where
    abbrev is_all : List ℕ
    is_all = up_from 0 D

    abbrev reading : ℕ
    reading = length b.reads * (4 + 2 * b.width)

    row_words : (i : ℕ) → row_words_of (row b outs n i).memory.width (row b outs n i).memory.writes + drive_words (row b outs n i).memory.width (length (row b outs n i).memory.reads)
        ≡ row_words_of q.unit (map (write_part q i) (ws b n)) + reading
    unfolding result_mem drive_words
    row_words i =
        ap (λ (k : ℕ). row_words_of q.unit (map (write_part q i) (ws b n)) + k)
        (λ j. (length-map (rs b outs n) (read_part q i) ∙ rs_long outs n) j * (4 + 2 * unit_is j))

    abbrev register : ℕ
    register = (when eqb (length (ws b n)) 0 then 0 else D * (21 + 6 * q.unit + length (ws b n) * (2 * q.unit)) + 5 * sum_by (λ (x : WideWrite). row_runs q.unit D x.port.mask) (ws b n))

    register_is : register ≡ register_words b
    unfolding register_words
    register_is = λ j. when eqb (ws_long n j) 0 then 0 else D * (21 + 6 * unit_is j + ws_long n j * (2 * unit_is j)) + 5 * all_runs a n j

    words_sum : lower_words (rows b h e w outs n) ≡ D * reading + register_words b
    unfolding lower_words
    words_sum =
        sum_map _ (row b outs n) is_all
        ∙ sum_same _ (λ (i : ℕ). row_words_of q.unit (map (write_part q i) (ws b n)) + reading) row_words is_all
        ∙ sum_plus (λ (i : ℕ). row_words_of q.unit (map (write_part q i) (ws b n))) (λ (i : ℕ). reading) is_all
        ∙ omega (arith, register_sum q D (ws b n) (writes_whole b n), register_is, sum_const reading is_all, ap (λ (k : ℕ). k * reading) (length_up 0 D))

    row_nets_lem : (i : ℕ) → row_nets (row b outs n i).memory.width (row b outs n i).memory.writes ≡ row_nets q.unit (map (write_part q i) (ws b n))
    unfolding result_mem
    row_nets_lem i = refl

    nets_are : (when eqb (length (ws b n)) 0 then 0 else D * ((2 + length (ws b n)) * q.unit)) ≡ register_nets b
    unfolding register_nets
    nets_are = λ j. when eqb (ws_long n j) 0 then 0 else D * ((2 + ws_long n j) * unit_is j)

    nets_all : lower_nets (rows b h e w outs n) ≡ register_nets b
    unfolding lower_nets
    nets_all =
        sum_map _ (row b outs n) is_all
        ∙ sum_same _ (λ (i : ℕ). row_nets q.unit (map (write_part q i) (ws b n))) row_nets_lem is_all
        ∙ nets_sum q D (ws b n) ∙ nets_are

    words_are : D * reading + register_words b ≡ rows_words_of b
    unfolding rows_words_of
    words_are = sym (if_false (eqb b.width 0) 0 (D * reading + register_words b) (ne_eqb b.width 0 w))

    wide_nets_lem : register_nets b ≡ rows_nets b
    unfolding rows_nets
    wide_nets_lem = sym (if_false (eqb b.width 0) 0 (register_nets b) (ne_eqb b.width 0 w))

    pub rows_closed : Counted (lower_rows (swizzle b outs (fallback_plan b) n).value) (rows_words_of b) (rows_nets b)
    rows_closed =
        let ds = (swizzle b outs (fallback_plan b) n).value in
        counted_as (lower_rows ds) (lower_words ds) (lower_nets ds) _ _ (ap lower_words (rows_are b h e w outs n) ∙ words_sum ∙ words_are) (ap lower_nets (rows_are b h e w outs n) ∙ nets_all ∙ wide_nets_lem) (rows_counted ds (all_wide b h e w outs n))
