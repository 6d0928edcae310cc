-- The memories of a record that no number refuses: their counts by the record's bits.
use mathlib.Core.Path.{◌≡◌, sym, ap, subst, ◌∙◌}
use mathlib.Core.Bool.{true, false}
use Prim.Native.Nat.{ℕ, suc, ◌+◌, ◌-◌, ◌*◌, ◌/◌, ◌%◌, ◌<◌, ◌≤◌, min}
use native.Mathlib.Omega.{arith}
use native.Mathlib.Nat.{zero-add, zero-mul}
use native.Mathlib.Numerals.{add-one}
use mathlib.Core.List.{List, [], ◌++◌, map}
use lib.ListN.{length, take, drop, get_or, length-drop, length-append}
use lib.Seq.{sets, length-take-le}
use Rattle.lists.specs.Lists.{sum_by, part, up_from, concat_map}
use Rattle.lists.proofs.Parts.{part-part, part_cons}
use Rattle.lists.proofs.Joined.{map_part, sum_map}
use Rattle.rules.specs.Numbers.{ceil_div}
use Rattle.rules.specs.Value.{from_uint}
use Rattle.record_bits.proofs.Arrays.{bits_at}
use Rattle.rules.specs.Record.{Sizes, size_mems, size_trits, bits_of, array_bytes, known_bit, value_bit, head_sizes, known_bits, value_bits, decode_image}
use Rattle.rules.specs.Image.{rows_before}
use Rattle.rules.specs.Conditions.{bad_sizes}
use Rattle.rules.specs.Refusals.{record_number}
use Rattle.rules.specs.Lister.{size_depth, size_start, mem_trits, Summary, summary_of, summaries, memory_line}
use Rattle.rules.proofs.Headers.{kept, mems_max}
use Rattle.rules.proofs.Memories.{start_next, start_fits}
use Rattle.rules.proofs.Written.{are_bytes, all_bytes, length_bits, decoded_known, decoded_value}
use Rattle.lists.proofs.UpFrom.{count_step, count_end}
use Rattle.lists.proofs.Concat.{concat_map_lem}
use Rattle.lists.proofs.Store.{sets_at}
use Rattle.record_sizes.specs.View.{view_sizes}
use Rattle.record_sizes.specs.declared.Sizes.{Sizes as Machine}
use Rattle.record_listing.specs.Put.{Put}
use Rattle.record_listing.specs.Starts.{Accepted, Starts}
use Rattle.record_listing.proofs.Puts.{put_as}
use Rattle.record_codec.proofs.Arrays.{whole}
use Rattle.record_codec.proofs.Reading.{record_good}

module _ (bytes : List ℕ) (e : record_number bytes ≡ 0) where
  abbrev T : ℕ
  T = size_trits (head_sizes bytes)

  abbrev n : ℕ
  n = array_bytes T

  enough : T ≤ 8 * n
  unfolding array_bytes ceil_div
  enough = omega arith

  trits_max : T ≤ 131072
  trits_max = (kept (head_sizes bytes) (record_good bytes e).1).trits_max

  size : length bytes ≡ 12 + 2 * n
  size = whole bytes (record_good bytes e).0

  pub known_room : (k : List ℕ) → k ≡ part 12 n bytes → T ≤ 8 * length k
  known_room k q = omega (arith, ap length q, length-take-le n (drop 12 bytes) (omega (arith, length-drop 12 bytes, size)), enough)

  pub value_room : (v : List ℕ) → v ≡ drop (12 + n) bytes → T ≤ 8 * length v
  value_room v q = omega (arith, ap length q, length-drop (12 + n) bytes, size, enough)

  -- memory i lies in the image
  pub memory_end : (i : ℕ) → i < size_mems (head_sizes bytes) → (size_start (head_sizes bytes) i + size_depth (head_sizes bytes) i * (head_sizes bytes).unit ≤ T) × (T ≤ 131072)
  memory_end i h = (start_fits (head_sizes bytes) i h, trits_max)

  module _ (small : (i : ℕ) → get_or bytes i 0 < 256) where
    bytes_are : are_bytes bytes ≡ true
    bytes_are = all_bytes bytes small

    -- of bits f of the trits, which stand in the array K
    counted : (f : ℕ → ℕ) (K : List ℕ) → map f (decode_image bytes) ≡ take T K → (a m : ℕ) → a + m ≤ T → sum_by (λ b. b) (part a m K) ≡ sum_by f (part a m (decode_image bytes))
    counted f K q a m h =
        sym (sum_map f (part a m (decode_image bytes)) ∙ ap (sum_by (λ (b : ℕ). b)) (map_part f a m (decode_image bytes) ∙ ap (part a m) q ∙ part-part a m 0 T K h ∙ ap (λ (x : ℕ). part x m K) (zero-add a)))

    pub known_sum : (k : List ℕ) → k ≡ part 12 n bytes → (a m : ℕ) → a + m ≤ T → sum_by (λ b. b) (part a m (bits_of k)) ≡ sum_by known_bit (part a m (decode_image bytes))
    unfolding known_bits
    known_sum k q a m h = ap (λ (x : List ℕ). sum_by (λ (b : ℕ). b) (part a m (bits_of x))) q ∙ counted known_bit (known_bits bytes) (decoded_known bytes bytes_are e) a m h

    pub value_sum : (v : List ℕ) → v ≡ drop (12 + n) bytes → (a m : ℕ) → a + m ≤ T → sum_by (λ b. b) (part a m (bits_of v)) ≡ sum_by value_bit (part a m (decode_image bytes))
    unfolding value_bits
    value_sum v q a m h = ap (λ (x : List ℕ). sum_by (λ (b : ℕ). b) (part a m (bits_of x))) q ∙ counted value_bit (value_bits bytes) (decoded_value bytes bytes_are e) a m h

-- ---- a turn of the loop that counts
module _ (array : List ℕ) (to j : ℕ) where
  abbrev left : ℕ → ℕ
  left k = sum_by (λ b. b) (part k (to - k) (bits_of array))

  pub ones_turn : j < to → to ≤ 8 * length array → (b : ℕ) → b ≡ get_or (from_uint 8 (get_or array (j / 8) 0)) (j % 8) 0 → left j ≡ b + left (j + 1)
  ones_turn h g b q =
      let x : to - j ≡ suc (to - (j + 1)) = omega arith in
      let z : get_or (bits_of array) j 0 ≡ b = bits_at array j (omega arith) ∙ sym q in
      ap (λ (m : ℕ). sum_by (λ (b : ℕ). b) (part j m (bits_of array))) x
      ∙ ap (sum_by (λ (b : ℕ). b)) (part_cons j (to - (j + 1)) (bits_of array) 0 (omega (arith, length_bits array)))
      ∙ (rw z)

  pub ones_end : to ≤ j → left j ≡ 0
  ones_end h = let x : to - j ≡ 0 = omega arith in rw x

-- ---- with the machine's sizes
module _ (bytes : List ℕ) (s : Machine) (i from : ℕ) (t : Starts bytes s i from) where
  depth_is : (d : ℕ) → d ≡ size_depth (view_sizes s) i → d ≡ size_depth (head_sizes bytes) i
  depth_is d q = q ∙ ap (λ (y : Sizes). size_depth y i) t.sizes

  start_is : from ≡ size_start (head_sizes bytes) i
  start_is = t.start ∙ ap (λ (y : Sizes). size_start y i) t.sizes

  unit_is : s.unit ≡ (head_sizes bytes).unit
  unit_is = ap (λ (y : Sizes). y.unit) t.sizes

  pub below : i < size_mems (head_sizes bytes)
  below = subst (λ (y : Sizes). i < size_mems y) t.sizes t.below

  pub size_is : (d : ℕ) → d ≡ size_depth (view_sizes s) i → d * s.unit ≡ size_depth (head_sizes bytes) i * (head_sizes bytes).unit
  size_is d q = ap (λ (x : ℕ). x * s.unit) (depth_is d q) ∙ ap (λ (x : ℕ). size_depth (head_sizes bytes) i * x) unit_is

  pub end_is : (d : ℕ) → d ≡ size_depth (view_sizes s) i → (from + d * s.unit ≤ size_trits (head_sizes bytes)) × (size_trits (head_sizes bytes) ≤ 131072)
  end_is d q =
      let e = memory_end bytes t.good i below in
      (omega (arith, e.0, start_is, size_is d q), e.1)

  -- the summary that the code makes
  pub summary_is : (d k o : ℕ) → d ≡ size_depth (view_sizes s) i
      → k ≡ sum_by known_bit (part from (d * s.unit) (decode_image bytes)) → o ≡ sum_by value_bit (part from (d * s.unit) (decode_image bytes))
      → ◌≡◌ {A = Summary} (record { index = i; depth = d; known = k; ones = o }) (summary_of (head_sizes bytes) (decode_image bytes) i)
  unfolding summary_of mem_trits
  summary_is d k o q a b =
      let e : part from (d * s.unit) (decode_image bytes) ≡ part (size_start (head_sizes bytes) i) (size_depth (head_sizes bytes) i * (head_sizes bytes).unit) (decode_image bytes) =
      ap (λ (x : ℕ). part x (d * s.unit) (decode_image bytes)) start_is ∙ ap (λ (x : ℕ). part (size_start (head_sizes bytes) i) x (decode_image bytes)) (size_is d q) in
      let x = a ∙ ap (sum_by known_bit) e in
      let y = b ∙ ap (sum_by value_bit) e in
      λ j. record { index = i; depth = depth_is d q j; known = x j; ones = y j }

-- ---- the lines that are left from memory i on
module _ (bytes : List ℕ) (count : ℕ) where
  abbrev pub line_at : ℕ → List ℕ
  line_at i = memory_line (summary_of (head_sizes bytes) (decode_image bytes) i)

  abbrev pub rest : ℕ → List ℕ
  rest i = concat_map line_at (up_from i (count - i))

  rest_turn : (i : ℕ) → i < count → rest i ≡ line_at i ++ rest (i + 1)
  rest_turn i h = ap (concat_map line_at) (count_step i count h)

  pub rest_end : (i : ℕ) → count ≤ i → rest i ≡ []
  rest_end i h = ap (concat_map line_at) (count_end i count h)

  pub rest_all : count ≡ size_mems (head_sizes bytes) → rest 0 ≡ concat_map memory_line (summaries (head_sizes bytes) (decode_image bytes))
  unfolding summaries
  rest_all e =
      let x : count - 0 ≡ size_mems (head_sizes bytes) = omega arith in
      ap (λ (n : ℕ). concat_map line_at (up_from 0 n)) x ∙ sym (concat_map_lem memory_line (summary_of (head_sizes bytes) (decode_image bytes)) (up_from 0 (size_mems (head_sizes bytes))))

  -- a line more
  module _ (l l1 : List ℕ) (at r i : ℕ) (y : Summary) (h : i < count) (e : y ≡ summary_of (head_sizes bytes) (decode_image bytes) i) (p : Put l at (memory_line y) l1 r) where
    put_line : Put l at (line_at i) l1 r
    put_line = put_as (line_at i) (ap memory_line e) p

    pub line_stored : sets l1 r (rest (i + 1)) ≡ sets l at (rest i)
    line_stored =
        ap (λ (m : List ℕ). sets m r (rest (i + 1))) put_line.stored ∙ sets_at l at r (line_at i) (rest (i + 1)) put_line.place ∙ ap (sets l at) (sym (rest_turn i h))

    pub line_place : r + length (rest (i + 1)) ≡ at + length (rest i)
    line_place = omega (arith, put_line.place, ap length (rest_turn i h), length-append (line_at i) (rest (i + 1)))

-- ---- the loop over the memories
module _ (bytes : List ℕ) (s : Machine) (a : Accepted bytes s) where
  good_sizes : bad_sizes (view_sizes s) ≡ false
  good_sizes = subst (λ (y : Sizes). bad_sizes y ≡ false) (sym a.sizes) (record_good bytes a.good).1

  pub few : size_mems (view_sizes s) ≤ 32768
  few = mems_max (view_sizes s) good_sizes

  pub at_first : 0 ≡ size_start (view_sizes s) 0
  unfolding size_start rows_before
  at_first =
      let z = view_sizes s in
      let x : 0 - z.full ≡ 0 = omega arith in
      let y : min 0 z.full ≡ 0 = omega arith in
      rw (x, y, zero-mul z.full_depth_of, zero-mul z.partial_depth, zero-mul z.unit)

  module _ (i from : ℕ) (h : i < size_mems (view_sizes s)) (q : from ≡ size_start (view_sizes s) i) where
    pub starts : Starts bytes s i from
    starts = record { good = a.good; sizes = a.sizes; below = h; start = q }

    module _ (y : Summary) (e : y ≡ summary_of (head_sizes bytes) (decode_image bytes) i) where
      pub depth_back : y.depth ≡ size_depth (view_sizes s) i
      unfolding summary_of
      depth_back = ap (λ (u : Summary). u.depth) e ∙ sym (ap (λ (u : Sizes). size_depth u i) a.sizes)

      pub next_max : from + y.depth * s.unit ≤ 131072
      next_max = let m = end_is bytes s i from starts y.depth depth_back in omega (arith, m.0, m.1)

      pub next_start : from + y.depth * s.unit ≡ size_start (view_sizes s) (i + 1)
      next_start =
          ap (λ (n : ℕ). n + y.depth * s.unit) q ∙ ap (λ (n : ℕ). size_start (view_sizes s) i + n * s.unit) depth_back
          ∙ sym (start_next (view_sizes s) i) ∙ ap (size_start (view_sizes s)) (sym (add-one i))
