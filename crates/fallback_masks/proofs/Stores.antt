-- The masks of the pieces of a port, by the plan of a fallback: each is stored after the one before it, so the rows of all memories have the runs of the
-- mask for each piece, and one run where there is no piece.
use mathlib.Core.Path.{◌≡◌, refl, sym, ap, ◌∙◌}
use Prim.Native.Nat.{ℕ, zero, suc, ◌+◌, ◌-◌, ◌*◌, ◌/◌, ◌^◌, ◌<◌, ◌≤◌}
use native.Mathlib.Nat.{zero-mul, zero-add, suc-mul, mul-zero, mul_comm, one-mul, add-mul, mul-le-mul_left, mul-le-mul_right, pow-le-pow_right, le_trans}
use native.Mathlib.Omega.{arith}
use lib.Pow.{pow-add, pow_pos}
use mathlib.Core.List.{List, [], ◌∷◌, ◌++◌, map, append_assoc, append-nil}
use lib.ListN.{length, get_or, take, drop, replicate, length-append, length-take, length-drop, length-replicate, take-append-drop}
use lib.Seq.{sets, sets-eq, take-append_seam, drop-append-add, take_all}
use lib.Dec.{eqb}
use borrow.Author.Tests.{ne_eqb}
use Rattle.lists.specs.Choice.{when◌then◌else◌}
use Rattle.lists.specs.Lists.{part, up_from, concat_map}
use Rattle.lists.proofs.Choice.{if_false}
use Rattle.lists.proofs.Parts.{part_cons, none_front}
use Rattle.rules.specs.Limits.{X, None, addr_bits}
use Rattle.rules.specs.Numbers.{softs, bits_for}
use Rattle.rules.specs.Value.{Value}
use Rattle.rules.specs.Log.{done}
use Rattle.rules.specs.Geometry.{Layout, row_len_of, all_chunks}
use Rattle.rules.specs.Swizzle.{Role, High, roles, low_roles, mux_roles, count_doubles, Split, split_by, split_addr, piece_start, old_rows, sources, repeating, store_rows, store_piece, piece_mask, mask_pieces}
use Rattle.rules.proofs.Traces.{bind_value}
use Rattle.swizzle_laws.proofs.ReadCounts.{bits_enough}
use Rattle.fallback_plan.proofs.Spots.{starts_at}
use Rattle.fallback_masks.proofs.Alike.{drop_zeros, Alike, alike_long, row_runs, rows_alike, rows_zero, rows_append, rows_zeros, piece_alike}

-- ---- numbers in order
up_joined : (n j k : ℕ) → up_from n j ++ up_from (n + j) k ≡ up_from n (j + k)
up_joined n zero k =
    let a : n + 0 ≡ n = omega arith in
    ap (λ (m : ℕ). up_from m k) a ∙ ap (up_from n) (sym (zero-add k))
up_joined n (suc j) k =
    let a : n + suc j ≡ suc n + j = omega arith in
    let b : suc (j + k) ≡ suc j + k = omega arith in
    ap (λ (m : ℕ). n ∷ (up_from (suc n) j ++ up_from m k)) a ∙ ap (λ (l : List ℕ). n ∷ l) (up_joined (suc n) j k) ∙ ap (up_from n) b

-- the sources of one row
one_source : (b e : ℕ) → e < None → (when eqb e None then None else b + e) ≡ b + e
one_source b e h = if_false (eqb e None) None (b + e) (ne_eqb e None (λ z. omega (arith, z, h)))

row_sources_lem : (b a c : ℕ) → a + c ≤ None → map (λ (e : ℕ). when eqb e None then None else b + e) (up_from a c) ≡ up_from (b + a) c
row_sources_lem b a zero h = refl
row_sources_lem b a (suc c) h =
    let s : b + suc a ≡ suc (b + a) = omega arith in
    (λ i. one_source b a (omega arith) i ∷ row_sources_lem b (suc a) c (omega arith) i) ∙ ap (λ (k : ℕ). (b + a) ∷ up_from k c) s

all-sources : (w a c : ℕ) → w ≤ None → concat_map (λ (j : ℕ). map (λ (e : ℕ). when eqb e None then None else j * w + e) (up_from 0 w)) (up_from a c) ≡ up_from (a * w) (c * w)
all-sources w a zero h = ap (up_from (a * w)) (sym (zero-mul w))
all-sources w a (suc c) h =
    let z : a * w + 0 ≡ a * w = omega arith in
    let f : suc a * w ≡ a * w + w = suc-mul a w in
    let t : w + c * w ≡ suc c * w = omega (arith, suc-mul c w) in
    (λ i. (row_sources_lem (a * w) 0 w (omega (arith, h, zero-add w)) ∙ ap (λ (k : ℕ). up_from k w) z) i ++ (all-sources w (suc a) c h ∙ ap (λ (k : ℕ). up_from k (c * w)) f) i)
    ∙ up_joined (a * w) w (c * w) ∙ ap (up_from (a * w)) t

repeat_part : (last a c : ℕ) (v : List ℕ) → a + c ≤ length v → a + c ≤ None → repeating last (up_from a c) v ≡ part a c v
unfolding repeating
repeat_part last a zero v h g = refl
repeat_part last a (suc c) v h g =
    let n = (when eqb a None then last else get_or v a X) in
    let e : n ≡ get_or v a X = if_false (eqb a None) last (get_or v a X) (ne_eqb a None (λ z. omega (arith, z, g))) in
    let s : suc a ≡ a + 1 = omega arith in
    (λ i. e i ∷ (repeat_part n (suc a) c v (omega arith) (omega arith) ∙ ap (λ (k : ℕ). part k c v) s) i) ∙ sym (part_cons a c v X (omega arith))

pub repeat_all : (n : ℕ) (v : List ℕ) → length v ≡ n → n ≤ None → repeating X (up_from 0 n) v ≡ v
repeat_all n v e h = repeat_part X 0 n v (omega (arith, e, zero-add n)) (omega (arith, h, zero-add n)) ∙ take_all n v (omega (arith, e))

-- ---- a store at the end of what is stored
sets_end : (front u : List ℕ) (i R z : ℕ) → i ≡ length front → length u ≤ R → sets (front ++ replicate R z) i u ≡ (front ++ u) ++ replicate (R - length u) z
sets_end front u i R z e h =
    ap (λ (k : ℕ). sets (front ++ replicate R z) k u) e
    ∙ sets-eq u (front ++ replicate R z) (length front) (omega (arith, length-append front (replicate R z), length-replicate {A = ℕ} R z, h))
    ∙ (λ j. take-append_seam front (replicate R z) j ++ u ++ (drop-append-add front (replicate R z) (length u) ∙ drop_zeros (length u) R z) j)

-- ---- the pieces of a port with old wide log k and this address, in a layout with no address bits, soft bits up to K, and rows of w bits in order
module _ (q : Layout) (K k w : ℕ) (addr : Value) (hard : q.hard ≡ 0) (soft : q.soft_mask ≡ 2 ^ K - 1) (low : k ≤ K) (es : q.entries ≡ up_from 0 w) (long : row_len_of q ≡ w)
    (width : q.width ≡ w) (thin : 2 ^ k * w ≤ None) (few : (split_addr q k 0 addr).pieces ≤ 2 ^ addr_bits) where
  abbrev s : Split
  s = split_addr q k 0 addr

  abbrev T : ℕ
  T = 2 ^ k

  old_is : s.old ≡ k
  unfolding split_addr split_by
  old_is = refl

  rows_are : old_rows s ≡ up_from 0 T
  unfolding old_rows
  rows_are = ap (λ (j : ℕ). up_from 0 (2 ^ j)) old_is

  some : 1 ≤ T
  some = pow_pos k

  w_thin : w ≤ None
  w_thin = omega (arith, thin, mul-le-mul_right {m = 1} {n = T} w some, one-mul w)

  pub sources_are : sources q s ≡ up_from 0 (T * w)
  unfolding sources
  sources_are =
      (λ i. concat_map (λ (j : ℕ). map (λ (e : ℕ). when eqb e None then None else j * width i + e) (es i)) (rows_are i))
      ∙ all-sources w 0 T w_thin ∙ ap (λ (j : ℕ). up_from j (T * w)) (zero-mul w)

  pub repeats : (mask : List ℕ) → length mask ≡ T * w → repeating X (sources q s) mask ≡ mask
  repeats mask e = ap (λ (l : List ℕ). repeating X l mask) sources_are ∙ repeat_all (T * w) mask e thin

  -- ---- where a piece starts
  abbrev rs : List Role
  rs = roles (q.soft_mask / 2 ^ k) (0 - (k - softs k q.soft_mask)) (q.hard - 0) addr

  low_long : (n m : ℕ) → length (low_roles n m) ≡ n
  unfolding low_roles
  low_long zero m = refl
  low_long (suc n) m = ap suc (low_long n (m / 2))

  roles_long : k + bits_for s.pieces ≤ length s.piece_roles
  unfolding split_addr split_by
  roles_long =
      let n = bits_for (all_chunks q * 2 ^ count_doubles rs) in
      omega (arith, length-append (low_roles k q.soft_mask ++ mux_roles rs) (replicate n High), length-append (low_roles k q.soft_mask) (mux_roles rs), low_long k q.soft_mask, length-replicate {A = Role} n High)

  below : (x j : ℕ) → x < s.pieces → j < T → j + T * x < 2 ^ length s.piece_roles
  below x j h g =
      let a : s.pieces ≤ 2 ^ bits_for s.pieces = bits_enough s.pieces few in
      let b : T * suc x ≤ T * 2 ^ bits_for s.pieces = mul-le-mul_left T (le_trans h a) in
      let c : T * 2 ^ bits_for s.pieces ≡ 2 ^ (k + bits_for s.pieces) = sym (pow-add 2 k (bits_for s.pieces)) in
      let d : 2 ^ (k + bits_for s.pieces) ≤ 2 ^ length s.piece_roles = pow-le-pow_right (omega arith) roles_long in
      let f : T * suc x ≡ T * x + T = mul_comm T (suc x) ∙ suc-mul x T ∙ ap (λ (n : ℕ). n + T) (mul_comm x T) in
      omega (arith, b, c, d, f, g)

  start : (x j : ℕ) → x < s.pieces → j < T → piece_start q s x j ≡ (j + T * x) * w
  start x j h g = starts_at q K k addr hard soft low x j (below x j h g) ∙ ap (λ (n : ℕ). (j + T * x) * n) long

  -- ---- one piece
  rows_none : (x : ℕ) (v cols : List ℕ) → store_rows q s x [] v cols ≡ cols
  unfolding store_rows
  rows_none x v cols = refl

  rows_next : (x j : ℕ) (js v cols : List ℕ) → store_rows q s x (j ∷ js) v cols ≡ store_rows q s x js (drop w v) (sets cols (piece_start q s x j) (take w v))
  unfolding store_rows
  rows_next x j js v cols = ap (λ (n : ℕ). store_rows q s x js (drop n v) (sets cols (piece_start q s x j) (take n v))) long

  module _ (x : ℕ) (h : x < s.pieces) where
    store_rows_lem : (c j R : ℕ) (v front : List ℕ) → j + c ≤ T → length front ≡ (j + T * x) * w → length v ≡ c * w → c * w ≤ R
        → store_rows q s x (up_from j c) v (front ++ replicate R 0) ≡ (front ++ v) ++ replicate (R - c * w) 0
    store_rows_lem zero j R v front g e f r =
        let z : R ≡ R - 0 * w = omega (arith, zero-mul w) in
        let n : v ≡ [] = sym (append-nil v) ∙ none_front v [] (f ∙ zero-mul w) in
        rows_none x v (front ++ replicate R 0) ∙ (λ i. (sym (append-nil front) ∙ ap (λ (l : List ℕ). front ++ l) (sym n)) i ++ replicate (z i) 0)
    store_rows_lem (suc c) j R v front g e f r =
        let sc : suc c * w ≡ c * w + w = suc-mul c w in
        let lt : length (take w v) ≡ w = omega (arith, length-take w v, f, sc) in
        let ld : length (drop w v) ≡ c * w = omega (arith, length-drop w v, f, sc) in
        let lf : length (front ++ take w v) ≡ (suc j + T * x) * w = length-append front (take w v) ∙ omega (arith, e, lt, suc-mul (j + T * x) w, ap (λ (n : ℕ). n * w) (inside j (T * x))) in
        let z : R - w - c * w ≡ R - suc c * w = omega (arith, sc) in
        rows_next x j (up_from (suc j) c) v (front ++ replicate R 0)
        ∙ ap (store_rows q s x (up_from (suc j) c) (drop w v)) (sets_end front (take w v) (piece_start q s x j) R 0 (start x j h (omega (arith, g)) ∙ sym e) (omega (arith, lt, sc, r)) ∙ ap (λ (n : ℕ). (front ++ take w v) ++ replicate (R - n) 0) lt)
        ∙ store_rows_lem c (suc j) (R - w) (drop w v) (front ++ take w v) (omega (arith, g)) lf ld (omega (arith, r, sc))
        ∙ (λ i. (append_assoc front (take w v) (drop w v) ∙ ap (λ (l : List ℕ). front ++ l) (take-append-drop w v)) i ++ replicate (z i) 0)
      where
        inside : (j n : ℕ) → suc j + n ≡ suc (j + n)
        inside j n = omega arith

    pub store_piece_lem : (R : ℕ) (v front : List ℕ) → length front ≡ T * x * w → length v ≡ T * w → T * w ≤ R → store_piece q s x v (front ++ replicate R 0) ≡ (front ++ v) ++ replicate (R - T * w) 0
    unfolding store_piece
    store_piece_lem R v front e f r =
        ap (λ (js : List ℕ). store_rows q s x js v (front ++ replicate R 0)) rows_are
        ∙ store_rows_lem T 0 R v front (omega (arith, zero-add T)) (e ∙ ap (λ (n : ℕ). n * w) (sym (zero-add (T * x)))) f r

  -- ---- all pieces
  masks_none : (mask cols : Value) (n : ℕ) → (mask_pieces q s mask [] cols n).value ≡ cols
  unfolding mask_pieces done
  masks_none mask cols n = refl

  masks_next : (mask : Value) (x : ℕ) (xs : List ℕ) (cols : Value) (n : ℕ)
      → (mask_pieces q s mask (x ∷ xs) cols n).value ≡ (mask_pieces q s mask xs (store_piece q s x (piece_mask s mask x n).value cols) (piece_mask s mask x n).next).value
  unfolding mask_pieces
  masks_next mask x xs cols n = bind_value (piece_mask s mask x) _ n

  module _ (mask : Value) (sized : length mask ≡ T * w) (wide : 0 < w) where
    abbrev each : ℕ
    each = row_runs w T mask

    masks_runs : (c x t R : ℕ) (front : List ℕ) (n : ℕ) → x + c ≤ s.pieces → length front ≡ T * x * w → R ≡ (c * T + t) * w
        → row_runs w (T * x + (c * T + t)) (mask_pieces q s mask (up_from x c) (front ++ replicate R 0) n).value ≡ row_runs w (T * x) front + (c * each + t)
    masks_runs zero x t R front n h e f =
        let z : 0 * T + t ≡ t = omega (arith, zero-mul T) in
        let zr : R ≡ t * w = f ∙ ap (λ (m : ℕ). m * w) z in
        (λ i. row_runs w (T * x + z i) (masks_none mask (front ++ replicate R 0) n i))
        ∙ rows_append w (T * x) t front (replicate R 0) e
        ∙ ap (λ (m : ℕ). row_runs w (T * x) front + m) (ap (λ (m : ℕ). row_runs w t (replicate m 0)) zr ∙ rows_zeros w t 0 wide ∙ omega (arith, zero-mul each))
    masks_runs (suc c) x t R front n h e f =
        let v = (piece_mask s mask x n).value in
        let al : Alike v mask = piece_alike s mask x n in
        let lv : length v ≡ T * w = alike_long v mask al ∙ sized in
        let tx : T * suc x ≡ T * x + T = mul_comm T (suc x) ∙ suc-mul x T ∙ ap (λ (m : ℕ). m + T) (mul_comm x T) in
        let sc : suc c * T ≡ c * T + T = suc-mul c T in
        let r1 : (suc c * T + t) * w ≡ (c * T + t) * w + T * w = ap (λ (m : ℕ). m * w) (moved (c * T) T t (suc c * T) sc) ∙ add-mul (c * T + t) T w in
        let rr : R - T * w ≡ (c * T + t) * w = omega (arith, f, r1) in
        let room : T * w ≤ R = omega (arith, f, r1) in
        let lf : length (front ++ v) ≡ T * suc x * w = length-append front v ∙ omega (arith, e, lv, add-mul (T * x) T w) ∙ ap (λ (m : ℕ). m * w) (sym tx) in
        let rows : T * x + (suc c * T + t) ≡ T * suc x + (c * T + t) = omega (arith, tx, sc) in
        let ih = masks_runs c (suc x) t (R - T * w) (front ++ v) (piece_mask s mask x n).next (omega (arith, h)) lf rr in
        let ra : row_runs w (T * suc x) (front ++ v) ≡ row_runs w (T * x) front + each = ap (λ (m : ℕ). row_runs w m (front ++ v)) tx ∙ rows_append w (T * x) T front v e ∙ ap (λ (m : ℕ). row_runs w (T * x) front + m) (rows_alike w T v mask al) in
        (λ i. row_runs w (rows i) ((masks_next mask x (up_from (suc x) c) (front ++ replicate R 0) n ∙ ap (λ (l : List ℕ). (mask_pieces q s mask (up_from (suc x) c) l (piece_mask s mask x n).next).value) (store_piece_lem x (omega (arith, h)) R v front e lv room)) i))
        ∙ ih ∙ omega (arith, ra, suc-mul c each)
      where
        moved : (a b t d : ℕ) → d ≡ a + b → d + t ≡ a + t + b
        moved a b t d e = omega (arith, e)

    -- from blank columns: the mask's runs for each piece, and one for each row past the last
    pub runs-all : (D n : ℕ) → s.pieces * T ≤ D → row_runs w D (mask_pieces q s mask (up_from 0 s.pieces) (replicate (D * w) 0) n).value ≡ s.pieces * each + (D - s.pieces * T)
    runs-all D n h =
        let t = D - s.pieces * T in
        let d : T * 0 + (s.pieces * T + t) ≡ D = omega (arith, h, mul-zero T) in
        let z : length {A = ℕ} [] ≡ T * 0 * w = sym (ap (λ (m : ℕ). m * w) (mul-zero T) ∙ zero-mul w) in
        let c : s.pieces * T + t ≡ D = omega (arith, h) in
        ap (λ (m : ℕ). row_runs w m (mask_pieces q s mask (up_from 0 s.pieces) (replicate (D * w) 0) n).value) (sym d)
        ∙ masks_runs s.pieces 0 t (D * w) [] n (omega (arith, zero-add s.pieces)) z (ap (λ (m : ℕ). m * w) (sym c))
        ∙ ap (λ (m : ℕ). m + (s.pieces * each + t)) (ap (λ (m : ℕ). row_runs w m []) (mul-zero T) ∙ rows_zero w []) ∙ zero-add _
