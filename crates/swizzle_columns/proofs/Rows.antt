-- The loops over the entries of a row and over the old rows, each from what is left to do.
use mathlib.Core.Path.{◌≡◌, refl, sym, ap, ◌∙◌}
use Prim.Native.Nat.{ℕ, zero, suc, ◌+◌, ◌-◌, ◌*◌, ◌<◌, ◌≤◌}
use native.Mathlib.Nat.{sub-zero, add-mul, mul-le-mul_right}
use native.Mathlib.Numerals.{add-one}
use native.Mathlib.Omega.{arith}
use mathlib.Core.List.{List, [], ◌∷◌, ◌++◌}
use lib.Dec.{eqb}
use lib.ListN.{length, take, drop, get_or, set, length-map, get_or-map, drop_of_length-le}
use lib.Seq.{sets, drop-cons, drop-drop}
use Rattle.lists.specs.Choice.{when◌then◌else◌}
use Rattle.lists.specs.Lists.{up_from, concat_map}
use Rattle.lists.proofs.UpFrom.{count_step, count_end}
use Rattle.lists.proofs.Store.{sets_append}
use Rattle.rules.specs.Limits.{X, None}
use Rattle.rules.specs.Swizzle.{repeating}
use Rattle.swizzle_laws.specs.Stores.{spill_fit, spill_at}
use Rattle.swizzle_columns.specs.Rows.{source_of, row_sources, sources_from, all_sources, last_of}

-- a row more within all
pub rows_in : (n j L at size : ℕ) → j < n → at ≡ j * L → n * L ≤ size → at + L ≤ size
rows_in n j L at size h e f =
    let a : (j + 1) * L ≤ n * L = mul-le-mul_right L (omega arith) in
    omega (arith, add-mul j 1 L)

pub row_next : (j L at : ℕ) → at ≡ j * L → at + L ≡ (j + 1) * L
row_next j L at e = omega (arith, add-mul j 1 L)

-- past the end the default stands
pub get_d_past : (l : List ℕ) (n d : ℕ) → length l ≤ n → get_or l n d ≡ d
get_d_past [] n d h = refl
get_d_past (x ∷ l) zero d h = absurd (omega arith)
get_d_past (x ∷ l) (suc n) d h = get_d_past l n d (omega arith)

-- ---- the data of a row
pub net_by : ℕ → List ℕ → ℕ → ℕ
net_by none v s = when eqb s None then none else get_or v s X

pub length_row : (base : ℕ) (es : List ℕ) → length (row_sources base es) ≡ length es
unfolding row_sources
length_row base es = length-map es (source_of base)

pub row_at : (base : ℕ) (es : List ℕ) (i : ℕ) → get_or (row_sources base es) i (source_of base 0) ≡ source_of base (get_or es i 0)
unfolding row_sources
row_at base es i = get_or-map (source_of base) es i 0

-- ---- the mask of a row
pub length_repeating : (last : ℕ) (es v : List ℕ) → length (repeating last es v) ≡ length es
unfolding repeating
length_repeating last [] v = refl
length_repeating last (e ∷ es) v = ap suc (length_repeating (when eqb e None then last else get_or v e X) es v)

repeating_cons : (last e : ℕ) (es v : List ℕ) → repeating last (e ∷ es) v ≡ net_by last v e ∷ repeating (net_by last v e) es v
unfolding repeating net_by
repeating_cons last e es v = refl

last_cons : (last e : ℕ) (es v : List ℕ) → last_of last (e ∷ es) v ≡ last_of (net_by last v e) es v
unfolding last_of net_by
last_cons last e es v = refl

module _ (base : ℕ) (es v out : List ℕ) (at i last n s : ℕ) (h : i < length es) (p : s ≡ source_of base (get_or es i 0))
    (q : n ≡ (when eqb s None then last else get_or v s X)) where
  abbrev ss : List ℕ
  ss = row_sources base es

  head : drop i ss ≡ s ∷ drop (i + 1) ss
  head = rw (add-one, drop-cons ss i (source_of base 0) (omega (arith, length_row base es)), row_at base es i, ← p)

  net : net_by last v s ≡ n
  unfolding net_by
  net = sym q

  pub repeat_turn : sets (set out (at + i) n) (at + (i + 1)) (repeating n (drop (i + 1) ss) v) ≡ sets out (at + i) (repeating last (drop i ss) v)
  repeat_turn =
      let x : at + (i + 1) ≡ suc (at + i) = omega arith in
      ap (λ (k : ℕ). sets (set out (at + i) n) k (repeating n (drop (i + 1) ss) v)) x
      ∙ ap (λ (k : ℕ). sets out (at + i) (k ∷ repeating k (drop (i + 1) ss) v)) (sym net)
      ∙ ap (sets out (at + i)) (sym (ap (λ (l : List ℕ). repeating last l v) head ∙ repeating_cons last s (drop (i + 1) ss) v))

  pub last_turn : last_of n (drop (i + 1) ss) v ≡ last_of last (drop i ss) v
  last_turn =
      ap (λ (k : ℕ). last_of k (drop (i + 1) ss) v) (sym net) ∙ sym (ap (λ (l : List ℕ). last_of last l v) head ∙ last_cons last s (drop (i + 1) ss) v)

module _ (base : ℕ) (es v : List ℕ) (i last : ℕ) (h : length es ≤ i) where
  none_left : drop i (row_sources base es) ≡ []
  none_left = drop_of_length-le (row_sources base es) {i = i} (omega (arith, length_row base es))

  pub repeat_ends : (out : List ℕ) (at : ℕ) → sets out (at + i) (repeating last (drop i (row_sources base es)) v) ≡ out
  unfolding repeating
  repeat_ends out at = ap (λ (l : List ℕ). sets out (at + i) (repeating last l v)) none_left

  pub last_ends : last_of last (drop i (row_sources base es)) v ≡ last
  unfolding last_of
  last_ends = ap (λ (l : List ℕ). last_of last l v) none_left

-- ---- the old rows
module _ (olds width : ℕ) (es : List ℕ) where
  -- what is left from row j on
  unfoldable pub from_row_of : ℕ → List ℕ
  from_row_of j = sources_from j (olds - j) width es

  pub from_first : from_row_of 0 ≡ all_sources olds width es
  unfolding from_row_of all_sources
  from_first = rw sub-zero

  pub from_step : (j base : ℕ) → j < olds → base ≡ j * width → from_row_of j ≡ row_sources base es ++ from_row_of (j + 1)
  unfolding from_row_of sources_from
  from_step j base h e =
      ap (concat_map (λ i. row_sources (i * width) es)) (count_step j olds h)
      ∙ ap (λ (b : ℕ). row_sources b es ++ concat_map (λ i. row_sources (i * width) es) (up_from (j + 1) (olds - (j + 1)))) (sym e)

  pub from_end : (j : ℕ) → olds ≤ j → from_row_of j ≡ []
  unfolding from_row_of sources_from
  from_end j h = ap (concat_map (λ i. row_sources (i * width) es)) (count_end j olds h)

repeating-joined : (last : ℕ) (a b v : List ℕ) → repeating last (a ++ b) v ≡ repeating last a v ++ repeating (last_of last a v) b v
unfolding repeating last_of
repeating-joined last [] b v = refl
repeating-joined last (e ∷ a) b v =
    let n = (when eqb e None then last else get_or v e X) in
    ap (λ (r : List ℕ). n ∷ r) (repeating-joined n a b v)

module _ (olds width : ℕ) (es v out : List ℕ) (j base at : ℕ) (h : j < olds) (e : base ≡ j * width) where
  pub repeat_row_turn : (last n : ℕ) (out' : List ℕ) → n ≡ last_of last (row_sources base es) v → out' ≡ sets out at (repeating last (row_sources base es) v)
      → sets out' (at + length es) (repeating n (from_row_of olds width es (j + 1)) v) ≡ sets out at (repeating last (from_row_of olds width es j) v)
  repeat_row_turn last n out' q p =
      let r = repeating last (row_sources base es) v in
      let m : length es ≡ length r = sym (length_repeating last (row_sources base es) v ∙ length_row base es) in
      ap (λ (k : ℕ). sets out' (at + k) (repeating n (from_row_of olds width es (j + 1)) v)) m
      ∙ ap (λ (l : List ℕ). sets l (at + length r) (repeating n (from_row_of olds width es (j + 1)) v)) p
      ∙ ap (λ (k : ℕ). sets (sets out at r) (at + length r) (repeating k (from_row_of olds width es (j + 1)) v)) q
      ∙ sets_append r (repeating (last_of last (row_sources base es) v) (from_row_of olds width es (j + 1)) v) out at
      ∙ ap (sets out at) (sym (ap (λ (l : List ℕ). repeating last l v) (from_step olds width es j base h e) ∙ repeating-joined last (row_sources base es) (from_row_of olds width es (j + 1)) v))

module _ (olds width : ℕ) (es v out : List ℕ) (j at : ℕ) (h : olds ≤ j) where
  pub repeat_rows_end : (last : ℕ) → sets out at (repeating last (from_row_of olds width es j) v) ≡ out
  unfolding repeating
  repeat_rows_end last = ap (λ (l : List ℕ). sets out at (repeating last l v)) (from_end olds width es j h)

-- ---- a piece's rows
spill_at_cons : {A : Type 0} (M R U L a : ℕ) (s : List ℕ) (w l : List A) → spill_at M R U L s (drop L w) (spill_fit M R U l a (take L w)) ≡ spill_at M R U L (a ∷ s) w l
unfolding spill_at
spill_at_cons M R U L a s w l = refl

module _ {A : Type 0} (M R U L : ℕ) (starts : List ℕ) (v l : List A) (j at : ℕ) where
  pub piece_turn : (l' : List A) (start : ℕ) → j < length starts → start ≡ get_or starts j 0 → l' ≡ spill_fit M R U l start (take L (drop at v))
      → spill_at M R U L (drop (j + 1) starts) (drop (at + L) v) l' ≡ spill_at M R U L (drop j starts) (drop at v) l
  piece_turn l' start h p q =
      let d : start ∷ drop (j + 1) starts ≡ drop j starts =
      ap (λ (k : ℕ). k ∷ drop (j + 1) starts) p ∙ sym (rw (add-one, drop-cons starts j 0 h)) in
      ap (spill_at M R U L (drop (j + 1) starts) (drop (at + L) v)) q
      ∙ ap (λ (w : List A). spill_at M R U L (drop (j + 1) starts) w (spill_fit M R U l start (take L (drop at v)))) (sym (drop-drop L at v))
      ∙ spill_at_cons M R U L start (drop (j + 1) starts) (drop at v) l
      ∙ ap (λ (s : List ℕ). spill_at M R U L s (drop at v) l) d

  pub piece_ends : length starts ≤ j → spill_at M R U L (drop j starts) (drop at v) l ≡ l
  unfolding spill_at
  piece_ends h = ap (λ (s : List ℕ). spill_at M R U L s (drop at v) l) (drop_of_length-le starts {i = j} h)
