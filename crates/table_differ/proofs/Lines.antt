-- A row's text, the comparison of two rows, and the lines one after the other.
use mathlib.Core.Path.{◌≡◌, refl, sym, ap, ◌∙◌}
use mathlib.Core.Logic.{◌≢◌}
use mathlib.Core.Bool.{Bool, true, false, ◌&&◌}
use mathlib.Core.List.{List, [], ◌∷◌, ◌++◌}
use Prim.Native.Nat.{ℕ, zero, suc, ◌+◌, ◌-◌, ◌*◌, ◌≤◌, ◌<◌}
use native.Mathlib.Nat.{suc-mul, zero-mul, mul-le-mul}
use native.Mathlib.Numerals.{add-one}
use native.Mathlib.Omega.{arith}
use lib.ListN.{length, take, replicate, length-append, length-replicate}
use lib.Seq.{sets, take_at, take-take}
use lib.Dec.{eqb}
use lib.Pointwise.{pointwise}
use borrow.Author.Tests.{eq-eqb, ne_eqb, lt-ltb, le-ltb}
use Rattle.lists.specs.Lists.{part, sum_by, concat_map, same_list}
use Rattle.lists.proofs.Store.{sets_at, part_sets}
use Rattle.lists.proofs.UpFrom.{count_step, count_end}
use Rattle.lists.proofs.Same.{same_refl}
use Rattle.rules.specs.Image.{row_of}
use Rattle.rules.specs.Lister.{decimal}
use Rattle.record_listing.specs.Put.{Put}
use Rattle.table_print.specs.Rows.{bits_text, rows_from, rows_shown}
use Rattle.table_print.proofs.Back.{bits_append}
use Rattle.table_print.proofs.Putting.{length_bits, shown_all}
use Rattle.table_differ.specs.Differ.{same_line, differ_word, diff_line, diff_of, differs, diff_lines, differing, last_line, diff_text}

-- ---- a row's text is its line without the break
one_row : (width : ℕ) (row : List ℕ) → rows_from width row 0 1 [] ≡ bits_text row (0 * width) width (10 ∷ [])
unfolding rows_from
one_row width row = refl

row_line : (width : ℕ) (row : List ℕ) → width ≤ 128 → rows_shown 1 width row ≡ bits_text row 0 width [] ++ (10 ∷ [])
row_line width row h =
    sym (shown_all 1 width row (omega arith) h) ∙ one_row width row ∙ ap (λ (n : ℕ). bits_text row n width (10 ∷ [])) (zero-mul width) ∙ sym (bits_append row 0 width [] (10 ∷ []))

pub row_text : (width w : ℕ) (row line : List ℕ) → width ≤ 128 → w ≡ width → line ≡ sets (replicate 129 0) 0 (rows_shown 1 width row) → take w line ≡ bits_text row 0 width []
row_text width w row line h e f =
    let b = bits_text row 0 width [] in
    let t = b ++ (10 ∷ []) in
    let l = sets (replicate 129 0) 0 t in
    let k : length b ≡ width = length_bits row 0 width in
    let n : length t ≡ width + 1 = omega (arith, length-append b (10 ∷ []), k) in
    let s : take (length t) l ≡ t = part_sets (replicate 129 0) 0 t (omega (arith, n, length-replicate {A = ℕ} 129 0)) in
    ap (λ (m : ℕ). take m line) e
    ∙ ap (take width) (f ∙ ap (sets (replicate 129 0) 0) (row_line width row h))
    ∙ sym (take-take width (length t) l (omega (arith, n)))
    ∙ ap (take width) s
    ∙ take_at b (10 ∷ []) width k

-- ---- two rows: the code's test
pub pointwise_same : (a b : List ℕ) → pointwise eqb a b ≡ same_list a b
pointwise_same [] [] = refl
pointwise_same [] (y ∷ b) = refl
pointwise_same (x ∷ a) [] = refl
pointwise_same (x ∷ a) (y ∷ b) = ap (λ (t : Bool). eqb x y && t) (pointwise_same a b)

-- ---- one row's line, or nothing
module _ (width r : ℕ) (x y : List ℕ) where
  pub no_line : true ≡ same_list x y → [] ≡ diff_of width r x y
  unfolding diff_of
  no_line e = rw (← e)

  pub a_line : false ≡ same_list x y → diff_line width r x y ≡ diff_of width r x y
  unfolding diff_of
  a_line e = rw (← e)

pub no_count : (x y : List ℕ) → true ≡ same_list x y → differs x y ≡ 0
unfolding differs
no_count x y e = rw (← e)

pub a_count : (x y : List ℕ) → false ≡ same_list x y → differs x y ≡ 1
unfolding differs
a_count x y e = rw (← e)

pub nothing : (l : List ℕ) (at : ℕ) → Put l at [] l at
nothing l at = record { stored = refl; place = omega arith }

-- ---- the lines one after the other
module _ (width : ℕ) (a b : List ℕ) where
  abbrev line_at : ℕ → List ℕ
  line_at i = diff_of width i (row_of width a i) (row_of width b i)

  lines_step : (r n : ℕ) → r < n → diff_lines width a b r (n - r) ≡ line_at r ++ diff_lines width a b (r + 1) (n - (r + 1))
  unfolding diff_lines
  lines_step r n h = ap (concat_map line_at) (count_step r n h)

  lines_end : (r n : ℕ) → n ≤ r → diff_lines width a b r (n - r) ≡ []
  unfolding diff_lines
  lines_end r n h = ap (concat_map line_at) (count_end r n h)

  abbrev one : ℕ → ℕ
  one i = differs (row_of width a i) (row_of width b i)

  count_more : (r n : ℕ) → r < n → differing width a b r (n - r) ≡ one r + differing width a b (r + 1) (n - (r + 1))
  unfolding differing
  count_more r n h = ap (sum_by one) (count_step r n h)

  count_none : (r n : ℕ) → n ≤ r → differing width a b r (n - r) ≡ 0
  unfolding differing
  count_none r n h = ap (sum_by one) (count_end r n h)

  row_at : (l : List ℕ) (from r w : ℕ) → from ≡ r * width → w ≡ width → part from w l ≡ row_of width l r
  unfolding row_of
  row_at l from r w e f = rw (e, f)

  -- what is left from row r on gives the whole
  pub record Left (out₀ out : List ℕ) (at count depth r : ℕ) : Type 0 where
    pub stored : sets out at (diff_lines width a b r (depth - r)) ≡ sets out₀ 0 (diff_lines width a b 0 depth)
    pub place : at + length (diff_lines width a b r (depth - r)) ≡ length (diff_lines width a b 0 depth)
    pub counted : count + differing width a b r (depth - r) ≡ differing width a b 0 depth

  pub left_all : (out : List ℕ) (depth : ℕ) → Left out out 0 0 depth 0
  left_all out depth =
      let z : depth - 0 ≡ depth = omega arith in
      record { stored = rw z; place = omega (arith, ap (λ (n : ℕ). length (diff_lines width a b 0 n)) z); counted = omega (arith, ap (differing width a b 0) z) }

  pub left_turn : (out₀ out out' : List ℕ) (at at' count count' depth r from w : ℕ) (x y : List ℕ) → r < depth → from ≡ r * width → w ≡ width → x ≡ part from w a → y ≡ part from w b
      → Put out at (diff_of width r x y) out' at' → count' ≡ count + differs x y → Left out₀ out at count depth r → Left out₀ out' at' count' depth (r + 1)
  left_turn out₀ out out' at at' count count' depth r from w x y h e f ex ey p k g =
      let ax : x ≡ row_of width a r = ex ∙ row_at a from r w e f in
      let by : y ≡ row_of width b r = ey ∙ row_at b from r w e f in
      let t : diff_of width r x y ≡ line_at r = λ i. diff_of width r (ax i) (by i) in
      let d : differs x y ≡ one r = λ i. differs (ax i) (by i) in
      let rest = diff_lines width a b (r + 1) (depth - (r + 1)) in
      let step = lines_step r depth h in
      record {
        stored =
            ap (λ (l : List ℕ). sets l at' rest) p.stored
            ∙ sets_at out at at' (diff_of width r x y) rest p.place
            ∙ ap (λ (l : List ℕ). sets out at (l ++ rest)) t
            ∙ ap (sets out at) (sym step)
            ∙ g.stored;
        place = omega (arith, p.place, ap length t, ap length step, length-append (line_at r) rest, g.place);
        counted = omega (arith, k, d, count_more r depth h, g.counted);
      }

  pub left_end : (out₀ out : List ℕ) (at count depth r : ℕ) → depth ≤ r → Left out₀ out at count depth r
      → Put out₀ 0 (diff_lines width a b 0 depth) out at × (count ≡ differing width a b 0 depth)
  left_end out₀ out at count depth r h g =
      let e = lines_end r depth h in
      (record { stored = sym (ap (sets out at) e) ∙ g.stored; place = omega (arith, ap length e, g.place) }, omega (arith, count_none r depth h, g.counted))

-- ---- the last line, and the whole
pub last_same : (n : ℕ) → n ≡ 0 → same_line ≡ last_line n
unfolding last_line
last_same n e = rw (eq-eqb n 0 e)

pub last_differ : (n : ℕ) → n ≢ 0 → differ_word ++ decimal n ++ (10 ∷ []) ≡ last_line n
unfolding last_line
last_differ n e = rw (ne_eqb n 0 e)

module _ (depth width : ℕ) (a b : List ℕ) where
  pub diff_deep : 32768 < depth → [] ≡ diff_text depth width a b
  unfolding diff_text
  diff_deep h = rw (lt-ltb 32768 depth h)

  pub diff_wide : depth ≤ 32768 → 128 < width → [] ≡ diff_text depth width a b
  unfolding diff_text
  diff_wide g h = rw (le-ltb 32768 depth g, lt-ltb 128 width h)

  pub diff_is : depth ≤ 32768 → width ≤ 128 → diff_text depth width a b ≡ diff_lines width a b 0 depth ++ last_line (differing width a b 0 depth)
  unfolding diff_text
  diff_is g h = rw (le-ltb 32768 depth g, le-ltb 128 width h)

  pub diff_all : (count : ℕ) → depth ≤ 32768 → width ≤ 128 → count ≡ differing width a b 0 depth → diff_lines width a b 0 depth ++ last_line count ≡ diff_text depth width a b
  diff_all count g h e = ap (λ (n : ℕ). diff_lines width a b 0 depth ++ last_line n) e ∙ sym (diff_is g h)

-- ---- how far the rows go
pub times_max : (r w : ℕ) → r ≤ 32768 → w ≤ 128 → r * w ≤ 32768 * 128
times_max r w h k = mul-le-mul {n₂ = 32768} {m₂ = 128} h k

pub one_more : (r w : ℕ) → (r + 1) * w ≡ r * w + w
one_more r w = rw add-one (suc-mul r w)

pub no_times : (w : ℕ) → 0 ≡ 0 * w
no_times w = sym (zero-mul w)

-- ---- a table and itself
module _ (width : ℕ) (a : List ℕ) where
  none_differ : (r n : ℕ) → (diff_lines width a a r n ≡ []) × (differing width a a r n ≡ 0)
  unfolding diff_lines differing
  none_differ r zero = (refl, refl)
  none_differ r (suc n) =
      let s = sym (same_refl (row_of width a r)) in
      let e = none_differ (suc r) n in
      let t : diff_of width r (row_of width a r) (row_of width a r) ≡ [] = sym (no_line width r (row_of width a r) (row_of width a r) s) in
      (ap (λ (l : List ℕ). l ++ diff_lines width a a (suc r) n) t ∙ e.0, omega (arith, no_count (row_of width a r) (row_of width a r) s, e.1))

  -- says `same`
  pub diff_same : (depth : ℕ) → depth ≤ 32768 → width ≤ 128 → diff_text depth width a a ≡ same_line
  diff_same depth g h =
      let e = none_differ 0 depth in
      diff_is depth width a a g h ∙ (λ i. e.0 i ++ last_line (e.1 i)) ∙ sym (last_same 0 refl)
