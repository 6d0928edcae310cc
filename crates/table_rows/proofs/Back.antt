-- The rows of an image that is laid out are the rows that were laid out.
use Prim.Native.Nat.{ℕ, zero, suc, ◌+◌, ◌*◌, ◌<◌}
use mathlib.Core.Path.{◌≡◌, refl, sym, ap, ◌∙◌}
use mathlib.Core.Bool.{false}
use mathlib.Core.List.{List, [], ◌++◌}
use native.Mathlib.Omega.{arith}
use native.Mathlib.Nat.{suc-mul, zero-mul}
use lib.ListN.{length, take, drop, length-append, take-append-drop, drop_of_length-le}
use lib.Seq.{drop-drop}
use Rattle.rules.specs.Geometry.{Layout}
use Rattle.rules.specs.Image.{image_size, row_of, layout}
use Rattle.rules.specs.Conditions.{bad_layout}
use Rattle.rules.specs.Beside.Layouts.{read_row}
use Rattle.rules.proofs.ReadBack.{length_read_row, read_front, read_layout}
use Rattle.table_rows.specs.Rows.{rows_on, image_rows}

module _ (q : Layout) (image : List ℕ) where
  on_more : (r n : ℕ) → rows_on q image r (suc n) ≡ read_row q image r ++ rows_on q image (suc r) n
  unfolding rows_on
  on_more r n = refl

  on_none : (r : ℕ) → rows_on q image r 0 ≡ []
  unfolding rows_on
  on_none r = refl

  length_on : (r n : ℕ) → length (rows_on q image r n) ≡ n * q.width
  length_on r zero = ap length (on_none r) ∙ sym (zero-mul q.width)
  length_on r (suc n) =
      omega
      (arith, ap length (on_more r n), length-append (read_row q image r) (rows_on q image (suc r) n), length_read_row q image r, length_on (suc r) n, suc-mul n q.width)

  -- the rows are depth × width trits
  pub length_rows : length (image_rows q image) ≡ q.depth * q.width
  unfolding image_rows
  length_rows = length_on 0 q.depth

row_and_rest : (w r : ℕ) (rows : List ℕ) → row_of w rows r ++ drop (suc r * w) rows ≡ drop (r * w) rows
unfolding row_of
row_and_rest w r rows =
    ap (λ (n : ℕ). take w (drop (r * w) rows) ++ drop n rows) (suc-mul r w)
    ∙ ap (λ (l : List ℕ). take w (drop (r * w) rows) ++ l) (sym (drop-drop w (r * w) rows))
    ∙ take-append-drop w (drop (r * w) rows)

module _ (q : Layout) (image rows : List ℕ) (each : (r : ℕ) → r < q.depth → read_row q image r ≡ row_of q.width rows r) (len : length rows ≡ q.depth * q.width) where
  on_drop : (r n : ℕ) → r + n ≡ q.depth → rows_on q image r n ≡ drop (r * q.width) rows
  on_drop r zero e =
      let d : q.depth ≡ r = omega arith in
      on_none q image r ∙ sym (drop_of_length-le rows {i = r * q.width} (omega (arith, len, ap (λ (n : ℕ). n * q.width) d)))
  on_drop r (suc n) e =
      on_more q image r n
      ∙ ap (λ (l : List ℕ). l ++ rows_on q image (suc r) n) (each r (omega arith))
      ∙ ap (λ (l : List ℕ). row_of q.width rows r ++ l) (on_drop (suc r) n (omega arith))
      ∙ row_and_rest q.width r rows

  rows_same : image_rows q image ≡ rows
  unfolding image_rows
  rows_same = on_drop 0 q.depth (omega arith) ∙ ap (λ (n : ℕ). drop n rows) (zero-mul q.width)

-- a lent array whose front is the image of the rows
pub rows_back : (q : Layout) → bad_layout q ≡ false → (rows buffer : List ℕ) → length rows ≡ q.depth * q.width → take (image_size q) buffer ≡ layout q rows
    → image_rows q buffer ≡ rows
rows_back q g rows buffer len front =
    rows_same q buffer rows
    (λ r h. read_front q g buffer r h ∙ ap (λ (l : List ℕ). read_row q l r) front ∙ read_layout q g rows len r h) len
