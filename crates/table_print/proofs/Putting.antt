-- Rows put into lent room byte by byte.
use mathlib.Core.Path.{◌≡◌, refl, sym, ap, ◌∙◌}
use mathlib.Core.Bool.{Bool, true, false}
use mathlib.Core.List.{List, [], ◌∷◌}
use Prim.Native.Nat.{ℕ, zero, suc, ◌+◌, ◌-◌, ◌*◌, ◌≤◌, ◌<◌}
use native.Mathlib.Nat.{suc-mul, mul-le-mul, zero-mul}
use native.Mathlib.Numerals.{add-one}
use native.Mathlib.Omega.{arith}
use lib.ListN.{length, get_or, set}
use lib.Seq.{sets}
use lib.Dec.{eqb}
use borrow.Author.Tests.{lt-ltb, le-ltb}
use Rattle.lists.specs.Choice.{when◌then◌else◌}
use Rattle.lists.proofs.Store.{sets_at}
use Rattle.rules.specs.Limits.{trit_x}
use Rattle.table_print.specs.Rows.{char_of, bits_text, rows_from, rows_text, rows_shown}
use Rattle.table_print.proofs.Back.{bits_append}

at_most : (p q : Bool) → (when p then 48 else when q then 49 else 120) ≤ 120
at_most true q = omega arith
at_most false true = omega arith
at_most false false = omega arith

-- ---- the trits of a row
pub length_bits : (rows : List ℕ) (from k : ℕ) → length (bits_text rows from k []) ≡ k
unfolding bits_text
length_bits rows from zero = refl
length_bits rows from (suc k) = ap suc (length_bits rows from k)

bits_step : (rows out : List ℕ) (from next k : ℕ) (a : List ℕ)
    → sets (set out next (char_of (get_or rows (from + k) trit_x))) (next + 1) (bits_text rows from k a) ≡ sets out next (bits_text rows from (suc k) a)
unfolding bits_text
bits_step rows out from next k a = rw add-one

pub bits_turn : (rows out out' : List ℕ) (from next left c t j : ℕ) → 0 < left → j ≡ left - 1 → t ≡ get_or rows (from + j) trit_x → c ≡ char_of t → out' ≡ set out next c
    → sets out' (next + 1) (bits_text rows from (left - 1) []) ≡ sets out next (bits_text rows from left [])
bits_turn rows out out' from next left c t j h e f g o =
    let z : left ≡ suc (left - 1) = omega arith in
    ap (λ (l : List ℕ). sets l (next + 1) (bits_text rows from (left - 1) []))
    (o ∙ ap (set out next) (g ∙ ap char_of (f ∙ ap (λ (n : ℕ). get_or rows (from + n) trit_x) e)))
    ∙ bits_step rows out from next (left - 1) []
    ∙ ap (λ (n : ℕ). sets out next (bits_text rows from n [])) (sym z)

pub bits_end : (rows out : List ℕ) (from next left : ℕ) → left ≤ 0 → sets out next (bits_text rows from left []) ≡ out
unfolding bits_text
bits_end rows out from next zero h = refl
bits_end rows out from next (suc left) h = absurd (omega arith)

-- ---- a row with its line break
pub length_row : (rows : List ℕ) (from k : ℕ) → length (bits_text rows from k (10 ∷ [])) ≡ k + 1
unfolding bits_text
length_row rows from zero = refl
length_row rows from (suc k) = let e : suc (k + 1) ≡ suc k + 1 = omega arith in ap suc (length_row rows from k) ∙ e

-- ---- the rows
module _ (width : ℕ) (rows : List ℕ) where
  rows_step : (out : List ℕ) (next r n : ℕ)
      → sets (sets out next (bits_text rows (r * width) width (10 ∷ []))) (next + (width + 1)) (rows_from width rows (suc r) n []) ≡ sets out next (rows_from width rows r (suc n) [])
  unfolding rows_from
  rows_step out next r n =
      sets_at out next (next + (width + 1)) (bits_text rows (r * width) width (10 ∷ [])) (rows_from width rows (suc r) n []) (ap (λ (m : ℕ). next + m) (sym (length_row rows (r * width) width)))
      ∙ ap (sets out next) (bits_append rows (r * width) width (10 ∷ []) (rows_from width rows (suc r) n []))

  pub rows_turn : (out out' : List ℕ) (next next' from row depth : ℕ) → row < depth → from ≡ row * width → out' ≡ sets out next (bits_text rows from width (10 ∷ [])) → next' ≡ next + (width + 1)
      → sets out' next' (rows_from width rows (row + 1) (depth - (row + 1)) []) ≡ sets out next (rows_from width rows row (depth - row) [])
  rows_turn out out' next next' from row depth h f o e =
      let z : depth - row ≡ suc (depth - (row + 1)) = omega arith in
      rw (o, f, e, add-one row, z) (ap (λ (m : ℕ). sets (sets out next (bits_text rows (row * width) width (10 ∷ []))) (next + (width + 1)) (rows_from width rows (suc row) m [])) (ap (λ (m : ℕ). depth - m) (sym (add-one row))) ∙ rows_step out next row (depth - (row + 1)))

  no_rows : (out : List ℕ) (next row : ℕ) → sets out next (rows_from width rows row 0 []) ≡ out
  unfolding rows_from
  no_rows out next row = refl

  pub rows_end : (out : List ℕ) (next row depth : ℕ) → depth ≤ row → sets out next (rows_from width rows row (depth - row) []) ≡ out
  rows_end out next row depth h = let z : depth - row ≡ 0 = omega arith in rw z (no_rows out next row)

length_step : (rows : List ℕ) (from k : ℕ) (a : List ℕ) → length (bits_text rows from k a) ≡ k + length a
unfolding bits_text
length_step rows from zero a = omega arith
length_step rows from (suc k) a = omega (arith, length_step rows from k a)

pub length_rows : (width : ℕ) (rows : List ℕ) (r n : ℕ) → length (rows_from width rows r n []) ≡ n * (width + 1)
unfolding rows_from
length_rows width rows r zero = sym (zero-mul (width + 1))
length_rows width rows r (suc n) =
    omega (arith, length_step rows (r * width) width (10 ∷ rows_from width rows (suc r) n []), length_rows width rows (suc r) n, suc-mul n (width + 1))

-- ---- how far the rows go
pub times_max : (r w : ℕ) → r ≤ 32768 → w ≤ 129 → r * w ≤ 32768 * 129
times_max r w h k = mul-le-mul {n₂ = 32768} {m₂ = 129} h k

pub one_more : (r w : ℕ) → (r + 1) * w ≡ r * w + w
one_more r w = rw add-one (suc-mul r w)

pub no_times : (w : ℕ) → 0 ≡ 0 * w
no_times w = sym (zero-mul w)

pub rows_start : (width depth : ℕ) (rows out : List ℕ) → sets out 0 (rows_from width rows 0 (depth - 0) []) ≡ sets out 0 (rows_from width rows 0 depth [])
rows_start width depth rows out = let z : depth - 0 ≡ depth = omega arith in rw z

pub same_times : (a b w : ℕ) → a ≡ b → a * w ≡ b * w
same_times a b w e = ap (λ (n : ℕ). n * w) e

-- ---- within the limits
module _ (depth width : ℕ) (rows : List ℕ) where
  pub shown_deep : 32768 < depth → [] ≡ rows_shown depth width rows
  unfolding rows_shown
  shown_deep h = rw (lt-ltb 32768 depth h)

  pub shown_wide : depth ≤ 32768 → 128 < width → [] ≡ rows_shown depth width rows
  unfolding rows_shown
  shown_wide g h = rw (le-ltb 32768 depth g, lt-ltb 128 width h)

  pub shown_all : depth ≤ 32768 → width ≤ 128 → rows_from width rows 0 depth [] ≡ rows_shown depth width rows
  unfolding rows_shown rows_text
  shown_all g h = rw (le-ltb 32768 depth g, le-ltb 128 width h)
