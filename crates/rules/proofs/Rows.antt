-- The rows of a memory as one list, and the exchange of one row.
use Prim.Native.Nat.{ℕ, ◌+◌, ◌-◌, ◌*◌, ◌≤◌, ◌<◌}
use mathlib.Core.Path.{◌≡◌, sym, ap, ◌∙◌}
use mathlib.Core.List.{List, ◌++◌, append_assoc}
use native.Mathlib.Nat.{mul-le-mul_right, suc-mul}
use native.Mathlib.Omega.{arith}
use lib.ListN.{length, take, drop, length-append, length-drop, take-append-drop}
use lib.Seq.{take-append-le, drop-append-le, take_at, drop_at, drop-drop, length-take-le, drop-append-add}
use Rattle.rules.specs.Image.{row_of}
use Rattle.rules.specs.Patch.{exchange}

-- a part that ends within the first list
part_left : (w a : ℕ) (p x : List ℕ) → a + w ≤ length p → take w (drop a (p ++ x)) ≡ take w (drop a p)
part_left w a p x l = rw (drop-append-le a p x (omega arith), take-append-le w (drop a p) x (rw (length-drop a p) (omega arith)))

module _ (w r : ℕ) (v rows : List ℕ) (lv : length v ≡ w) (lr : r * w + w ≤ length rows) where
  head_length : length (take (r * w) rows) ≡ r * w
  head_length = length-take-le (r * w) rows (omega arith)

  pub length_exchange : length (exchange w r v rows) ≡ length rows
  unfolding exchange
  length_exchange = rw (length-append (take (r * w) rows) (v ++ drop (r * w + w) rows), length-append v (drop (r * w + w) rows), length-drop (r * w + w) rows, head_length) (omega arith)

  pub row_same : row_of w (exchange w r v rows) r ≡ v
  unfolding row_of exchange
  row_same = ap (take w) (drop_at (take (r * w) rows) (v ++ drop (r * w + w) rows) (r * w) head_length) ∙ take_at v (drop (r * w + w) rows) w lv

  pub row_below : (k : ℕ) → k < r → row_of w (exchange w r v rows) k ≡ row_of w rows k
  unfolding row_of exchange
  row_below k l =
      let m : k * w + w ≤ length (take (r * w) rows) = rw head_length (omega (arith, mul-le-mul_right w l, suc-mul k w)) in
      part_left w (k * w) (take (r * w) rows) (v ++ drop (r * w + w) rows) m
      ∙ sym (part_left w (k * w) (take (r * w) rows) (drop (r * w) rows) m)
      ∙ ap (λ (l : List ℕ). take w (drop (k * w) l)) (take-append-drop (r * w) rows)

  pub row_above : (k : ℕ) → r < k → row_of w (exchange w r v rows) k ≡ row_of w rows k
  unfolding row_of exchange
  row_above k l =
      let n = k * w - (r * w + w) in
      let e : k * w ≡ r * w + w + n = omega (arith, mul-le-mul_right w l, suc-mul r w) in
      let f : length (take (r * w) rows ++ v) ≡ r * w + w = length-append (take (r * w) rows) v ∙ omega (arith, head_length) in
      ap (take w) (ap (λ (l : List ℕ). drop (k * w) l) (sym (append_assoc (take (r * w) rows) v (drop (r * w + w) rows)))
      ∙ ap (λ (m : ℕ). drop m ((take (r * w) rows ++ v) ++ drop (r * w + w) rows)) (e ∙ ap (λ (m : ℕ). m + n) (sym f))
      ∙ drop-append-add (take (r * w) rows ++ v) (drop (r * w + w) rows) n
      ∙ drop-drop n (r * w + w) rows ∙ ap (λ (m : ℕ). drop m rows) (sym e))
