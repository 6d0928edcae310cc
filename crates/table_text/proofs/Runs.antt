-- The machines byte by byte: a store, a turn of either loop, and its end.
use mathlib.Core.Path.{◌≡◌, refl, sym, ap, ◌∙◌}
use mathlib.Core.Bool.{Bool, true, false, ◌&&◌}
use mathlib.Core.List.{List, [], ◌∷◌, ◌++◌}
use Prim.Native.Nat.{ℕ, zero, suc, ◌+◌, ◌≤◌, ◌<◌}
use native.Mathlib.Numerals.{add-one}
use native.Mathlib.Omega.{arith}
use lib.ListN.{length, drop, get_or, set, length-append, length-set, drop_of_length-le}
use lib.Seq.{drop-cons}
use lib.Dec.{eqb}
use Rattle.lists.specs.Choice.{when◌then◌else◌}
use Rattle.table_text.specs.Bytes.{low_word, trit_of}
use Rattle.table_text.specs.Head.{Head}
use Rattle.table_text.specs.Scan.{Scan}
use Rattle.table_text.specs.Head.{head_step_of, is_stop, head_stored, head_run}
use Rattle.table_text.specs.Scan.{scan_step_of, is_stored, place_of, scan_stored, scan_run}

-- ---- the byte at a place, and a line break past the end
pub byte_in : (text : List ℕ) (i : ℕ) → i < length text → get_or text i 0 ≡ get_or text i 10
byte_in [] i h = absurd (omega arith)
byte_in (x ∷ text) zero h = refl
byte_in (x ∷ text) (suc i) h = byte_in text i (omega arith)

pub byte_past : (text : List ℕ) (i : ℕ) → length text ≤ i → 10 ≡ get_or text i 10
byte_past [] i h = refl
byte_past (x ∷ text) zero h = absurd (omega arith)
byte_past (x ∷ text) (suc i) h = byte_past text i (omega arith)

byte_closed : (text : List ℕ) (i : ℕ) → i ≤ length text → get_or text i 10 ≡ get_or (text ++ (10 ∷ [])) i 0
byte_closed [] zero h = refl
byte_closed [] (suc i) h = absurd (omega arith)
byte_closed (x ∷ text) zero h = refl
byte_closed (x ∷ text) (suc i) h = byte_closed text i (omega arith)

-- the next byte and what follows
pub next_byte : (text : List ℕ) (i b : ℕ) → i ≤ length text → b ≡ get_or text i 10
    → drop i (text ++ (10 ∷ [])) ≡ b ∷ drop (i + 1) (text ++ (10 ∷ []))
next_byte text i b h e =
    let t = text ++ (10 ∷ []) in
    rw (e, byte_closed text i h, add-one) (drop-cons t i 0 (omega (arith, length-append text (10 ∷ []))))

pub no_byte : (text : List ℕ) (i : ℕ) → length text < i → drop i (text ++ (10 ∷ [])) ≡ []
no_byte text i h = drop_of_length-le (text ++ (10 ∷ [])) {i = i} (omega (arith, length-append text (10 ∷ [])))

-- ---- stores
length_if : (t : Bool) (ws : List ℕ) (i v : ℕ) → length (when t then set ws i v else ws) ≡ length ws
length_if true ws i v = length-set ws i v
length_if false ws i v = refl

pub length_head_stored : (h : Head) (b : ℕ) (ws : List ℕ) → length (head_stored h b ws) ≡ length ws
unfolding head_stored
length_head_stored h b ws = length_if (eqb h.kind 1 && is_stop b) ws h.count (low_word h.value)

module _ (depth width : ℕ) (s : Scan) (b : ℕ) (rows : List ℕ) where
  pub length_scan_stored : length (scan_stored depth width s b rows) ≡ length rows
  unfolding scan_stored
  length_scan_stored = length_if (is_stored depth width s b) rows (place_of width s) (trit_of b)

-- ---- turns
head_step : (h : Head) (ws : List ℕ) (b : ℕ) (bs : List ℕ) → eqb h.kind 3 ≡ false → head_run h ws (b ∷ bs) ≡ head_run (head_step_of h b) (head_stored h b ws) bs
unfolding head_run
head_step h ws b bs n = rw n

pub head_turn : (h : Head) (ws text : List ℕ) (i b : ℕ) → i ≤ length text → b ≡ get_or text i 10 → eqb h.kind 3 ≡ false
    → head_run (head_step_of h b) (head_stored h b ws) (drop (i + 1) (text ++ (10 ∷ []))) ≡ head_run h ws (drop i (text ++ (10 ∷ [])))
head_turn h ws text i b l e n =
    sym (head_step h ws b (drop (i + 1) (text ++ (10 ∷ []))) n) ∙ sym (ap (head_run h ws) (next_byte text i b l e))

pub head_stop : (h : Head) (ws bs : List ℕ) → eqb h.kind 3 ≡ true → head_run h ws bs ≡ record { state = h; words = ws; rest = bs }
unfolding head_run
head_stop h ws [] e = refl
head_stop h ws (b ∷ bs) e = rw e

pub head_end_lem : (h : Head) (ws text : List ℕ) (i : ℕ) → length text < i
    → head_run h ws (drop i (text ++ (10 ∷ []))) ≡ record { state = h; words = ws; rest = drop i (text ++ (10 ∷ [])) }
unfolding head_run
head_end_lem h ws text i l = rw (no_byte text i l)

scan_step : (d w : ℕ) (s : Scan) (rows : List ℕ) (b : ℕ) (bs : List ℕ) → scan_run d w s rows (b ∷ bs) ≡ scan_run d w (scan_step_of d w s b) (scan_stored d w s b rows) bs
unfolding scan_run
scan_step d w s rows b bs = refl

pub scan_turn : (d w : ℕ) (s : Scan) (rows text : List ℕ) (i b : ℕ) → i ≤ length text → b ≡ get_or text i 10
    → scan_run d w (scan_step_of d w s b) (scan_stored d w s b rows) (drop (i + 1) (text ++ (10 ∷ []))) ≡ scan_run d w s rows (drop i (text ++ (10 ∷ [])))
scan_turn d w s rows text i b l e =
    sym (scan_step d w s rows b (drop (i + 1) (text ++ (10 ∷ [])))) ∙ sym (ap (scan_run d w s rows) (next_byte text i b l e))

pub scan_end : (d w : ℕ) (s : Scan) (rows text : List ℕ) (i : ℕ) → length text < i
    → scan_run d w s rows (drop i (text ++ (10 ∷ []))) ≡ record { state = s; rows = rows }
unfolding scan_run
scan_end d w s rows text i l = rw (no_byte text i l)

-- ---- a trit fits a byte
at_most : (p q r s : Bool) → (when p then 0 else when q then 1 else when r then 2 else when s then 2 else 3) ≤ 3
at_most true q r s = omega arith
at_most false true r s = omega arith
at_most false false true s = omega arith
at_most false false false true = omega arith
at_most false false false false = omega arith
